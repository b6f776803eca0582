use Rattle.std.proofs.lemmas.Result.{err_from_is_err_and}
use Rattle.std.proofs.Common.{true}
use Rattle.aig_witness.specs.Witness.{claim_by}
use Rattle.aig_lexer.proofs.Faults.{tells-weaker}
use Rattle.aig_witness.specs.Faults.{witness_cause}
use Rattle.aig_witness.specs.Reading.{parse_next_claim}
use Rattle.aig_witness.proofs.Nexts.{has_fault, takes_next}
use Rattle.aig_witness.proofs.fair.file.read_first.Goals as goal

pub returns-in_err-claim-clause-err : goal.returns-in_err-claim-clause-err
returns-in_err-claim-clause-err g c =
    let p = err_from_is_err_and c.from_residual.result c.from_residual.ensures.1 in
    let e = c.in_err-claim.field-0.0 in
    rw (p.1, p.2) (tells-weaker (witness_cause e) _ _ _ (has_fault g.W.Source.left g.W.Source.failed
    g.W.Source.pulls true e c.args.w.now) (rw c.new-buffer.ensures at c.in_err-claim.ensures))

pub returns-in-Some-clause-ok : goal.returns-in-Some-clause-ok
returns-in-Some-clause-ok g c =
    takes_next g.W.Source.left g.W.Source.failed g.W.Source.pulls (parse_next_claim true)
    c.args.w.now _
    (claim_by c.in-Some.claim) (rw (c.in-Some.is, c.new-buffer.ensures) at
    c.in_ok-claim.ensures)
