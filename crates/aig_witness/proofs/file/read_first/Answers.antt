use Rattle.std.proofs.lemmas.Result.{err_from_is_err_and}
use Rattle.std.proofs.Common.{false}
use Rattle.aig_witness.specs.Witness.{said_by}
use Rattle.aig_lexer.proofs.Faults.{tells-weaker}
use Rattle.aig_witness.specs.Faults.{witness_cause}
use Rattle.aig_witness.specs.Reading.{parse_next}
use Rattle.aig_witness.proofs.Nexts.{has_fault, takes_next}
use Rattle.aig_witness.proofs.file.read_first.Goals as goal

pub returns-in_err-witness-clause-err : goal.returns-in_err-witness-clause-err
returns-in_err-witness-clause-err g c =
    let p = err_from_is_err_and c.from_residual.result c.from_residual.ensures.1 in
    let e = c.in_err-witness.field-0.0 in
    rw (p.1, p.2) (tells-weaker (witness_cause e) _ _ _ (has_fault g.W.Source.left g.W.Source.failed
    g.W.Source.pulls false e c.args.w.now) (rw c.new-buffer.ensures at c.in_err-witness.ensures))

pub returns-in-Some-clause-ok : goal.returns-in-Some-clause-ok
returns-in-Some-clause-ok g c =
    takes_next g.W.Source.left g.W.Source.failed g.W.Source.pulls parse_next c.args.w.now _
    (said_by c.in-Some.witness) (rw (c.in-Some.is, c.new-buffer.ensures) at
    c.in_ok-witness.ensures)
