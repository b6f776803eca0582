use Rattle.aig_base.proofs.Words.{◌≡◌, err_from_is_err_and}
use Rattle.aig_reader.specs.declared.error.ReadError.TheVariants as read
use Rattle.aig_witness.specs.declared.file.ShowError.TheVariants as shows
use Rattle.aig_witness.specs.Witness.{claim_by}
use Rattle.aig_witness.proofs.NextClaims.{answers, judged_next, not_of_file, refuses, refuses_next}
use Rattle.aig_witness.proofs.fair.file.check_claim.Goals as goal

pub returns-in_err-circuit-clause-verdict : goal.returns-in_err-circuit-clause-verdict
returns-in_err-circuit-clause-verdict g c =
    let p = err_from_is_err_and c.from_residual.result c.from_residual.ensures.1 in
    rw (p.1, p.2) c.in_err-circuit.ensures.verdict

pub returns-in_err-claim-clause-verdict : goal.returns-in_err-claim-clause-verdict
returns-in_err-claim-clause-verdict g c =
    let p = err_from_is_err_and c.from_residual-in_err-claim.result
    c.from_residual-in_err-claim.ensures.1 in
    rw (p.1, p.2) (judged_next _ _ c.args.limit _ _ _ c.in_err-claim.field-0.0
    c.in_ok-circuit.ensures.verdict c.in_err-claim.ensures.err)

pub returns-in_err-claim-clause-never_open : goal.returns-in_err-claim-clause-never_open
returns-in_err-claim-clause-never_open g c =
    let p = err_from_is_err_and c.from_residual-in_err-claim.result
    c.from_residual-in_err-claim.ensures.1 in
    rw (p.1, p.2) (λ is. not_of_file _ _ c.in_err-claim.field-0.0 read.Open
    c.in_err-claim.ensures.err (let same : c.in_err-claim.field-0.0 ≡ shows.File
    read.Open = cc in same))

pub returns-in_err-claim-clause-refusal : goal.returns-in_err-claim-clause-refusal
returns-in_err-claim-clause-refusal g c =
    let p = err_from_is_err_and c.from_residual-in_err-claim.result
    c.from_residual-in_err-claim.ensures.1 in
    rw (p.1, p.2) (refuses_next _ _ c.args.limit _ _ c.in_err-claim.field-0.0
    c.in_err-claim.ensures.err)

pub returns-in_err-claim-clause-unread : goal.returns-in_err-claim-clause-unread
returns-in_err-claim-clause-unread g c =
    let p = err_from_is_err_and c.from_residual-in_err-claim.result
    c.from_residual-in_err-claim.ensures.1 in
    rw (p.1, p.2) (λ of is. absurd (not_of_file _ _ c.in_err-claim.field-0.0 of
    c.in_err-claim.ensures.err (let same : c.in_err-claim.field-0.0 ≡ shows.File of = cc in
    same)))

pub returns-clause-answer : goal.returns-clause-answer
returns-clause-answer g c =
    answers c.args.limit _ _ (g.W.Source.left c.args.w.now) c.in_ok-circuit.circuit
    (claim_by c.in_ok-claim.claim) c.in_ok-circuit.ensures.circuit c.in_ok-claim.ensures.ok
    c.known_witnesses_show.ensures c.known_lassos_show.ensures c.check_shown.result
    c.check_shown.ensures

pub returns-clause-refusal : goal.returns-clause-refusal
returns-clause-refusal g c =
    refuses c.args.limit _ _ (g.W.Source.left c.args.w.now) c.in_ok-circuit.circuit
    (claim_by c.in_ok-claim.claim) c.in_ok-circuit.ensures.circuit c.in_ok-claim.ensures.ok
    (g.W.Source.failed c.read_first.new.w) c.check_shown.result c.check_shown.ensures
