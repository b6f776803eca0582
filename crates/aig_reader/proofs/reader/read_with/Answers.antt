use Rattle.aig_base.proofs.Words.{Err, Ok, err_from_is_err_and}
use Rattle.aig_reader.specs.Reading.{AreListsOf}
use Rattle.aig_reader.proofs.Accepting.{judged, never_open}
use Rattle.aig_reader.proofs.Told.{lists_read}
use Rattle.aig_reader.proofs.reader.read_with.Goals as goal

pub returns-in_err-read-clause-verdict : goal.returns-in_err-read-clause-verdict
returns-in_err-read-clause-verdict g c =
    let p = err_from_is_err_and c.from_residual.result c.from_residual.ensures.1 in
    rw (p.1, p.2) (judged c.args.limit _ _ _ AreListsOf (Err c.in_err-read.field-0.0) tt tt
    c.in_err-read.ensures.refusal)

pub returns-in_err-read-clause-never_open : goal.returns-in_err-read-clause-never_open
returns-in_err-read-clause-never_open g c =
    let p = err_from_is_err_and c.from_residual.result c.from_residual.ensures.1 in
    rw (p.1, p.2) (never_open _ c.args.limit _ _ (Err c.in_err-read.field-0.0)
    c.in_err-read.ensures.refusal)

pub returns-clause-circuit : goal.returns-clause-circuit
returns-clause-circuit g c = lists_read AreListsOf _ _ c.in_ok-read.read
    c.in_ok-read.ensures.circuit

pub returns-clause-verdict : goal.returns-clause-verdict
returns-clause-verdict g c = judged c.args.limit _ _ _ AreListsOf (Ok c.in_ok-read.read.lists)
    (lists_read AreListsOf _ _ c.in_ok-read.read c.in_ok-read.ensures.circuit)
    c.in_ok-read.ensures.whole tt
