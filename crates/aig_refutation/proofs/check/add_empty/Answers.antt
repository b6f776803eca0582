use Rattle.std.proofs.lemmas.Result.{err_from_is_err_and}
use Rattle.aig_refutation.proofs.Kept.{empty_ends, kept_itself}
use Rattle.aig_refutation.proofs.check.add_empty.Goals as goal

pub returns-in_err-add_next-clause-ahead : goal.returns-in_err-add_next-clause-ahead
returns-in_err-add_next-clause-ahead c clauses ahead =
    let p = err_from_is_err_and c.from_residual-in_err-add_next.result
    c.from_residual-in_err-add_next.ensures.1 in
    rw (p.1, p.2) (c.in_err-add_next.ensures.ahead clauses ahead)

pub returns-then-not-is_in_conflict-clause-keeps : goal.returns-then-not-is_in_conflict-clause-keeps
returns-then-not-is_in_conflict-clause-keeps c live h =
    kept_itself live c.args.checker.now.table h

pub returns-clause-keeps : goal.returns-clause-keeps
returns-clause-keeps c live h =
    rw c.is_some.ensures
    (empty_ends live c.add_next.new.self.table c.in_ok-add_next.field-0
    (c.in_ok-add_next.ensures.keeps live h))
