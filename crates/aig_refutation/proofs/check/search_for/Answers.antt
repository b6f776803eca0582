use Rattle.std.proofs.lemmas.Result.{err_from_is_err_and}
use Rattle.aig_refutation.proofs.Kept.{kept_itself}
use Rattle.aig_refutation.proofs.check.search_for.Goals as goal

pub returns-in_err-start_search-clause-ahead : goal.returns-in_err-start_search-clause-ahead
returns-in_err-start_search-clause-ahead c clauses ahead =
    let p = err_from_is_err_and c.from_residual-in_err-start_search.result
    c.from_residual-in_err-start_search.ensures.1 in
    rw (p.1, p.2) (c.in_err-start_search.ensures.ahead clauses ahead)

pub returns-then-step-clause-keeps : goal.returns-then-step-clause-keeps
returns-then-step-clause-keeps c live h = kept_itself live c.args.checker.now.table h
