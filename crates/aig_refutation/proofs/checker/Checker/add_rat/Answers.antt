use Rattle.aig_base.proofs.Words.{ap, sym, subst, err_from_is_err_and}
use Rattle.aig_refutation.specs.Ahead.{IsAhead}
use Rattle.aig_refutation.specs.Tables.{Holds, Table}
use Rattle.aig_refutation.proofs.checker.Checker.add_rat.Goals as goal

pub returns-in_err-put_next-clause-ahead : goal.returns-in_err-put_next-clause-ahead
returns-in_err-put_next-clause-ahead c clauses ahead =
    let e = c.in_err-put_next.field-0.0 in
    let p = err_from_is_err_and c.from_residual-in_err-put_next.result
    c.from_residual-in_err-put_next.ensures.1 in
    let here : IsAhead clauses c.has_rat.new.self.table = subst (λ (table : Table). IsAhead clauses
    table) (sym (ap (λ v. v.table) c.in_ok-has_rat.ensures.same))
    (subst (λ (table : Table). IsAhead clauses table) (sym c.fit.ensures.same) ahead) in
    rw (p.1, p.2) (c.in_err-put_next.ensures.ahead clauses here)

pub returns-clause-keeps : goal.returns-clause-keeps
returns-clause-keeps c live h =
    let before : Holds c.fit.new.self.table live = subst (λ (table : Table). Holds table live)
    (sym c.fit.ensures.same) h in
    let here : Holds c.has_rat.new.self.table live = subst (λ (table : Table). Holds table live)
    (sym (ap (λ v. v.table) c.in_ok-has_rat.ensures.same)) before in (
      c.in_ok-put_next.ensures.adds live here,
      c.in_ok-has_rat.ensures.keeps live before c.if-not-branch.false c.in_ok-put_next.field-0,
    )
