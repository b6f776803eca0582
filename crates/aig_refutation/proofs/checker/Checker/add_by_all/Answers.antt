use Rattle.aig_base.proofs.Words.{◌≡◌, ◌<◌, ◌^◌, ◌+◌, arith, ap, sym, subst, ◌∙◌, err_from_is_err_and}
use Rattle.aig_refutation.specs.Ahead.{IsAhead}
use Rattle.aig_refutation.specs.Tables.{Holds, Table}
use Rattle.aig_refutation.proofs.Kept.{implied_keeps}
use Rattle.aig_refutation.proofs.Unfollowed.{unfollowed}
use Rattle.aig_refutation.proofs.checker.Checker.add_by_all.Goals as goal

pub returns-then-not-is_entailed-clause-refused : goal.returns-then-not-is_entailed-clause-refused
returns-then-not-is_entailed-clause-refused c clauses ahead none =
    let t : Table = c.self.inside.numbered in
    let here : IsAhead clauses t = subst (λ (table : Table). IsAhead clauses table)
    (sym (ap (λ v. v.table) c.self.view_is))
    (subst (λ (table : Table). IsAhead clauses table) (sym c.fit.ensures.same) ahead) in
    let end = c.in_ok-end.end in
    let next : end ≡ t.added + 1 = c.in_ok-end.ensures ∙ ap (λ v. v.table.added + 1) (sym
    c.self.view_is) in
    let fits : end < 2 ^ 32 = omega arith in
    unfollowed t clauses here end next fits c.args.clause.now
    (c.is_entailed.ensures.closed c.if-not-is_entailed.true)
    (c.is_entailed.ensures.open c.if-not-is_entailed.true)

pub returns-in_err-put_next-clause-ahead : goal.returns-in_err-put_next-clause-ahead
returns-in_err-put_next-clause-ahead c clauses ahead =
    let e = c.in_err-put_next.field-0.0 in
    let p = err_from_is_err_and c.from_residual-in_err-put_next.result
    c.from_residual-in_err-put_next.ensures.1 in
    let here : IsAhead clauses c.self.inside.numbered = subst (λ (table : Table). IsAhead clauses
    table) (sym (ap (λ v. v.table) c.self.view_is))
    (subst (λ (table : Table). IsAhead clauses table) (sym c.fit.ensures.same) ahead) in
    rw (p.1, p.2) (c.in_err-put_next.ensures.ahead clauses here)

pub returns-clause-keeps : goal.returns-clause-keeps
returns-clause-keeps c live h =
    let t : Table = c.self.inside.numbered in
    let before : Holds t live = subst (λ (table : Table). Holds table live)
    (sym (ap (λ v. v.table) c.self.view_is))
    (subst (λ (table : Table). Holds table live) (sym c.fit.ensures.same) h) in (
      c.in_ok-put_next.ensures.adds live before,
      implied_keeps live c.args.clause.now c.in_ok-put_next.field-0 t before
          (c.is_entailed.ensures.implied c.if-not-is_entailed.false),
    )
