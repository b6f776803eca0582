use Rattle.aig_base.proofs.Words.{◌≡◌, Bool, true, Ok, ap, sym, subst, ◌∙◌, err_from_is_err_and}
use Rattle.aig_base.specs.declared.MemoryError.{MemoryError}
use Rattle.aig_refutation.specs.Ahead.{IsAhead}
use Rattle.aig_refutation.specs.Checking.{follows}
use Rattle.aig_refutation.specs.Tables.{FindsHints, Holds, Table}
use Rattle.aig_refutation.proofs.Kept.{follows_keeps, same_follows}
use Rattle.aig_refutation.proofs.checker.Checker.add_next.Goals as goal

pub returns-in_err-put_next-clause-ahead : goal.returns-in_err-put_next-clause-ahead
returns-in_err-put_next-clause-ahead c clauses ahead =
    let e = c.in_err-put_next.field-0.0 in
    let p = err_from_is_err_and c.from_residual-in_err-put_next.result
    c.from_residual-in_err-put_next.ensures.1 in
    let here : IsAhead clauses c.self.inside.numbered = subst (λ (table : Table). IsAhead clauses
    table) (sym (ap (λ v. v.table) c.self.view_is))
    (subst (λ (table : Table). IsAhead clauses table) (sym c.fit.ensures.same) ahead) in
    rw (p.1, p.2) (c.in_err-put_next.ensures.ahead clauses here)

pub returns-clause-keeps : goal.returns-clause-keeps
returns-clause-keeps c live h =
    let t : Table = c.self.inside.numbered in
    let before : Holds t live = subst (λ (table : Table). Holds table live)
    (sym (ap (λ v. v.table) c.self.view_is))
    (subst (λ (table : Table). Holds table live) (sym c.fit.ensures.same) h) in
    let clause = c.args.clause.now in
    let hints = c.args.hints.now in
    let finds : FindsHints {E = MemoryError} t hints c.find_hints.new.places.items (Ok true) =
    subst (λ (b : Bool). FindsHints {E = MemoryError} t hints c.find_hints.new.places.items (Ok b))
    c.if-not-are_there.false c.in_ok-are_there.ensures in
    let does : follows live clause hints ≡ true =
    sym (same_follows t live before clause hints c.clauses.result.now c.deref.result.now finds.1
    c.clauses.ensures (c.deref.ensures.value ∙ finds.0))
    ∙ sym c.is_implied.ensures.exact ∙ c.if-not-is_implied.false in (
      c.in_ok-put_next.ensures.adds live before,
      follows_keeps live clause c.in_ok-put_next.field-0 hints does,
    )
