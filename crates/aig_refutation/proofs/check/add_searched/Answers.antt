use Rattle.aig_base.proofs.Words.{◌≡◌, ◌∷◌, ℕ, List, Option, Some, Ok, true, length, refl, ap, sym, subst, ◌∙◌, ◌==◌, err_from_is_err_and}
use Rattle.aig_base.specs.declared.logic.literal.Lit.{Lit}
use Rattle.aig_refutation.specs.Ahead.{AddsAhead, IsAhead}
use Rattle.aig_refutation.specs.Checking.{with_clause}
use Rattle.aig_refutation.specs.Kept.{KeepsMore}
use Rattle.aig_refutation.specs.Steps.{is_empty}
use Rattle.aig_refutation.specs.Tables.{Table}
use Rattle.aig_refutation.proofs.Keeping.{learns_err, learns_from}
use Rattle.aig_refutation.proofs.Kept.{ends_on, more_ends}
use Rattle.aig_refutation.proofs.Outcomes.{empty_length}
use Rattle.aig_refutation.proofs.check.add_searched.Goals as goal

pub returns-in_err-found-clause-ahead : goal.returns-in_err-found-clause-ahead
returns-in_err-found-clause-ahead c clauses ahead =
    let e = c.in_err-found.field-0.0 in
    let p = err_from_is_err_and c.from_residual.result c.from_residual.ensures.1 in
    rw (p.1, p.2)
    (learns_err clauses c.args.step.now.clause.items
    c.add_found.new.checker.table e (c.in_err-found.ensures.ahead clauses ahead))

pub returns-in_default-clause-ahead : goal.returns-in_default-clause-ahead
returns-in_default-clause-ahead c clauses ahead = (
  refl,
  λ follows.
      c.in_ok-found.ensures.refused clauses ahead (ap (λ (o : Option ℕ). Ok o) c.in_default.is)
      (rw c.deref.ensures.value follows),
)

pub returns-in_err-add_units-clause-ahead : goal.returns-in_err-add_units-clause-ahead
returns-in_err-add_units-clause-ahead c clauses ahead =
    let e = c.in_err-add_units.field-0.0 in
    let p = err_from_is_err_and c.from_residual-in_err-add_units.result
    c.from_residual-in_err-add_units.ensures.1 in
    let clause = c.args.step.now.clause.items in
    let added : AddsAhead clauses clause c.add_found.new.checker.table (Ok c.in_ok-found.found) =
    subst (λ (k : List Lit). AddsAhead clauses k c.add_found.new.checker.table
    (Ok c.in_ok-found.found)) c.deref.ensures.value (c.in_ok-found.ensures.ahead clauses ahead) in
    let more : IsAhead (clause ∷ clauses) c.add_found.new.checker.table =
    subst (λ (o : Option ℕ). AddsAhead clauses clause c.add_found.new.checker.table (Ok o))
    c.in-Some.is added in
    rw (p.1, p.2)
    (learns_err clauses clause c.add_units.new.checker.table e
    (c.in_err-add_units.ensures.ahead (clause ∷ clauses) more))

pub returns-clause-ahead : goal.returns-clause-ahead
returns-clause-ahead c clauses ahead =
    let clause = c.args.step.now.clause.items in
    let added : AddsAhead clauses clause c.add_found.new.checker.table (Ok c.in_ok-found.found) =
    subst (λ (k : List Lit). AddsAhead clauses k c.add_found.new.checker.table
    (Ok c.in_ok-found.found)) c.deref.ensures.value (c.in_ok-found.ensures.ahead clauses ahead) in
    let more : IsAhead (clause ∷ clauses) c.add_found.new.checker.table =
    subst (λ (o : Option ℕ). AddsAhead clauses clause c.add_found.new.checker.table (Ok o))
    c.in-Some.is added in
    let units : IsAhead (clause ∷ clauses) c.add_units.new.checker.table =
    c.in_ok-add_units.ensures.ahead (clause ∷ clauses) more in
    learns_from clauses clause c.add_empty.new.checker.table
    c.add_empty.result (c.add_empty.ensures.ahead (clause ∷ clauses) units)
    (sym (empty_length clause) ∙ sym (ap (λ (n : ℕ). n == 0) (sym c.deref.ensures.len
    ∙ ap length c.deref.ensures.value)) ∙ sym c.is_empty.ensures ∙ c.if-is_empty.false)

pub returns-then-is_empty-clause-keeps : goal.returns-then-is_empty-clause-keeps
returns-then-is_empty-clause-keeps c live h =
    let clause = c.args.step.now.clause.items in
    let n = c.in-Some.number in
    let t : Table = c.add_found.new.checker.table in
    let added : KeepsMore live clause t (Ok c.in_ok-found.found) =
    subst (λ (k : List Lit). KeepsMore live k t (Ok c.in_ok-found.found)) c.deref.ensures.value
    (c.in_ok-found.ensures.keeps live h) in
    let more : KeepsMore live clause t (Ok (Some n)) =
    subst (λ (o : Option ℕ). KeepsMore live clause t (Ok o)) c.in-Some.is added in
    let none : is_empty clause ≡ true =
    sym (empty_length clause) ∙ sym (ap (λ (n : ℕ). n == 0) (sym c.deref.ensures.len
    ∙ ap length c.deref.ensures.value)) ∙ sym c.is_empty.ensures ∙ c.if-is_empty.true in
    more_ends live clause t n more none

pub returns-clause-keeps : goal.returns-clause-keeps
returns-clause-keeps c live h =
    let clause = c.args.step.now.clause.items in
    let n = c.in-Some.number in
    let t : Table = c.add_found.new.checker.table in
    let added : KeepsMore live clause t (Ok c.in_ok-found.found) =
    subst (λ (k : List Lit). KeepsMore live k t (Ok c.in_ok-found.found)) c.deref.ensures.value
    (c.in_ok-found.ensures.keeps live h) in
    let more : KeepsMore live clause t (Ok (Some n)) =
    subst (λ (o : Option ℕ). KeepsMore live clause t (Ok o)) c.in-Some.is added in
    let units = c.in_ok-add_units.ensures.keeps (with_clause live n clause) more.0 in
    ends_on live units.0 c.add_empty.new.checker.table c.add_empty.result
    (λ can. units.2 (more.1 can)) (c.add_empty.ensures.keeps units.0 units.1)
