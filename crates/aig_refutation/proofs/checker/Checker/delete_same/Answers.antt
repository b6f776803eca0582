use Rattle.std.proofs.Common.{◌≡◌, ◌<◌, List, Some, slice_get, sym, ap, subst, ◌∙◌, arith}
use Rattle.aig_base.proofs.Words.{All}
use Rattle.aig_base.specs.declared.logic.literal.Lit.{Lit}
use Rattle.aig_base.specs.Clauses.{variable_of}
use Rattle.aig_refutation.specs.Ahead.{IsAhead}
use Rattle.aig_refutation.specs.Tables.{Holds, Table, clause_in, place_in}
use Rattle.aig_refutation.proofs.Closing.{in_place}
use Rattle.aig_refutation.proofs.Keeping.{delete_ahead, drop_ahead}
use Rattle.aig_refutation.proofs.Kept.{kept_itself}
use Rattle.aig_refutation.proofs.Literals.{clause_there}
use Rattle.aig_refutation.proofs.checker.Checker.delete_same.Goals as goal

pub returns-in_default-clause-ahead : goal.returns-in_default-clause-ahead
returns-in_default-clause-ahead c clauses ahead =
    drop_ahead c.args.self.now.table clauses c.args.clause.now ahead

pub returns-then-not-is_below-clause-ahead : goal.returns-then-not-is_below-clause-ahead
returns-then-not-is_below-clause-ahead c clauses ahead =
    drop_ahead c.args.self.now.table clauses c.args.clause.now ahead

pub returns-in_default-clause-keeps : goal.returns-in_default-clause-keeps
returns-in_default-clause-keeps c live h = kept_itself live c.args.self.now.table h

pub returns-then-not-is_below-clause-keeps : goal.returns-then-not-is_below-clause-keeps
returns-then-not-is_below-clause-keeps c live h = kept_itself live c.args.self.now.table h

pub returns-then-not-are_same-clause-keeps : goal.returns-then-not-are_same-clause-keeps
returns-then-not-are_same-clause-keeps c live h =
    let here : Holds c.self.inside.numbered live = subst (λ (table : Table). Holds table live)
    (sym (ap (λ v. v.table) c.self.view_is)) h in
    kept_itself live c.self.inside.numbered here

pub are_same-requires-clause-other : goal.are_same-requires-clause-other
are_same-requires-clause-other c k d h =
    let inside = c.self.inside in
    let named = c.clause-named.result.now in
    let there : slice_get inside.numbered.clauses c.in-Some.place ≡ Some named =
    ap (λ (list : List (List Lit)). slice_get list c.in-Some.place) (sym c.clauses.ensures)
    ∙ c.clause-named.ensures in
    let below = clause_there (λ clause. All (λ lit. variable_of lit < inside.variables) clause)
    inside.numbered.clauses c.in-Some.place named there c.self.invariant.1 in
    omega (arith, below k d h, c.self.invariant.0)

pub returns-then-not-are_same-clause-ahead : goal.returns-then-not-are_same-clause-ahead
returns-then-not-are_same-clause-ahead c clauses ahead =
    let here : IsAhead clauses c.self.inside.numbered = subst (λ (table : Table). IsAhead clauses
    table) (sym (ap (λ v. v.table) c.self.view_is)) ahead in
    drop_ahead c.self.inside.numbered clauses c.args.clause.now here

pub returns-clause-ahead : goal.returns-clause-ahead
returns-clause-ahead c clauses ahead =
    let t : Table = c.self.inside.numbered in
    let here : IsAhead clauses t = subst (λ (table : Table). IsAhead clauses table)
    (sym (ap (λ v. v.table) c.self.view_is)) ahead in
    let number = c.args.number in
    let named = c.clause-named.result.now in
    let place : place_in t number ≡ Some c.in-Some.place = sym c.place.ensures ∙ c.in-Some.is in
    let there : clause_in t number ≡ Some named = in_place t number c.in-Some.place place
    ∙ ap (λ (list : List (List Lit)). slice_get list c.in-Some.place) (sym c.clauses.ensures)
    ∙ c.clause-named.ensures in
    delete_ahead t c.delete.new.self.table clauses here number named c.args.clause.now there
    (sym c.are_same.ensures.same ∙ c.if-not-are_same.false) c.delete.result c.delete.ensures.moves
