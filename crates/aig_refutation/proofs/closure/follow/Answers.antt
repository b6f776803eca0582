use Rattle.std.proofs.Common.{◌≡◌, List, Some, false, slice_get, sym, ap, subst, ◌∙◌, arith}
use Rattle.aig_base.proofs.Words.{slice_index_or}
use Rattle.aig_base.specs.declared.logic.literal.Lit.{Lit}
use Rattle.aig_base.specs.Clauses.{number_of_lit}
use Rattle.aig_refutation.specs.Closure.{Entails, unmarked}
use Rattle.aig_refutation.specs.Propagation.{marked}
use Rattle.aig_refutation.specs.Tables.{Table, clause_in}
use Rattle.aig_refutation.proofs.Closing.{found_conflict, found_more, implied_fits, in_place, unmarked_set}
use Rattle.aig_refutation.proofs.Literals.{marked_also}
use Rattle.aig_refutation.proofs.closure.follow.Goals as goal

pub holds-requires : goal.holds-requires
holds-requires c =
    implied_fits c.args.marks.now c.args.numbered.now.clauses c.clauses.result.now c.in-Some.place
    c.clause.result.now c.in-Implied.lit c.clauses.ensures c.clause.ensures c.in-Implied.ensures
    c.requires

pub add-requires : goal.add-requires
add-requires c =
    implied_fits c.args.marks.now c.args.numbered.now.clauses c.clauses.result.now c.in-Some.place
    c.clause.result.now c.in-Implied.lit c.clauses.ensures c.clause.ensures c.in-Implied.ensures
    c.requires

pub returns-in-Conflict-clause-finds : goal.returns-in-Conflict-clause-finds
returns-in-Conflict-clause-finds c clause so_far =
    let t : Table = c.args.numbered.now in
    let number = c.args.number in
    let there : clause_in t number ≡ Some c.clause.result.now =
    in_place t number c.in-Some.place (sym c.place.ensures ∙ c.in-Some.is)
    ∙ ap (λ (list : List (List Lit)). slice_get list c.in-Some.place) (sym c.clauses.ensures)
    ∙ c.clause.ensures in
    found_conflict t clause (marked c.args.marks.now) so_far number c.clause.result.now there
    c.in-Conflict.ensures

pub returns-in-Implied-clause-finds : goal.returns-in-Implied-clause-finds
returns-in-Implied-clause-finds c clause so_far =
    let marks = c.args.marks.now in
    let t : Table = c.args.numbered.now in
    let number = c.args.number in
    let lit = c.in-Implied.lit in
    let there : clause_in t number ≡ Some c.clause.result.now =
    in_place t number c.in-Some.place (sym c.place.ensures ∙ c.in-Some.is)
    ∙ ap (λ (list : List (List Lit)). slice_get list c.in-Some.place) (sym c.clauses.ensures)
    ∙ c.clause.ensures in
    let fits = implied_fits marks t.clauses c.clauses.result.now c.in-Some.place c.clause.result.now
    lit c.clauses.ensures c.clause.ensures c.in-Implied.ensures c.requires in
    subst (Entails t clause) (sym (ap marked c.add.ensures ∙ marked_also marks lit fits))
    (found_more t clause (marked marks) so_far number c.clause.result.now there lit
    c.in-Implied.ensures)

pub returns-in-Implied-clause-narrows : goal.returns-in-Implied-clause-narrows
returns-in-Implied-clause-narrows c =
    let marks = c.args.marks.now in
    let lit = c.in-Implied.lit in
    let fits = implied_fits marks c.args.numbered.now.clauses c.clauses.result.now c.in-Some.place
    c.clause.result.now lit c.clauses.ensures c.clause.ensures c.in-Implied.ensures c.requires in
    let open_lit : slice_index_or marks (number_of_lit lit) false ≡ false =
    sym c.holds.ensures ∙ c.if-not-holds.true in
    let fewer = unmarked_set marks (number_of_lit lit) fits open_lit in
    omega (arith, ap unmarked c.add.ensures, fewer)
