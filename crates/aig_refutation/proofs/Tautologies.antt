-- A clause with a literal and its inverse is true.
use Rattle.aig_base.proofs.Words.{◌≡◌, ℕ, Bool, true, false, not, List, refl, sym, ap, ◌∙◌, Any-from_list_any, list_any_at}
use Rattle.std.specs.List.{Any}
use Rattle.aig_base.specs.declared.logic.literal.Lit.{Lit}
use Rattle.aig_base.specs.Clauses.{inverse_lit, is_true_clause, literal_value}
use Rattle.aig_base.proofs.Literals.{literal_value-inverse_lit}
use Rattle.aig_refutation.specs.Propagation.{is_lit, is_tautology, when_false}
use Rattle.aig_refutation.proofs.Rup.{same_lit}

module _ (v : ℕ → Bool) where
  -- where some literal of a clause is true, the clause is
  pub some_true : (clause : List Lit) → Any (λ lit. literal_value v lit ≡ true) clause → is_true_clause v clause ≡ true
  some_true clause some = list_any_at (literal_value v) clause some.0 some.1 some.2 (ap (literal_value v) some.3 ∙ some.4)

  pub tautology_is_true : (clause : List Lit) → is_tautology clause ≡ true → is_true_clause v clause ≡ true
  tautology_is_true clause both =
      let one = Any-from_list_any (when_false clause) clause both in
      let lit = one.1 in
      let two = Any-from_list_any (λ other. is_lit (inverse_lit other) lit) clause one.4 in
      let other = two.1 in
      let inverse : inverse_lit other ≡ lit = same_lit (inverse_lit other) lit two.4 in
      let by : (b : Bool) → literal_value v other ≡ b → is_true_clause v clause ≡ true =
      λ b. elim b as (λ w. literal_value v other ≡ w → is_true_clause v clause ≡ true) [
        | true ↦ λ is. some_true clause (two.0, other, two.2, two.3, is)
        | false ↦ λ is. some_true clause (one.0, lit, one.2, one.3, ap (literal_value v) (sym inverse) ∙ literal_value-inverse_lit v other ∙ ap not is)
      ] in
      by (literal_value v other) refl
