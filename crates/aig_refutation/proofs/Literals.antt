-- A clause that is read literal by literal, and marks that are added to.
use Rattle.std.proofs.Common.{◌≡◌, ℕ, ◌+◌, ◌*◌, ◌<◌, ◌≤◌, Bool, true, false, cond, ◌||◌, Option, Some, None, List, [], ◌∷◌, length, take, drop, get_or, slice_get, refl, sym, ap, subst, ◌∙◌, arith}
use Rattle.aig_base.proofs.Words.{All, slice_set, fold, fun_ext, cond-true, cond-false, nat_tests, common_steps, All-head, All-tail, get_or_from_slice_get, slice_get_within}
use Rattle.std.proofs.lemmas.List.{at_drop_more}
use Rattle.std.proofs.lemmas.List.Folds.{fold_stuck, list_any_more}
use Rattle.std.proofs.lemmas.List.Sums.{fold_more}
use Rattle.aig_base.specs.declared.logic.literal.Lit.{Lit}
use Rattle.aig_base.specs.Clauses.{inverse_lit, number_of_lit, variable_of}
use Rattle.aig_refutation.specs.declared.propagation.Reading.{Reading}
use Rattle.aig_refutation.specs.declared.propagation.Reading.TheVariants.{Conflict, Implied, Open}
use Rattle.aig_refutation.specs.Propagation.{also, conflicts, is_lit, marked, propagates, reading_if, reading_of, when_false, with_literal, with_open}

-- the literal that was found, if any
abbrev pub found_reading : Option Lit → Reading
found_reading None = Conflict
found_reading (Some lit) = Implied lit

-- a literal's number is within the places of its variable, and so is its inverse's
pub number-fits : (lit : Lit) → number_of_lit lit ≤ 2 * variable_of lit + 1
number-fits lit = omega arith

pub inverse-fits : (lit : Lit) → number_of_lit (inverse_lit lit) ≤ 2 * variable_of lit + 1
inverse-fits lit = grind (arith, nat_tests)

module _ (holds : Lit → Bool) (clause : List Lit) (i : ℕ) (lit d : Lit) (there : i < length clause) (is : lit ≡ get_or clause i d) where
  -- one literal more
  pub reading_more : reading_of holds (take (i + 1) clause) ≡ with_literal holds (reading_of holds (take i clause)) lit
  reading_more = fold_more (with_literal holds) Conflict clause i d there ∙ ap (with_literal holds (reading_of holds (take i clause))) (sym is)

  pub reading_skipped : (found : Option Lit) → reading_of holds (take i clause) ≡ found_reading found → holds (inverse_lit lit) ≡ true → reading_of holds (take (i + 1) clause) ≡ found_reading found
  reading_skipped found so_far false_lit = reading_more ∙ cond-true (holds (inverse_lit lit)) _ _ false_lit ∙ so_far

  pub reading_taken : (found : Option Lit) → reading_of holds (take i clause) ≡ found_reading found → holds (inverse_lit lit) ≡ false → reading_of holds (take (i + 1) clause) ≡ with_open (found_reading found) lit
  reading_taken found so_far open_lit = reading_more ∙ cond-false (holds (inverse_lit lit)) _ _ open_lit ∙ ap (λ r. with_open r lit) so_far

  stays_open : (other : Lit) → with_literal holds Open other ≡ Open
  stays_open other = by (holds (inverse_lit other))
    where
      by : (b : Bool) → cond b Open Open ≡ Open
      by true = refl
      by false = refl

  pub reading_open : (found : Option Lit) → reading_of holds (take i clause) ≡ found_reading found → holds (inverse_lit lit) ≡ false → with_open (found_reading found) lit ≡ Open → Open ≡ reading_of holds clause
  reading_open found so_far open_lit two =
      fold_stuck (with_literal holds) Open stays_open Conflict clause i d there
      (ap (with_literal holds (reading_of holds (take i clause))) (sym is) ∙ cond-false (holds (inverse_lit lit)) _ _ open_lit ∙ ap (λ r. with_open r lit) so_far ∙ two)

  pub when_false_more : when_false (take (i + 1) clause) ≡ λ other. when_false (take i clause) other || is_lit (inverse_lit lit) other
  when_false_more = fun_ext (λ other.
      list_any_more (λ one. is_lit (inverse_lit one) other) clause i d there ∙ ap (λ one. when_false (take i clause) other || is_lit (inverse_lit one) other) (sym is))

or_turned : (a b : Bool) → (a || b) ≡ (b || a)
or_turned true true = refl
or_turned true false = refl
or_turned false true = refl
or_turned false false = refl

-- a literal that is marked
pub marked-set : (marks : List Bool) (lit : Lit) → number_of_lit lit < length marks → (other : Lit) → marked (slice_set marks (number_of_lit lit) true) other ≡ also lit (marked marks) other
marked-set marks lit there other = grind (arith, nat_tests, common_steps)

-- what holds of each literal of a clause holds of the one that it implies
abbrev IfImplied : (Lit → Type 0) → Reading → Type 0
IfImplied P Conflict = Unit {0}
IfImplied P (Implied lit) = P lit
IfImplied P Open = Unit {0}

implied_open : (P : Lit → Type 0) (r : Reading) (lit : Lit) → IfImplied P r → P lit → IfImplied P (with_open r lit)
implied_open P Conflict lit before here = here
implied_open P (Implied other) lit before here = by (is_lit other lit)
  where
    by : (b : Bool) → IfImplied P (cond b (Implied other) Open)
    by true = before
    by false = tt
implied_open P Open lit before here = tt

implied_fold : (holds : Lit → Bool) (P : Lit → Type 0) (r : Reading) (clause : List Lit) → IfImplied P r → All P clause → IfImplied P (fold (with_literal holds) r clause)
implied_fold holds P r [] before each = before
implied_fold holds P r (lit ∷ lits) before each =
    implied_fold holds P (with_literal holds r lit) lits (by (holds (inverse_lit lit))) (All-tail P lit lits each)
  where
    by : (b : Bool) → IfImplied P (cond b r (with_open r lit))
    by true = before
    by false = implied_open P r lit before (All-head P lit lits each)

pub implied_within : (holds : Lit → Bool) (P : Lit → Type 0) (clause : List Lit) (lit : Lit) → Implied lit ≡ reading_of holds clause → All P clause → P lit
implied_within holds P clause lit is each = subst (IfImplied P) (sym is) (implied_fold holds P Conflict clause tt each)

-- one hint of those that are left
pub propagates_next : (clause_of : ℕ → Option (List Lit)) (holds : Lit → Bool) (hints : List ℕ) (i : ℕ) (r : Reading) → i < length hints → reading_if holds (clause_of (get_or hints i 0)) ≡ r
    → propagates clause_of holds (drop i hints) ≡ conflicts r (λ lit. propagates clause_of (also lit holds) (drop (i + 1) hints))
propagates_next clause_of holds hints i r there is =
    at_drop_more (propagates clause_of holds) hints i 0 there ∙ ap (λ reading. conflicts reading (λ lit. propagates clause_of (also lit holds) (drop (i + 1) hints))) is

-- a clause that is there is as what is said of each
pub clause_there : (P : List Lit → Type 0) (clauses : List (List Lit)) (n : ℕ) (clause : List Lit) → slice_get clauses n ≡ Some clause → All P clauses → P clause
clause_there P clauses n clause is each = subst P (get_or_from_slice_get clauses n clause [] is) (each n [] (slice_get_within clauses n clause is))

pub marked_also : (marks : List Bool) (lit : Lit) → number_of_lit lit < length marks → marked (slice_set marks (number_of_lit lit) true) ≡ also lit (marked marks)
marked_also marks lit there = fun_ext (marked-set marks lit there)

-- the inverse of one literal more is marked
pub marked_more : (marks : List Bool) (clause : List Lit) (i : ℕ) (lit d : Lit) → i < length clause → lit ≡ get_or clause i d → marked marks ≡ when_false (take i clause) → number_of_lit (inverse_lit lit) < length marks
    → marked (slice_set marks (number_of_lit (inverse_lit lit)) true) ≡ when_false (take (i + 1) clause)
marked_more marks clause i lit d there is so_far fits =
    marked_also marks (inverse_lit lit) fits
    ∙ fun_ext (λ other.
    ap (λ (holds : Lit → Bool). is_lit (inverse_lit lit) other || holds other) so_far ∙ or_turned (is_lit (inverse_lit lit) other) (when_false (take i clause) other))
    ∙ sym (when_false_more (marked marks) clause i lit d there is)
