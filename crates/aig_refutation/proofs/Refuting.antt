-- Steps that refute clauses show that no assignment satisfies them.
use Rattle.aig_base.proofs.Words.{◌≡◌, ℕ, ◌+◌, Bool, true, false, cond, not, ◌||◌, inl, inr, Some, List, [], ◌∷◌, sym, ap, ◌∙◌, ◌==◌, lookup, false≢true, and_parts, or_cases}
use Rattle.std.specs.List.{AllByRecursion, filter, list_any}
use Rattle.aig_base.specs.declared.logic.literal.Lit.{Lit}
use Rattle.aig_base.specs.Clauses.{are_true, is_true_clause}
use Rattle.aig_base.specs.Formula.{IsSatisfiable}
use Rattle.aig_refutation.specs.Propagation.{is_rup}
use Rattle.aig_refutation.specs.Steps.{Step, Adds, Deletes, is_empty, is_refutation, numbered, refutes, without}
use Rattle.aig_refutation.proofs.Rup.{rup_is_true}

module _ (v : ℕ → Bool) where
  -- every clause that is there is true
  abbrev pub AllTrue : List (ℕ × List Lit) → Type 0
  AllTrue = AllByRecursion (λ entry. is_true_clause v entry.1 ≡ true)

  pub found_true : (clauses : List (ℕ × List Lit)) → AllTrue clauses → (n : ℕ) (clause : List Lit)
      → lookup (λ m. n == m) clauses ≡ Some clause → is_true_clause v clause ≡ true
  found_true [] are n clause found = cc
  found_true (entry ∷ clauses) are n clause found = by (n == entry.0) (found_true clauses are.1 n
      clause) found
    where
      by : (b : Bool) → (lookup (λ m. n == m) clauses ≡ Some clause → is_true_clause v clause ≡
          true) → cond b (Some entry.1) (lookup (λ m. n == m) clauses) ≡ Some clause →
          is_true_clause v clause ≡ true
      by true later e = let same : entry.1 ≡ clause = cc in ap (is_true_clause v) (sym same) ∙ are.0
      by false later e = later e

  pub kept_true : (p : ℕ × List Lit → Bool) (clauses : List (ℕ × List Lit)) → AllTrue clauses →
      AllTrue (filter p clauses)
  kept_true p [] are = tt
  kept_true p (entry ∷ clauses) are = by (p entry) (kept_true p clauses are.1)
    where
      by : (b : Bool) → AllTrue (filter p clauses) → AllTrue (cond b (entry ∷ filter p clauses)
          (filter p clauses))
      by true rest = (are.0, rest)
      by false rest = rest

  pub empty_false : (clause : List Lit) → is_empty clause ≡ true → is_true_clause v clause ≡ true →
      ⊥
  empty_false [] e t = false≢true t
  empty_false (lit ∷ lits) e t = false≢true e

  no_refutation : (steps : List Step) (clauses : List (ℕ × List Lit)) → AllTrue clauses → refutes
      clauses steps ≡ true → ⊥
  no_refutation [] clauses are r = false≢true r
  no_refutation (Deletes numbers ∷ steps) clauses are r = no_refutation steps (without numbers
      clauses) (kept_true (λ entry. not (list_any (λ n. n == entry.0) numbers)) clauses are) r
  no_refutation (Adds number clause hints groups ∷ steps) clauses are r =
      let find = λ (n : ℕ). lookup (λ (m : ℕ). n == m) clauses in
      let parts = and_parts (is_rup find clause hints) (is_empty clause || refutes ((
        number,
        clause,
      ) ∷ clauses) steps) r in
      let is = rup_is_true v find (found_true clauses are) clause hints parts.0 in
      elim (or_cases (is_empty clause) (refutes ((number, clause) ∷ clauses) steps) parts.1) [
        | inl none ↦ empty_false clause none is
        | inr later ↦ no_refutation steps ((number, clause) ∷ clauses) (is, are) later
      ]

  pub numbered_true : (n : ℕ) (clauses : List (List Lit)) → are_true v clauses ≡ true → AllTrue
      (numbered n clauses)
  numbered_true n [] t = tt
  numbered_true n (clause ∷ clauses) t =
      let parts = and_parts (is_true_clause v clause) (are_true v clauses) t in
      (parts.0, numbered_true (n + 1) clauses parts.1)

pub refuted : (clauses : List (List Lit)) (steps : List Step) → is_refutation clauses steps ≡ true
    → ¬ IsSatisfiable clauses
refuted clauses steps r s = no_refutation s.0 steps (numbered 1 clauses) (numbered_true s.0 1
    clauses s.1) r
