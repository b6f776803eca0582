-- Steps with RAT keep clauses satisfiable.
use Rattle.aig_base.proofs.Words.{◌≡◌, ◌≢◌, ◌⊎◌, ℕ, ◌+◌, ◌*◌, ◌/◌, ◌%◌, ◌||◌, Bool, true, false, cond, not, IsTrue, List, [], ◌∷◌, ◌++◌, refl, sym, ap, subst, ◌∙◌, inl, inr, arith, list_all, list_any, list_any-append, lookup, or_cases, or_parts, or_right, and_parts, false≢true, true≢false, cases_eq, eq-eqb, ne_eqb, eqb-true, ◌==◌}
use Rattle.aig_base.specs.declared.logic.literal.Lit.{Lit}
use Rattle.aig_base.specs.Clauses.{inverse_lit, is_positive, is_true_clause, literal_value, variable_of, with_polarity}
use Rattle.aig_base.specs.Formula.{IsSatisfiable}
use Rattle.aig_refutation.specs.Propagation.{has, is_lit, is_rup, is_tautology}
use Rattle.aig_refutation.specs.Rat.{hints_for, is_apart, is_rat, is_rat_refutation, refutes_by_rat, resolvent, without_lit}
use Rattle.aig_refutation.specs.Steps.{Step, Adds, Deletes, is_empty, numbered, without}
use Rattle.aig_refutation.proofs.Refuting.{AllTrue, empty_false, found_true, kept_true, numbered_true}
use Rattle.aig_refutation.proofs.Rup.{rup_is_true}
use Rattle.aig_refutation.proofs.Tautologies.{tautology_is_true}

bool_cases : (b : Bool) → (b ≡ true) ⊎ (b ≡ false)
bool_cases true = inl refl
bool_cases false = inr refl

-- the assignment with the literal made true
abbrev with_true : (ℕ → Bool) → Lit → ℕ → Bool
with_true v lit n = cond (n == variable_of lit) (is_positive lit) (v n)

or_left : (a b : Bool) → a ≡ true → (a || b) ≡ true
or_left true b e = refl
or_left false b e = absurd (false≢true e)

polarity_same : (p : Bool) → with_polarity p p ≡ true
polarity_same true = refl
polarity_same false = refl

-- of two literals of a variable the one is the other or its inverse
inverse_or_same : (p lit : Lit) → variable_of lit ≡ variable_of p
    → (lit.code ≡ p.code) ⊎ (is_lit (inverse_lit p) lit ≡ true)
inverse_or_same p lit same = by (cases_eq (p.code % 2) 0) (cases_eq (lit.code % 2) 0)
  where
    flipped : (b : Bool) → is_positive p ≡ b → lit.code ≡ 2 * (p.code / 2) + cond (not b) 0 1
        → is_lit (inverse_lit p) lit ≡ true
    flipped b is code = eq-eqb (2 * (p.code / 2) + cond (not (is_positive p)) 0 1) lit.code
        (ap (λ c. 2 * (p.code / 2) + cond (not c) 0 1) is ∙ sym code)

    by : (p.code % 2 ≡ 0) ⊎ (p.code % 2 ≢ 0) → (lit.code % 2 ≡ 0) ⊎ (lit.code % 2 ≢ 0)
        → (lit.code ≡ p.code) ⊎ (is_lit (inverse_lit p) lit ≡ true)
    by (inl even) (inl also) = inl (omega (arith, same, even, also))
    by (inr odd) (inr also) = inl (omega (arith, same, odd, also))
    by (inl even) (inr odd) = inr (flipped true (eq-eqb (p.code % 2) 0 even)
        (omega (arith, same, even, odd)))
    by (inr odd) (inl even) = inr (flipped false (ne_eqb (p.code % 2) 0 odd)
        (omega (arith, same, even, odd)))

module _ (v : ℕ → Bool) (p : Lit) where
  -- the pivot is true
  pivot_true : literal_value (with_true v p) p ≡ true
  unfolding literal_value
  pivot_true =
      ap (λ b. with_polarity (is_positive p) (cond b (is_positive p) (v (variable_of p))))
      (eq-eqb (variable_of p) (variable_of p) refl)
      ∙ polarity_same (is_positive p)

  -- a true literal that isn't the pivot's inverse stays true
  stays_true : (lit : Lit) → literal_value v lit ≡ true → is_lit (inverse_lit p) lit ≡ false
      → literal_value (with_true v p) lit ≡ true
  unfolding literal_value
  stays_true lit is other = by (cases_eq (variable_of lit) (variable_of p))
    where
      at : (lit.code ≡ p.code) ⊎ (is_lit (inverse_lit p) lit ≡ true) → literal_value (with_true v p)
          lit ≡ true
      at (inl code) =
          let lit_of : ℕ → Lit = λ n. record { code = n } in
          subst (λ l. literal_value (with_true v p) l ≡ true) (ap lit_of (sym code)) pivot_true
      at (inr inverse) = absurd (true≢false (sym inverse ∙ other))

      by : (variable_of lit ≡ variable_of p) ⊎ (variable_of lit ≡ variable_of p → ⊥)
          → literal_value (with_true v p) lit ≡ true
      by (inl same) = at (inverse_or_same p lit same)
      by (inr differ) =
          ap (λ b. with_polarity (is_positive lit) (cond b (is_positive p) (v (variable_of lit))))
          (ne_eqb (variable_of lit) (variable_of p) differ)
          ∙ is

  -- a clause without the pivot's inverse stays true
  clause_stays : (clause : List Lit) → is_true_clause v clause ≡ true → has clause (inverse_lit p) ≡
      false
      → is_true_clause (with_true v p) clause ≡ true
  clause_stays [] h none = absurd (false≢true h)
  clause_stays (lit ∷ lits) h none = by (or_cases (literal_value v lit) (is_true_clause v lits) h)
      (clause_stays lits) (or_parts (is_lit (inverse_lit p) lit) (has lits (inverse_lit p)) none)
    where
      by : (literal_value v lit ≡ true) ⊎ (is_true_clause v lits ≡ true)
          → (is_true_clause v lits ≡ true → has lits (inverse_lit p) ≡ false → is_true_clause
          (with_true v p) lits ≡ true)
          → (is_lit (inverse_lit p) lit ≡ false) × (has lits (inverse_lit p) ≡ false)
          → is_true_clause (with_true v p) (lit ∷ lits) ≡ true
      by (inl now) rest parts = or_left (literal_value (with_true v p) lit)
          (is_true_clause (with_true v p) lits) (stays_true lit now parts.0)
      by (inr later) rest parts = or_right (literal_value (with_true v p) lit)
          (is_true_clause (with_true v p) lits) (rest later parts.1)

  -- and so does one of which another literal is true
  rest_stays : (clause : List Lit) → is_true_clause v (without_lit (inverse_lit p) clause) ≡ true
      → is_true_clause (with_true v p) clause ≡ true
  rest_stays [] h = absurd (false≢true h)
  rest_stays (lit ∷ lits) h = by (is_lit (inverse_lit p) lit) refl (rest_stays lits) h
    where
      by : (b : Bool) → is_lit (inverse_lit p) lit ≡ b
          → (is_true_clause v (without_lit (inverse_lit p) lits) ≡ true → is_true_clause
          (with_true v p) lits ≡ true)
          → is_true_clause v (cond (not b) (lit ∷ without_lit (inverse_lit p) lits)
          (without_lit (inverse_lit p) lits)) ≡ true
          → is_true_clause (with_true v p) (lit ∷ lits) ≡ true
      by true is rest t = or_right (literal_value (with_true v p) lit)
          (is_true_clause (with_true v p) lits) (rest t)
      by false is rest t = kept (or_cases (literal_value v lit)
          (is_true_clause v (without_lit (inverse_lit p) lits)) t)
        where
          kept : (literal_value v lit ≡ true) ⊎
              (is_true_clause v (without_lit (inverse_lit p) lits) ≡ true)
              → is_true_clause (with_true v p) (lit ∷ lits) ≡ true
          kept (inl now) = or_left (literal_value (with_true v p) lit)
              (is_true_clause (with_true v p) lits) (stays_true lit now is)
          kept (inr later) = or_right (literal_value (with_true v p) lit)
              (is_true_clause (with_true v p) lits) (rest later)

  -- a clause that has the pivot is true
  pivot_clause : (clause : List Lit) → has clause p ≡ true → is_true_clause (with_true v p) clause ≡
      true
  pivot_clause [] h = absurd (false≢true h)
  pivot_clause (lit ∷ lits) h = by (or_cases (is_lit p lit) (has lits p) h) (pivot_clause lits)
    where
      by : (is_lit p lit ≡ true) ⊎ (has lits p ≡ true) →
          (has lits p ≡ true → is_true_clause (with_true v p) lits ≡ true)
          → is_true_clause (with_true v p) (lit ∷ lits) ≡ true
      by (inl here) rest =
          let lit_of : ℕ → Lit = λ n. record { code = n } in
          or_left (literal_value (with_true v p) lit) (is_true_clause (with_true v p) lits)
          (subst (λ l. literal_value (with_true v p) l ≡ true)
          (ap lit_of (eqb-true p.code lit.code here)) pivot_true)
      by (inr later) rest = or_right (literal_value (with_true v p) lit)
          (is_true_clause (with_true v p) lits) (rest later)

-- where a test says that its inverse is false, it is true
is_not : (b : Bool) → not b ≡ true → b ≡ false
is_not true h = absurd (false≢true h)
is_not false h = refl

module _ (clauses : List (ℕ × List Lit)) (v : ℕ → Bool) (are : AllTrue v clauses) (pivot : Lit)
    (clause : List Lit) (hints : List ℕ) (groups : List (Bool × ℕ))
    (isnt : is_true_clause v clause ≡ false) where
  -- a clause that keeps out of the way stays true
  turned : (entry : ℕ × List Lit) → is_true_clause v entry.1 ≡ true
      → is_apart (λ n. lookup (λ m. n == m) clauses) pivot clause hints groups entry ≡ true
      → is_true_clause (with_true v pivot) entry.1 ≡ true
  turned entry is apart = by (or_cases (not (has entry.1 (inverse_lit pivot)))
      (is_rup (λ n. lookup (λ m. n == m) clauses) (resolvent pivot clause entry.1)
      (hints ++ hints_for entry.0 false groups) || is_tautology (resolvent pivot clause entry.1))
      apart)
    where
      made : is_true_clause v (resolvent pivot clause entry.1) ≡ true
          → is_true_clause (with_true v pivot) entry.1 ≡ true
      made t = rest (or_cases (is_true_clause v clause)
          (is_true_clause v (without_lit (inverse_lit pivot) entry.1))
          (sym (list_any-append (literal_value v) clause (without_lit (inverse_lit pivot) entry.1))
          ∙ t))
        where
          rest : (is_true_clause v clause ≡ true) ⊎
              (is_true_clause v (without_lit (inverse_lit pivot) entry.1) ≡ true)
              → is_true_clause (with_true v pivot) entry.1 ≡ true
          rest (inl now) = absurd (true≢false (sym now ∙ isnt))
          rest (inr later) = rest_stays v pivot entry.1 later

      by : (not (has entry.1 (inverse_lit pivot)) ≡ true)
          ⊎ ((is_rup (λ n. lookup (λ m. n == m) clauses) (resolvent pivot clause entry.1)
          (hints ++ hints_for entry.0 false groups) || is_tautology (resolvent pivot clause
          entry.1)) ≡ true)
          → is_true_clause (with_true v pivot) entry.1 ≡ true
      by (inl none) = clause_stays v pivot entry.1 is
          (is_not (has entry.1 (inverse_lit pivot)) none)
      by (inr some) = elim (or_cases (is_rup (λ n. lookup (λ m. n == m) clauses)
          (resolvent pivot clause entry.1) (hints ++ hints_for entry.0 false groups))
          (is_tautology (resolvent pivot clause entry.1)) some) [
            | inl rup ↦ made (rup_is_true v (λ n. lookup (λ m. n == m) clauses)
                (found_true v clauses are) (resolvent pivot clause entry.1)
                (hints ++ hints_for entry.0 false groups) rup)
            | inr always ↦ made (tautology_is_true v (resolvent pivot clause entry.1) always)
          ]

  all_turned : (some : List (ℕ × List Lit)) → AllTrue v some
      → list_all (is_apart (λ n. lookup (λ m. n == m) clauses) pivot clause hints groups) some ≡
      true
      → AllTrue (with_true v pivot) some
  all_turned [] true_all apart = tt
  all_turned (entry ∷ some) true_all apart =
      let parts = and_parts (is_apart (λ n. lookup (λ m. n == m) clauses) pivot clause hints groups
      entry) (list_all (is_apart (λ n. lookup (λ m. n == m) clauses) pivot clause hints groups)
      some) apart in
      (turned entry true_all.0 parts.0, all_turned some true_all.1 parts.1)

-- a clause that has the RAT property leaves some assignment
pub rat_goes_on : (clauses : List (ℕ × List Lit)) (v : ℕ → Bool) → AllTrue v clauses
    → (clause : List Lit) (hints : List ℕ) (groups : List (Bool × ℕ))
    → is_rat clauses clause hints groups ≡ true
    → (w : ℕ → Bool) × AllTrue w clauses × (is_true_clause w clause ≡ true)
rat_goes_on clauses v are [] hints groups h = absurd (false≢true h)
rat_goes_on clauses v are (pivot ∷ lits) hints groups rat =
    elim (bool_cases (is_true_clause v (pivot ∷ lits))) [
      | inl is ↦ (v, are, is)
      | inr isnt ↦ (
        with_true v pivot,
        all_turned clauses v are pivot (pivot ∷ lits) hints groups isnt clauses are rat,
        pivot_clause v pivot (pivot ∷ lits)
            (or_left (is_lit pivot pivot) (has lits pivot) (eq-eqb pivot.code pivot.code refl)),
      )
    ]

-- and so does one that follows
goes_on : (clauses : List (ℕ × List Lit)) (v : ℕ → Bool) → AllTrue v clauses → (clause : List Lit)
    (hints : List ℕ) (groups : List (Bool × ℕ))
    → (is_rup (λ n. lookup (λ m. n == m) clauses) clause hints || is_rat clauses clause hints
    groups) ≡ true
    → (w : ℕ → Bool) × AllTrue w clauses × (is_true_clause w clause ≡ true)
goes_on clauses v are clause hints groups h =
    elim (or_cases (is_rup (λ n. lookup (λ m. n == m) clauses) clause hints)
    (is_rat clauses clause hints groups) h) [
      | inl rup ↦ (
        v,
        are,
        rup_is_true v (λ n. lookup (λ m. n == m) clauses)
            (found_true v clauses are) clause hints rup,
      )
      | inr rat ↦ rat_goes_on clauses v are clause hints groups rat
    ]

no_rat_refutation : (steps : List Step) (clauses : List (ℕ × List Lit)) (v : ℕ → Bool)
    → AllTrue v clauses → refutes_by_rat clauses steps ≡ true → ⊥
no_rat_refutation [] clauses v are r = false≢true r
no_rat_refutation (Deletes numbers ∷ steps) clauses v are r =
    no_rat_refutation steps (without numbers clauses) v
    (kept_true v (λ entry. not (list_any (λ n. n == entry.0) numbers)) clauses are) r
no_rat_refutation (Adds number clause hints groups ∷ steps) clauses v are r =
    let parts = and_parts (is_rup (λ n. lookup (λ m. n == m) clauses) clause hints || is_rat clauses
    clause hints groups) (is_empty clause || refutes_by_rat ((number, clause) ∷ clauses) steps)
    r in
    let next = goes_on clauses v are clause hints groups parts.0 in
    elim (or_cases (is_empty clause) (refutes_by_rat ((number, clause) ∷ clauses) steps) parts.1) [
      | inl none ↦ empty_false next.0 clause none next.2
      | inr later ↦ no_rat_refutation steps ((number, clause) ∷ clauses) next.0 (next.2, next.1)
          later
    ]

pub rat_refuted : (clauses : List (List Lit)) (steps : List Step)
    → IsTrue (is_rat_refutation clauses steps) → ¬ IsSatisfiable clauses
rat_refuted clauses steps r (v, all) = no_rat_refutation steps (numbered 1 clauses) v
    (numbered_true v 1 clauses all) r
