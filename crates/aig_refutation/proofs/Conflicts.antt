-- Clauses that are in conflict at once: how they are found, and that no assignment makes them true.
use Rattle.std.proofs.Common.{◌≡◌, ◌≢◌, ℕ, zero, suc, ◌+◌, ◌-◌, ◌<◌, ◌≤◌, ◌^◌, Bool, true, false, not, ◌||◌, inl, inr, List, [], ◌∷◌, length, slice_get, Some, Ok, refl, sym, ap, subst, ◌∙◌, arith}
use Rattle.aig_base.proofs.Words.{All-contains, ◌==◌, slice_set, eqb-true, false≢true, ne_eqb, nat_tests, nat_eq_equiv, common_steps, same_Some, slice_get-get_or}
use Rattle.std.specs.List.{Contains}
use Rattle.std.proofs.lemmas.List.Sums.{AllPass-from_list_all}
use Rattle.aig_base.specs.declared.logic.literal.Lit.{Lit}
use Rattle.aig_base.specs.Clauses.{are_true, inverse_lit, is_true_clause, literal_value, number_of_lit, variable_of}
use Rattle.aig_base.specs.Formula.{IsSatisfiable}
use Rattle.aig_base.proofs.Literals.{literal_value-inverse_lit}
use Rattle.aig_refutation.specs.Checking.{IsInConflict, are_all_in, are_in}
use Rattle.aig_refutation.specs.Concluding.{ConcludesConflict, FindsConflict, IsFormula}
use Rattle.aig_refutation.specs.Tables.{Checked, clause_by, entry_at}
use Rattle.aig_refutation.proofs.Formulas.{contains_at, formula_inside, one_out, same_number}

-- ---- inverses

pub inverse_twice : (lit : Lit) → inverse_lit (inverse_lit lit) ≡ lit
inverse_twice lit = same_number (inverse_lit (inverse_lit lit)) lit (grind (arith, nat_tests))

inverse_other : (lit : Lit) → number_of_lit (inverse_lit lit) ≢ number_of_lit lit
inverse_other lit = grind (arith, nat_tests)

-- ---- clauses at their places

item_of : (clauses : List (List Lit)) (clause : List Lit) → Contains clauses clause
    → (k : ℕ) × (k < length clauses) × (slice_get clauses k ≡ Some clause)
item_of clauses clause is =
    (is.0, is.1, slice_get-get_or clauses is.0 clause is.1 ∙ ap (λ c. Some c) is.2)

by_next : (clauses : List (List Lit)) (i : ℕ) (clause : List Lit)
    → slice_get clauses i ≡ Some clause → clause_by clauses (i + 1) ≡ Some clause
by_next clauses i clause is =
    let at : i + 1 - 1 ≡ i = omega arith in
    rw (ne_eqb (i + 1) 0 (λ e. omega arith), at) is

-- a clause by its number, from 1 on
numbered_item : (clauses : List (List Lit)) (n : ℕ) (clause : List Lit)
    → clause_by clauses n ≡ Some clause
    → (i : ℕ) × (n ≡ i + 1) × (slice_get clauses i ≡ Some clause)
numbered_item clauses zero clause is = cc
numbered_item clauses (suc i) clause is =
    let some : (suc i == 0) ≡ false = ne_eqb (suc i) 0 (λ e. omega arith) in
    let before : suc i - 1 ≡ i = omega arith in
    (i, omega arith, rw (some, before) at is)

-- a literal alone has a variable
pub inside_at : (variables : ℕ) (clauses : List (List Lit)) (i : ℕ) (lit : Lit)
    → slice_get clauses i ≡ Some (lit ∷ []) → are_all_in variables clauses ≡ true
    → variable_of lit < variables
inside_at variables clauses i lit is all =
    grind (arith, nat_tests, inside)
  where
    inside : are_in variables (lit ∷ []) ≡ true
    inside = by (are_in variables (lit ∷ [])) refl
      where
        by : (b : Bool) → are_in variables (lit ∷ []) ≡ b → b ≡ true
        by true e = refl
        by false e = absurd (false≢true (sym (one_out variables clauses i (lit ∷ []) is e) ∙ all))

-- ---- the search

-- the first i clauses were searched: the entry of a literal is the number of a clause that has it
-- alone, or 0
pub record IsSearched (clauses : List (List Lit)) (i : ℕ) (units : List ℕ) : Type 0 where
  pub named : (lit : Lit) → entry_at units (number_of_lit lit) ≢ 0
      → clause_by clauses (entry_at units (number_of_lit lit)) ≡ Some (lit ∷ [])
  pub alone : (lit : Lit) → entry_at units (number_of_lit lit) ≢ 0
      → entry_at units (number_of_lit (inverse_lit lit)) ≡ 0
  pub found : (k : ℕ) (lit : Lit) → slice_get clauses k ≡ Some (lit ∷ [])
      → entry_at units (number_of_lit lit) ≡ 0 → i ≤ k
  pub none : (k : ℕ) → slice_get clauses k ≡ Some [] → i ≤ k

module _ (clauses : List (List Lit)) (i : ℕ) (units : List ℕ)
    (so_far : IsSearched clauses i units) where
  -- a clause of another length is passed
  pub searched_past : (clause : List Lit) → slice_get clauses i ≡ Some clause → 2 ≤ length clause
      → IsSearched clauses (i + 1) units
  searched_past clause is long = record {
    named = so_far.named;
    alone = so_far.alone;
    found = λ k lit there e. omega (
      arith,
      so_far.found k lit there e,
      other k (lit ∷ []) there (omega arith),
    );
    none = λ k there. omega (arith, so_far.none k there, other k [] there (omega arith));
  }
    where
      other : (k : ℕ) (one : List Lit) → slice_get clauses k ≡ Some one → length one ≤ 1 → k ≡ i
          → ⊥
      other k one there short e =
          let same : Some clause ≡ Some one = sym is ∙ ap (slice_get clauses) (sym e) ∙ there in
          let count = ap length (same_Some clause one same) in
          omega (arith, count)

  -- a literal alone is set
  module _ (own : Lit) (is : slice_get clauses i ≡ Some (own ∷ []))
      (fits : number_of_lit own < length units)
      (free : entry_at units (number_of_lit (inverse_lit own)) ≡ 0) where
    abbrev now : List ℕ
    now = slice_set units (number_of_lit own) (i + 1)

    at_own : (n : ℕ) → (n == number_of_lit own) ≡ true → entry_at now n ≡ i + 1
    at_own n e = let same = eqb-true n (number_of_lit own) e in grind (arith, common_steps)

    at_other : (n : ℕ) → (n == number_of_lit own) ≡ false → entry_at now n ≡ entry_at units n
    at_other n e = grind (arith, nat_tests, common_steps)

    is_own : (lit : Lit) → (number_of_lit lit == number_of_lit own) ≡ true → lit ≡ own
    is_own lit e = same_number lit own (eqb-true (number_of_lit lit) (number_of_lit own) e)

    named : (lit : Lit) (b : Bool) → (number_of_lit lit == number_of_lit own) ≡ b
        → entry_at now (number_of_lit lit) ≢ 0
        → clause_by clauses (entry_at now (number_of_lit lit)) ≡ Some (lit ∷ [])
    named lit true e some =
        ap (clause_by clauses) (at_own (number_of_lit lit) e) ∙ by_next clauses i (own ∷ []) is
        ∙ ap (λ (l : Lit). Some (l ∷ [])) (sym (is_own lit e))
    named lit false e some =
        let same = at_other (number_of_lit lit) e in
        ap (clause_by clauses) same ∙ so_far.named lit (λ z. some (same ∙ z))

    alone : (lit : Lit) (b : Bool) → (number_of_lit lit == number_of_lit own) ≡ b → (c : Bool)
        → (number_of_lit (inverse_lit lit) == number_of_lit own) ≡ c
        → entry_at now (number_of_lit lit) ≢ 0
        → entry_at now (number_of_lit (inverse_lit lit)) ≡ 0
    alone lit true e true f some =
        absurd (inverse_other lit (ap number_of_lit (is_own (inverse_lit lit) f
        ∙ sym (is_own lit e))))
    alone lit true e false f some =
        at_other (number_of_lit (inverse_lit lit)) f
        ∙ ap (λ (l : Lit). entry_at units (number_of_lit (inverse_lit l))) (is_own lit e) ∙ free
    alone lit false e true f some =
        let is_inverse : inverse_lit own ≡ lit =
        ap inverse_lit (sym (is_own (inverse_lit lit) f)) ∙ inverse_twice lit in
        absurd (some (at_other (number_of_lit lit) e
        ∙ ap (λ (l : Lit). entry_at units (number_of_lit l)) (sym is_inverse) ∙ free))
    alone lit false e false f some =
        at_other (number_of_lit (inverse_lit lit)) f
        ∙ so_far.alone lit (λ z. some (at_other (number_of_lit lit) e ∙ z))

    found : (k : ℕ) (lit : Lit) (b : Bool) → (number_of_lit lit == number_of_lit own) ≡ b
        → slice_get clauses k ≡ Some (lit ∷ []) → entry_at now (number_of_lit lit) ≡ 0
        → i + 1 ≤ k
    found k lit true e there z = absurd (let set = at_own (number_of_lit lit) e in omega arith)
    found k lit false e there z =
        let before = so_far.found k lit there (sym (at_other (number_of_lit lit) e) ∙ z) in
        omega (arith, before, here)
      where
        here : k ≡ i → ⊥
        here f =
            let same : Some (own ∷ []) ≡ Some (lit ∷ []) =
            sym is ∙ ap (slice_get clauses) (sym f) ∙ there in
            let lits : own ≡ lit = cc in
            false≢true (sym e ∙ ap (λ (l : Lit). number_of_lit l == number_of_lit own) (sym lits)
            ∙ nat_eq_equiv.refl (number_of_lit own))

    none : (k : ℕ) → slice_get clauses k ≡ Some [] → k ≡ i → ⊥
    none k there f =
        let same : Some (own ∷ []) ≡ Some [] = sym is ∙ ap (slice_get clauses) (sym f) ∙ there in
        cc

    pub searched_more : IsSearched clauses (i + 1) now
    searched_more = record {
      named = λ lit. named lit (number_of_lit lit == number_of_lit own) refl;
      alone = λ lit. alone lit (number_of_lit lit == number_of_lit own) refl
          (number_of_lit (inverse_lit lit) == number_of_lit own) refl;
      found = λ k lit. found k lit (number_of_lit lit == number_of_lit own) refl;
      none = λ k there. omega (arith, so_far.none k there, none k there);
    }

  -- a literal alone is there, and its inverse alone was found before
  pub found_units : (own : Lit) → slice_get clauses i ≡ Some (own ∷ []) → (m n : ℕ)
      → m ≡ entry_at units (number_of_lit (inverse_lit own)) → m ≢ 0 → n ≡ i + 1
      → FindsConflict clauses (m ∷ n ∷ [])
  found_units own is m n m_is some n_is = (
    own,
    ap (clause_by clauses) m_is ∙ so_far.named (inverse_lit own) (λ z. some (m_is ∙ z)),
    ap (clause_by clauses) n_is ∙ by_next clauses i (own ∷ []) is,
  )

-- all were searched, and none are in conflict
pub searched_all : (clauses : List (List Lit)) (i : ℕ) (units : List ℕ)
    → IsSearched clauses i units → length clauses ≤ i → IsInConflict clauses → ⊥
searched_all clauses i units so_far all (inl empty) =
    let at = item_of clauses [] empty in
    omega (arith, all, at.1, so_far.none at.0 at.2)
searched_all clauses i units so_far all (inr units_of) =
    let lit = units_of.0 in
    some (inverse_lit lit) units_of.2 (so_far.alone lit (some lit units_of.1))
  where
    some : (lit : Lit) → Contains clauses (lit ∷ []) → entry_at units (number_of_lit lit) ≢ 0
    some lit there z =
        let at = item_of clauses (lit ∷ []) there in
        omega (arith, all, at.1, so_far.found at.0 lit at.2 z)

-- ---- the numbers that were found

-- the clause of a number is there
by_contains : (clauses : List (List Lit)) (n : ℕ) (clause : List Lit)
    → clause_by clauses n ≡ Some clause → Contains clauses clause
by_contains clauses n clause is =
    let at = numbered_item clauses n clause is in contains_at clauses at.0 clause at.2

contained_true : (clauses : List (List Lit)) (v : ℕ → Bool) → are_true v clauses ≡ true
    → (clause : List Lit) → Contains clauses clause → is_true_clause v clause ≡ true
contained_true clauses v all clause there =
    All-contains (λ (c : List Lit). is_true_clause v c ≡ true) clauses clause
    (AllPass-from_list_all (is_true_clause v) clauses all) there

only_one : (b : Bool) → (b || false) ≡ true → b ≡ true
only_one true e = refl
only_one false e = e

pub found_conflict : (clauses : List (List Lit)) (hints : List ℕ) → FindsConflict clauses hints
    → (hints ≡ [] → ⊥) → IsInConflict clauses
found_conflict clauses [] finds some = absurd (some refl)
found_conflict clauses (n ∷ []) finds some = inl (by_contains clauses n [] finds)
found_conflict clauses (n ∷ m ∷ []) finds some =
    let lit = finds.0 in
    inr (
      lit,
      by_contains clauses m (lit ∷ []) finds.2,
      by_contains clauses n (inverse_lit lit ∷ []) finds.1,
    )
found_conflict clauses (n ∷ m ∷ o ∷ more) finds some = absurd finds

-- they are in conflict where there are such numbers
pub concludes_conflict : (clauses : List (List Lit)) (hints : List ℕ)
    → FindsConflict clauses hints → (none : Bool) → none ≡ (length hints == 0)
    → ConcludesConflict clauses (Ok (not none))
concludes_conflict clauses [] finds true is = finds
concludes_conflict clauses [] finds false is = cc
concludes_conflict clauses (n ∷ more) finds false is =
    found_conflict clauses (n ∷ more) finds (λ none. cc)
concludes_conflict clauses (n ∷ more) finds true is =
    absurd (false≢true (sym (ne_eqb (length (n ∷ more)) 0 (λ e. omega arith)) ∙ sym is))

-- no assignment makes clauses true that are in conflict
pub conflict_fails : (clauses : List (List Lit)) → IsInConflict clauses
    → ¬ IsSatisfiable clauses
conflict_fails clauses (inl none) can =
    absurd (false≢true (contained_true clauses can.0 can.1 [] none))
conflict_fails clauses (inr both) can =
    let v = can.0 in
    let lit = both.0 in
    let one = only_one (literal_value v lit) (contained_true clauses v can.1 (lit ∷ []) both.1) in
    let other = only_one (literal_value v (inverse_lit lit))
    (contained_true clauses v can.1 (inverse_lit lit ∷ []) both.2) in
    absurd (false≢true (ap not (sym one) ∙ sym (literal_value-inverse_lit v lit) ∙ other))

-- what was found of the same clauses
pub formula_finds : (checker : Checked) → IsFormula checker → (clauses : List (List Lit))
    → clauses ≡ checker.table.clauses → (variables : ℕ) → variables ≡ checker.variables
    → (hints : List ℕ) → (are_all_in variables clauses ≡ true → length clauses < 2 ^ 32 - 1
    → FindsConflict clauses hints) → FindsConflict checker.table.clauses hints
formula_finds checker formula clauses list variables count hints finds =
    let inside = formula_inside checker variables clauses formula (sym count) (sym list) in
    let size = ap length list in
    let few : length clauses < 2 ^ 32 - 1 = omega (
      arith,
      size,
      formula.holds.holds.table.numbering.few,
    ) in
    subst (λ (clauses : List (List Lit)). FindsConflict clauses hints) list (finds inside few)
