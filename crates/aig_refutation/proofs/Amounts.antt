-- How many clauses of the same literals are there.
use Rattle.std.proofs.Common.{◌≡◌, ℕ, zero, suc, ◌+◌, ◌-◌, ◌<◌, ◌≤◌, Bool, true, false, cond, List, [], ◌∷◌, length, slice_get, Some, None, refl, sym, ap, subst, ◌∙◌, arith}
use Rattle.aig_base.proofs.Words.{◌==◌, fold, same_Some, cond-false, eq-eqb, eqb-true, false≢true, ne_eqb}
use Rattle.aig_base.specs.declared.logic.literal.Lit.{Lit}
use Rattle.aig_refutation.specs.Ahead.{IsEnough, IsRow, amount, copies, is_same_if, names}
use Rattle.aig_refutation.specs.Checking.{Live, clause_at, with_next, without_clause}
use Rattle.aig_refutation.specs.Steps.{are_same, without_one}
use Rattle.aig_refutation.proofs.Numbering.{lookup_without}
use Rattle.aig_refutation.proofs.Sameness.{are_same-equiv}

abbrev pub one : Bool → ℕ
one b = cond b 1 0

-- ---- numbers that pass a test

amount_same : (f g : ℕ → Bool) (end : ℕ) → ((n : ℕ) → n < end → f n ≡ g n)
    → amount f end ≡ amount g end
amount_same f g zero same = refl
amount_same f g (suc end) same =
    let before = amount_same f g end (λ n h. same n (omega (arith, h))) in
    let here = ap one (same end (omega arith)) in
    omega (arith, before, here)

-- but for one number
amount_less : (f g : ℕ → Bool) (m : ℕ) → ((n : ℕ) → (n == m) ≡ false → f n ≡ g n) → (end : ℕ)
    → amount f end ≤ amount g end + one (f m)
amount_less f g m same zero = omega arith
amount_less f g m same (suc end) = by (end == m) refl (amount_less f g m same end)
  where
    by : (b : Bool) → (end == m) ≡ b → amount f end ≤ amount g end + one (f m)
        → amount f (suc end) ≤ amount g (suc end) + one (f m)
    by true e less =
        let is = eqb-true end m e in
        let before = amount_same f g end (λ n h. same n (ne_eqb n m (λ k. omega (arith, h, k, is))))
        in
        let here = ap (λ (n : ℕ). one (f n)) is in
        omega (arith, before, here)
    by false e less = let here = ap one (same end e) in omega (arith, less, here)

pub amount_some : (f : ℕ → Bool) (end : ℕ) → 1 ≤ amount f end → (n : ℕ) × (n < end) × (f n ≡ true)
amount_some f zero h = absurd (omega (arith, h))
amount_some f (suc end) h = by (f end) refl (amount_some f end)
  where
    by : (b : Bool) → f end ≡ b
        → (1 ≤ amount f end → (n : ℕ) × (n < end) × (f n ≡ true))
        → (n : ℕ) × (n < suc end) × (f n ≡ true)
    by true e later = (end, omega arith, e)
    by false e later =
        let none = ap one e in
        let before = later (omega (arith, h, none)) in
        (before.0, omega (arith, before.1), before.2)

-- ---- clauses that are there

same_copy : (clause dropped other : List Lit) → are_same dropped other ≡ true
    → are_same clause dropped ≡ are_same clause other
same_copy clause dropped other e =
    are_same-equiv.symm clause dropped ∙ are_same-equiv.congr dropped other clause e
    ∙ are_same-equiv.symm other clause

-- one is dropped
pub copies_without : (clause dropped : List Lit) (clauses : List (List Lit))
    → copies clause (without_one dropped clauses)
    ≤ copies clause clauses - one (are_same clause dropped)
copies_without clause dropped [] = omega arith
copies_without clause dropped (other ∷ clauses) =
    by (are_same dropped other) refl (copies_without clause dropped clauses)
  where
    never : (p q : Bool) → are_same clause dropped ≡ p → are_same clause other ≡ q
        → are_same dropped other ≡ false → one p + one q ≤ 1
    never true true f g e =
        absurd (false≢true (sym e ∙ sym (are_same-equiv.congr clause dropped other f) ∙ g))
    never true false f g e = omega arith
    never false q f g e = by_one q
      where
        by_one : (q : Bool) → 0 + one q ≤ 1
        by_one true = omega arith
        by_one false = omega arith

    by : (b : Bool) → are_same dropped other ≡ b
        → copies clause (without_one dropped clauses)
        ≤ copies clause clauses - one (are_same clause dropped)
        → copies clause (cond b clauses (other ∷ without_one dropped clauses))
        ≤ copies clause (other ∷ clauses) - one (are_same clause dropped)
    by true e later = let same = ap one (same_copy clause dropped other e) in omega (arith, same)
    by false e later =
        let some = never (are_same clause dropped) (are_same clause other) refl refl e in
        omega (arith, later, some)

-- and no other
pub copies_left : (clause dropped : List Lit) (clauses : List (List Lit))
    → copies clause clauses - one (are_same clause dropped)
    ≤ copies clause (without_one dropped clauses)
copies_left clause dropped [] = omega arith
copies_left clause dropped (other ∷ clauses) =
    by (are_same dropped other) refl (copies_left clause dropped clauses)
  where
    by : (b : Bool) → are_same dropped other ≡ b
        → copies clause clauses - one (are_same clause dropped)
        ≤ copies clause (without_one dropped clauses)
        → copies clause (other ∷ clauses) - one (are_same clause dropped)
        ≤ copies clause (cond b clauses (other ∷ without_one dropped clauses))
    by true e later = let same = ap one (same_copy clause dropped other e) in omega (arith, same)
    by false e later = omega (arith, later)

-- one is there
pub copies_some : (clauses : List (List Lit)) (n : ℕ) (clause : List Lit)
    → slice_get clauses n ≡ Some clause → 1 ≤ copies clause clauses
copies_some [] n clause is = cc
copies_some (other ∷ clauses) zero clause is =
    let same : clause ≡ other = sym (same_Some other clause is) in
    let here = ap one (subst (λ (c : List Lit). are_same clause c ≡ true) same
    (are_same-equiv.refl clause)) in
    omega (arith, here)
copies_some (other ∷ clauses) (suc n) clause is =
    let later = copies_some clauses n clause is in omega (arith, later)

-- ---- numbers in a row

module _ (live : Live) (row : IsRow live) (clause : List Lit) where
  abbrev next : Live
  next = with_next live clause

  pub row_next : IsRow next
  row_next n h =
      rw (ne_eqb n (length live.used + 1) (λ e. omega (arith, h, e)), row n (omega (arith, h))) refl

  pub enough_next : (count : List Lit → ℕ) → IsEnough count live
      → IsEnough (λ c. count c + one (are_same c clause)) next
  enough_next count enough c =
      let before = enough c in
      let last : names next c (suc (length live.used)) ≡ are_same c clause =
      ap (λ (b : Bool). is_same_if c (cond b (Some clause) (clause_at live (suc (length live.used)))))
      (eq-eqb (suc (length live.used)) (length live.used + 1) (omega arith)) in
      let others = amount_same (names live c) (names next c) (suc (length live.used))
      (λ n h. ap (is_same_if c) (sym (cond-false (n == length live.used + 1) (Some clause)
      (clause_at live n) (ne_eqb n (length live.used + 1) (λ e. omega (arith, h, e)))))) in
      let here = ap one last in
      omega (arith, before, others, here)

-- a number's clause is dropped that has the same literals as this one
module _ (live : Live) (number : ℕ) (clause dropped : List Lit) (clauses : List (List Lit)) where
  pub row_without : IsRow live → IsRow (without_clause live number)
  row_without row = row

  pub enough_without : IsEnough (λ c. copies c clauses) live
      → clause_at live number ≡ Some clause → are_same dropped clause ≡ true
      → IsEnough (λ c. copies c (without_one dropped clauses)) (without_clause live number)
  enough_without enough there same c =
      let end = suc (length live.used) in
      let less = amount_less (names live c) (names (without_clause live number) c) number
      (λ n e. ap (is_same_if c) (sym (lookup_without n number live.clauses ∙ cond-false (n == number)
      None (clause_at live n) e))) end in
      let named : names live c number ≡ are_same c dropped =
      ap (is_same_if c) there ∙ are_same-equiv.symm c clause
      ∙ sym (are_same-equiv.congr dropped clause c same) ∙ are_same-equiv.symm dropped c in
      let here = ap one named in
      let before = enough c in
      let fewer = copies_without c dropped clauses in
      omega (arith, less, here, before, fewer)

-- a formula's clauses
pub row_all : (clauses : List (List Lit)) (live : Live) → IsRow live
    → IsRow (fold with_next live clauses)
row_all [] live row = row
row_all (clause ∷ clauses) live row =
    row_all clauses (with_next live clause) (row_next live row clause)

pub enough_all : (clauses : List (List Lit)) (live : Live) (row : IsRow live)
    (count : List Lit → ℕ) → IsEnough count live
    → IsEnough (λ c. count c + copies c clauses) (fold with_next live clauses)
enough_all [] live row count enough c = let h = enough c in omega (arith, h)
enough_all (clause ∷ clauses) live row count enough c =
    let h = enough_all clauses (with_next live clause) (row_next live row clause)
    (λ c. count c + one (are_same c clause)) (enough_next live row clause count enough) c in
    omega (arith, h)
