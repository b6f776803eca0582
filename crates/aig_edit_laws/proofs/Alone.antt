-- A circuit has one reduction.
use Rattle.aig_base.proofs.Words.{◌≡◌, ℕ, zero, suc, ◌<◌, Bool, true, false, List, [], ◌∷◌, length, get_or, refl, sym, ap, subst, ◌∙◌, inl, inr, arith, AllPairs, Contains, cases_lt}
use Rattle.std.proofs.lemmas.List.Elements.{filter_agree}
use Rattle.aig_circuit.proofs.Words.{Circuit, is_in}
use Rattle.aig_circuit.specs.declared.node.AigLatch.{AigLatch}
use Rattle.aig_renumber.proofs.Kept.{is_in-back, is_in-there}
use Rattle.aig_cone.specs.Refine.{AreKept, refined}
use Rattle.aig_strash.specs.Strash.{strashed}
use Rattle.aig_edit_laws.specs.Reduction.{IsReduced, asked_alone}

-- what follows the first is above it
above : (m : ℕ) (ms : List ℕ) (n k : ℕ) → AllPairs (λ i j. i < j) (m ∷ ms) → k < length ms
    → get_or ms k n ≡ n → m < n
above m ms n k is_increasing low is =
    omega (arith, is_increasing 0 (suc k) n (omega arith) (omega arith), is)

after : (m : ℕ) (ms : List ℕ) → AllPairs (λ i j. i < j) (m ∷ ms) → AllPairs (λ i j. i < j) ms
after m ms is_increasing i j d h l = is_increasing (suc i) (suc j) d (omega arith) (omega arith)

-- where all that one list has the other has, the first of the one isn't below the first of the other
no_lower : (m n : ℕ) (ms ns : List ℕ) → AllPairs (λ i j. i < j) (n ∷ ns) → Contains (n ∷ ns) m
    → m < n → ⊥
no_lower m n ms ns is_increasing (zero, low, is) less = omega (arith, is, less)
no_lower m n ms ns is_increasing (suc k, low, is) less =
    omega (arith, above n ns m k is_increasing (omega arith) is, less)

-- and what follows the first is after the same first
following : (m : ℕ) (ms ns : List ℕ) → AllPairs (λ i j. i < j) (m ∷ ms)
    → ((x : ℕ) → Contains (m ∷ ms) x → Contains (m ∷ ns) x) → (x : ℕ) → Contains ms x
    → Contains ns x
following m ms ns is_increasing all x (k, low, is) = rest (all x (suc k, omega arith, is))
  where
    rest : Contains (m ∷ ns) x → Contains ns x
    rest (zero, l, e) =
        absurd (let high = above m ms x k is_increasing low is in omega (arith, high, e))
    rest (suc j, l, e) = (j, omega arith, e)

-- rising lists of the same numbers are equal
rising_alone : (ms ns : List ℕ) → AllPairs (λ i j. i < j) ms → AllPairs (λ i j. i < j) ns
    → ((x : ℕ) → Contains ms x → Contains ns x) → ((x : ℕ) → Contains ns x → Contains ms x)
    → ms ≡ ns
rising_alone [] [] is_increasing also to from = refl
rising_alone [] (n ∷ ns) is_increasing also to from =
    absurd (let has = from n (0, omega arith, refl) in omega (arith, has.1))
rising_alone (m ∷ ms) [] is_increasing also to from =
    absurd (let has = to m (0, omega arith, refl) in omega (arith, has.1))
rising_alone (m ∷ ms) (n ∷ ns) is_increasing also to from =
    let here = to m (0, omega arith, refl) in
    let there = from n (0, omega arith, refl) in
    let same : m ≡ n = elim (cases_lt m n) [
      | inl less ↦ absurd (no_lower m n ms ns also here less)
      | inr high ↦ elim (cases_lt n m) [
        | inl less ↦ absurd (no_lower n m ns ms is_increasing there less)
        | inr low ↦ omega arith
      ]
    ] in
    let others = rising_alone ms ns (after m ms is_increasing) (after n ns also) (following m ms ns is_increasing (λ x has. subst (λ i. Contains (i ∷ ns) x) (sym same) (to x has)))
    (following n ns ms also (λ x has. subst (λ i. Contains (i ∷ ms) x) same (from x has))) in
    ap (λ i. i ∷ ms) same ∙ ap (λ is. n ∷ is) others

-- cones of the same numbers leave the same latches
same_alone : (cone other : List ℕ) (c : Circuit) → ((n : ℕ) → Contains cone n → Contains other n)
    → ((n : ℕ) → Contains other n → Contains cone n) → asked_alone cone c ≡ asked_alone other c
same_alone cone other c to from = λ i. record c {
  latchs = filter_agree (λ (l : AigLatch). is_in cone l.input) (λ (l : AigLatch). is_in other l.input) (λ l. same l.input) c.latchs i;
  properties = record c.properties { outputs = []; justice = []; fairness = [] };
}
  where
    same : (n : ℕ) → is_in cone n ≡ is_in other n
    same n = by (is_in cone n) (is_in other n) refl refl
      where
        by : (a b : Bool) → is_in cone n ≡ a → is_in other n ≡ b → is_in cone n ≡ is_in other n
        by true b is was = is ∙ sym (is_in-there other n (to n (is_in-back cone n is)))
        by false true is was = is_in-there cone n (from n (is_in-back other n was)) ∙ sym was
        by false false is was = is ∙ sym was

pub reduced_alone : (c d e : Circuit) → IsReduced c d → IsReduced c e → d ≡ e
reduced_alone c d e first second =
    let asked = same_alone second.cone first.cone c (λ n has. (first.is_cone n).1 ((second.is_cone n).0 has)) (λ n has. (second.is_cone n).1 ((first.is_cone n).0 has)) in
    let are = subst (λ a. AreKept a second.kept) asked second.are_kept in
    let same : first.kept ≡ second.kept =
    rising_alone first.kept second.kept first.are_kept.rising are.rising (λ x has. (are.exactly x).1 ((first.are_kept.exactly x).0 has))
    (λ x has. (first.are_kept.exactly x).1 ((are.exactly x).0 has)) in
    first.exact ∙ ap (λ kept. strashed (refined kept (asked_alone first.cone c))) same
    ∙ ap (λ a. strashed (refined second.kept a)) (sym asked) ∙ sym second.exact
