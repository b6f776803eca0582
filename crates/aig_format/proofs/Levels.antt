-- Levels: one more than those of the operands, and never more than the count of gates.
use Rattle.aig_base.proofs.Words.{◌≡◌, ◌≢◌, ℕ, zero, suc, ◌+◌, ◌/◌, ◌<◌, ◌≤◌, max, Bool, true, false, cond, eqb, not, List, [], ◌∷◌, length, Option, Some, None, refl, sym, ap, subst, ◌∙◌, arith, AllByRecursion, eqb-true, eqb-false, false≢true, nat_tests, same_Some}
use Rattle.std.specs.Prelude.{◌==◌, nat_lt, IsTrue, is_some}
use Rattle.aig_format.proofs.Words.{GateLine, File, AllPass, is_above_operands}
use Rattle.aig_format.specs.Variables.{gate_among, gate_of_variable}
use Rattle.aig_format.specs.Levels.{level_above, level_by, level_within, level_of, HasLevel}
use Rattle.aig_format.proofs.Rules.{above_told}
use Rattle.aig_format.proofs.Entries.{rec_weaker}
use Rattle.aig_format.proofs.Searches.{find_some}

-- ---- one step

-- a level above others that are at most n
level_above-le : (a b : Option ℕ) (n k : ℕ) → ((j : ℕ) → a ≡ Some j → j ≤ n) → ((j : ℕ) → b ≡ Some j → j ≤ n) → level_above a b ≡ Some k → k ≤ n + 1
level_above-le (Some i) (Some j) n k p q is = let e : max i j + 1 ≡ k = same_Some _ _ is in let x = p i refl in let y = q j refl in omega arith
level_above-le (Some i) None n k p q is = cc
level_above-le None b n k p q is = cc

level_by-le : (level : ℕ → Option ℕ) (o : Option GateLine) (n k : ℕ) → ((v j : ℕ) → level v ≡ Some j → j ≤ n) → level_by level o ≡ Some k → k ≤ n + 1
level_by-le level None n k h is = let e : 0 ≡ k = same_Some _ _ is in omega arith
level_by-le level (Some g) n k h is = level_above-le (level (g.rhs0 / 2)) (level (g.rhs1 / 2)) n k (h (g.rhs0 / 2)) (h (g.rhs1 / 2)) is

level_by-none : (o : Option GateLine) (k : ℕ) → level_by (λ _. None) o ≡ Some k → (o ≡ None) × (k ≡ 0)
level_by-none None k is = (refl, sym (same_Some _ _ is))
level_by-none (Some g) k is = cc

level_above-kept : (a b c d : Option ℕ) (k : ℕ) → ((j : ℕ) → a ≡ Some j → c ≡ Some j) → ((j : ℕ) → b ≡ Some j → d ≡ Some j) → level_above a b ≡ Some k → level_above c d ≡ Some k
level_above-kept (Some i) (Some j) c d k p q is = ap (λ c. level_above c d) (p i refl) ∙ ap (level_above (Some i)) (q j refl) ∙ is
level_above-kept (Some i) None c d k p q is = cc
level_above-kept None b c d k p q is = cc

level_by-kept : (first second : ℕ → Option ℕ) (o : Option GateLine) (k : ℕ) → ((v j : ℕ) → first v ≡ Some j → second v ≡ Some j) → level_by first o ≡ Some k → level_by second o ≡ Some k
level_by-kept first second None k h is = is
level_by-kept first second (Some g) k h is =
    level_above-kept (first (g.rhs0 / 2)) (first (g.rhs1 / 2)) (second (g.rhs0 / 2)) (second (g.rhs1 / 2)) k (h (g.rhs0 / 2)) (h (g.rhs1 / 2)) is

-- the levels that a gate's level is above
pub record StandsAbove (level : ℕ → Option ℕ) (g : GateLine) (k : ℕ) : Type 0 where
  pub first : ℕ
  pub second : ℕ
  pub first_is : level (g.rhs0 / 2) ≡ Some first
  pub second_is : level (g.rhs1 / 2) ≡ Some second
  pub above : k ≡ max first second + 1

above-parts : (level : ℕ → Option ℕ) (g : GateLine) (a b : Option ℕ) (k : ℕ) → level (g.rhs0 / 2) ≡ a → level (g.rhs1 / 2) ≡ b → level_above a b ≡ Some k → StandsAbove level g k
above-parts level g (Some i) (Some j) k p q is = record { first = i; second = j; first_is = p; second_is = q; above = sym (same_Some _ _ is) }
above-parts level g (Some i) None k p q is = cc
above-parts level g None b k p q is = cc

-- whether a level is there and is w or more
abbrev is_high : ℕ → Option ℕ → Bool
is_high w (Some k) = not (nat_lt k w)
is_high w None = false

fewer_high : (o : Option ℕ) (w : ℕ) → cond (is_high (w + 1) o) 1 0 ≤ cond (is_high w o) 1 0
fewer_high (Some k) w = grind (arith, nat_tests)
fewer_high None w = omega arith

one_high : (w : ℕ) → cond (is_high (w + 1) (Some w)) 1 0 + 1 ≤ cond (is_high w (Some w)) 1 0
one_high w = grind (arith, nat_tests)

-- ---- levels over some gates

module _ (gates : List GateLine) where
  -- a level within n is at most n
  level_within-le : (n v k : ℕ) → level_within gates n v ≡ Some k → k ≤ n
  level_within-le zero v k is = let e = (level_by-none (gate_among gates v) k is).1 in omega arith
  level_within-le (suc n) v k is = let h = level_by-le (level_within gates n) (gate_among gates v) n k (level_within-le n) is in omega arith

  -- and it is there within more
  level_within-kept : (n v k : ℕ) → level_within gates n v ≡ Some k → level_within gates (suc n) v ≡ Some k
  level_within-kept zero v k is = level_by-kept (λ _. None) (level_within gates zero) (gate_among gates v) k (λ v j e. cc) is
  level_within-kept (suc n) v k is = level_by-kept (level_within gates n) (level_within gates (suc n)) (gate_among gates v) k (level_within-kept n) is

  within_leaf : (n v : ℕ) → gate_among gates v ≡ None → level_within gates n v ≡ Some 0
  within_leaf zero v none = ap (level_by (λ _. None)) none
  within_leaf (suc n) v none = ap (level_by (level_within gates n)) none

  within_gate : (n v k : ℕ) (g : GateLine) → gate_among gates v ≡ Some g → level_within gates n v ≡ Some k → StandsAbove (level_within gates n) g k
  within_gate zero v k g found is = cc
  within_gate (suc n) v k g found is =
      let s = above-parts (level_within gates n) g (level_within gates n (g.rhs0 / 2)) (level_within gates n (g.rhs1 / 2)) k refl refl (ap (level_by (level_within gates n)) (sym found) ∙ is) in
      record {
        first = s.first;
        second = s.second;
        first_is = level_within-kept n (g.rhs0 / 2) s.first s.first_is;
        second_is = level_within-kept n (g.rhs1 / 2) s.second s.second_is;
        above = s.above;
      }

  within_operands : (n v i j : ℕ) (g : GateLine) → gate_among gates v ≡ Some g → level_within gates n (g.rhs0 / 2) ≡ Some i → level_within gates n (g.rhs1 / 2) ≡ Some j → level_within gates (suc n) v ≡ Some (max i j + 1)
  within_operands n v i j g found first second =
      ap (level_by (level_within gates n)) found ∙ ap (λ a. level_above a (level_within gates n (g.rhs1 / 2))) first ∙ ap (level_above (Some i)) second

  -- ---- a level is at most the count of gates: below a gate there is one of each lesser level

  -- how many of these gates have level w or a greater one
  abbrev high_gates : ℕ → ℕ → List GateLine → ℕ
  high_gates n w [] = 0
  high_gates n w (g ∷ gs) = cond (is_high w (level_within gates n (g.lhs / 2))) 1 0 + high_gates n w gs

  high-le : (n w : ℕ) (gs : List GateLine) → high_gates n (w + 1) gs ≤ high_gates n w gs
  high-le n w [] = omega arith
  high-le n w (g ∷ gs) = omega (arith, high-le n w gs, fewer_high (level_within gates n (g.lhs / 2)) w)

  high-length : (n w : ℕ) (gs : List GateLine) → high_gates n w gs ≤ length gs
  high-length n w [] = omega arith
  high-length n w (g ∷ gs) = at_most (is_high w (level_within gates n (g.lhs / 2))) (high-length n w gs)
    where
      at_most : (b : Bool) → high_gates n w gs ≤ length gs → cond b 1 0 + high_gates n w gs ≤ suc (length gs)
      at_most true rest = omega arith
      at_most false rest = omega arith

  -- with a gate of a level there is one more of it or a greater one than of greater ones
  high-more : (n w v : ℕ) (gs : List GateLine) (g : GateLine) → gate_among gs v ≡ Some g → level_within gates n v ≡ Some w → high_gates n (w + 1) gs + 1 ≤ high_gates n w gs
  high-more n w v [] g found is = cc
  high-more n w v (h ∷ gs) g found is = by_test (h.lhs / 2 == v) refl found (λ e. high-more n w v gs g e is)
    where
      by_test : (b : Bool) → (h.lhs / 2 == v) ≡ b → cond b (Some h) (gate_among gs v) ≡ Some g → (gate_among gs v ≡ Some g → high_gates n (w + 1) gs + 1 ≤ high_gates n w gs)
          → high_gates n (w + 1) (h ∷ gs) + 1 ≤ high_gates n w (h ∷ gs)
      by_test true same found rest =
          let own : level_within gates n (h.lhs / 2) ≡ Some w = ap (level_within gates n) (eqb-true (h.lhs / 2) v same) ∙ is in
          let more = subst (λ o. cond (is_high (w + 1) o) 1 0 + 1 ≤ cond (is_high w o) 1 0) (sym own) (one_high w) in
          omega (arith, more, high-le n w gs)
      by_test false differs found rest = omega (arith, rest found, fewer_high (level_within gates n (h.lhs / 2)) w)

  -- a gate of a level
  record GateAt (n w : ℕ) : Type 0 where
    variable : ℕ
    gate : GateLine
    found : gate_among gates variable ≡ Some gate
    is : level_within gates n variable ≡ Some w

  -- below a variable of level k there is a gate of each level from 1 to k
  gate_at_level : (n most k v w : ℕ) → k ≤ most → level_within gates n v ≡ Some k → 1 ≤ w → w ≤ k → GateAt n w
  gate_at_level n zero k v w low is one h = absurd (omega arith)
  gate_at_level n (suc most) k v w low is one h = by_gate (gate_among gates v) refl (gate_at_level n most)
    where
      Below : Type 0
      Below = (k v w : ℕ) → k ≤ most → level_within gates n v ≡ Some k → 1 ≤ w → w ≤ k → GateAt n w

      by_gate : (o : Option GateLine) → gate_among gates v ≡ o → Below → GateAt n w
      by_gate None none rest = absurd (let e : 0 ≡ k = same_Some _ _ (sym (within_leaf n v none) ∙ is) in omega arith)
      by_gate (Some g) found rest = by_level (eqb w k) refl
        where
          s : StandsAbove (level_within gates n) g k
          s = within_gate n v k g found is

          by_operand : (b : Bool) → nat_lt s.first s.second ≡ b → (w ≢ k) → GateAt n w
          by_operand true less differs =
              let a = s.above in let l : s.first < s.second = grind (arith, nat_tests) in
              rest s.second (g.rhs1 / 2) w (omega arith) s.second_is one (omega arith)
          by_operand false less differs =
              let a = s.above in let l : s.second ≤ s.first = grind (arith, nat_tests) in
              rest s.first (g.rhs0 / 2) w (omega arith) s.first_is one (omega arith)

          by_level : (b : Bool) → eqb w k ≡ b → GateAt n w
          by_level true same = record { variable = v; gate = g; found = found; is = is ∙ ap Some (sym (eqb-true w k same)) }
          by_level false differs = by_operand (nat_lt s.first s.second) refl (eqb-false w k differs)

  high-count : (n k v : ℕ) → level_within gates n v ≡ Some k → (d w : ℕ) → w + d ≡ k → 1 ≤ w → d + 1 ≤ high_gates n w gates
  high-count n k v is zero w e one =
      let u = gate_at_level n k k v w (omega arith) is one (omega arith) in omega (arith, high-more n w u.variable gates u.gate u.found u.is)
  high-count n k v is (suc d) w e one =
      let u = gate_at_level n k k v w (omega arith) is one (omega arith) in
      omega (arith, high-more n w u.variable gates u.gate u.found u.is, high-count n k v is d (w + 1) (omega arith) (omega arith))

  level-le : (n k v : ℕ) → level_within gates n v ≡ Some k → k ≤ length gates
  level-le n zero v is = omega arith
  level-le n (suc k) v is = omega (arith, high-count n (suc k) v is k 1 (omega arith) (omega arith), high-length n 1 gates)

  -- a level is found within all that is not less than it
  settled : (m n v k : ℕ) → level_within gates n v ≡ Some k → k ≤ m → level_within gates m v ≡ Some k
  settled zero n v k is low = by_gate (gate_among gates v) refl
    where
      by_gate : (o : Option GateLine) → gate_among gates v ≡ o → level_within gates zero v ≡ Some k
      by_gate None none = within_leaf zero v none ∙ sym (within_leaf n v none) ∙ is
      by_gate (Some g) found = let s = within_gate n v k g found is in let a = s.above in absurd (omega arith)
  settled (suc m) n v k is low = by_gate (gate_among gates v) refl (settled m n)
    where
      by_gate : (o : Option GateLine) → gate_among gates v ≡ o → ((v k : ℕ) → level_within gates n v ≡ Some k → k ≤ m → level_within gates m v ≡ Some k) → level_within gates (suc m) v ≡ Some k
      by_gate None none rest = within_leaf (suc m) v none ∙ sym (within_leaf n v none) ∙ is
      by_gate (Some g) found rest =
          let s = within_gate n v k g found is in let a = s.above in
          within_operands m v s.first s.second g found (rest (g.rhs0 / 2) s.first s.first_is (omega arith)) (rest (g.rhs1 / 2) s.second s.second_is (omega arith)) ∙ ap Some (sym s.above)

-- ---- the levels of a file

pub level_of-le : (f : File) (v k : ℕ) → level_of f v ≡ Some k → k ≤ length f.gates
level_of-le f v k is = level_within-le f.gates (length f.gates) v k is

-- what no gate defines has level 0
pub level_of-leaf : (f : File) (v : ℕ) → gate_of_variable f v ≡ None → level_of f v ≡ Some 0
level_of-leaf f v none = within_leaf f.gates (length f.gates) v none

-- a gate's level is one more than the greater level of its operands' variables
pub level_of-gate : (f : File) (v k : ℕ) (g : GateLine) → gate_of_variable f v ≡ Some g → level_of f v ≡ Some k → StandsAbove (level_of f) g k
level_of-gate f v k g found is = within_gate f.gates (length f.gates) v k g found is

-- where both operands' variables have levels, so has the gate
pub level_of-operands : (f : File) (v i j : ℕ) (g : GateLine) → gate_of_variable f v ≡ Some g → level_of f (g.rhs0 / 2) ≡ Some i → level_of f (g.rhs1 / 2) ≡ Some j → level_of f v ≡ Some (max i j + 1)
level_of-operands f v i j g found first second =
    let count = length f.gates in
    let is = within_operands f.gates count v i j g found first second in
    settled f.gates count (suc count) v (max i j + 1) is (level-le f.gates (suc count) (max i j + 1) v is)

-- so a gate's level is that above its operands, also where there is none
pub level_of-above : (f : File) (v : ℕ) (g : GateLine) → gate_of_variable f v ≡ Some g → level_of f v ≡ level_above (level_of f (g.rhs0 / 2)) (level_of f (g.rhs1 / 2))
level_of-above f v g found = by_own (level_of f v) refl
  where
    -- a variable with a level stands above its gate's operands
    by_own : (o : Option ℕ) → level_of f v ≡ o → level_of f v ≡ level_above (level_of f (g.rhs0 / 2)) (level_of f (g.rhs1 / 2))
    by_own (Some k) is =
        let s = level_of-gate f v k g found is in
        is ∙ ap Some s.above ∙ sym (ap (λ a. level_above a (level_of f (g.rhs1 / 2))) s.first_is ∙ ap (level_above (Some s.first)) s.second_is)
    by_own None is = by_operands (level_of f (g.rhs0 / 2)) (level_of f (g.rhs1 / 2)) refl refl
      where
        by_operands : (a b : Option ℕ) → level_of f (g.rhs0 / 2) ≡ a → level_of f (g.rhs1 / 2) ≡ b → level_of f v ≡ level_above (level_of f (g.rhs0 / 2)) (level_of f (g.rhs1 / 2))
        by_operands (Some i) (Some j) first second = let there = level_of-operands f v i j g found first second in absurd cc
        by_operands (Some i) None first second = is ∙ sym (ap (λ a. level_above a (level_of f (g.rhs1 / 2))) first ∙ ap (level_above (Some i)) second)
        by_operands None b first second = is ∙ sym (ap (λ a. level_above a (level_of f (g.rhs1 / 2))) first)

-- where each gate has a level, each variable has
pub levelled : (f : File) → AllByRecursion (HasLevel f) f.gates → (v : ℕ) → (k : ℕ) × (level_of f v ≡ Some k)
levelled f all v = by_gate (gate_of_variable f v) refl
  where
    of_some : (o : Option ℕ) → IsTrue (is_some o) → (k : ℕ) × (o ≡ Some k)
    of_some (Some k) h = (k, refl)
    of_some None h = absurd (false≢true h)

    by_gate : (o : Option GateLine) → gate_of_variable f v ≡ o → (k : ℕ) × (level_of f v ≡ Some k)
    by_gate None none = (0, level_of-leaf f v none)
    by_gate (Some g) found =
        let s = find_some (HasLevel f) (λ h. h.lhs / 2 == v) f.gates g all found in
        let is = of_some (level_of f (g.lhs / 2)) s.1 in
        (is.0, ap (level_of f) (sym (eqb-true (g.lhs / 2) v s.0)) ∙ is.1)

-- where operands' variables are smaller than gates', each variable has a level
ordered_levelled : (f : File) → AllPass is_above_operands f.gates → (n v : ℕ) → v < n → (k : ℕ) × (level_of f v ≡ Some k)
ordered_levelled f all zero v h = absurd (omega arith)
ordered_levelled f all (suc n) v h = by_gate (gate_of_variable f v) refl (ordered_levelled f all n)
  where
    by_gate : (o : Option GateLine) → gate_of_variable f v ≡ o → ((u : ℕ) → u < n → (k : ℕ) × (level_of f u ≡ Some k)) → (k : ℕ) × (level_of f v ≡ Some k)
    by_gate None none rest = (0, level_of-leaf f v none)
    by_gate (Some g) found rest =
        let s = find_some (λ g. is_above_operands g ≡ true) (λ h. h.lhs / 2 == v) f.gates g all found in
        let above = above_told g s.1 in
        let own = eqb-true (g.lhs / 2) v s.0 in
        let first = rest (g.rhs0 / 2) (omega (arith, own, above.0)) in
        let second = rest (g.rhs1 / 2) (omega (arith, own, above.1)) in
        (max first.0 second.0 + 1, level_of-operands f v first.0 second.0 g found first.1 second.1)

pub levels-ordered : (f : File) → AllPass is_above_operands f.gates → AllByRecursion (HasLevel f) f.gates
levels-ordered f all =
    rec_weaker (λ g. is_above_operands g ≡ true) (HasLevel f) (λ g h. let level = ordered_levelled f all (suc (g.lhs / 2)) (g.lhs / 2) (omega arith) in subst (λ o. IsTrue (is_some o)) (sym level.1) refl) f.gates all
