-- So many latches have no more states than values, so a window of more steps has some state twice.
use Rattle.aig_base.proofs.Words.{◌≡◌, ℕ, zero, suc, ◌+◌, ◌*◌, ◌/◌, ◌<◌, ◌≤◌, Bool, true, false, cond, eqb, List, [], ◌∷◌, length, refl, sym, ap, arith, pow-succ', eqb-true, ne_eqb, All-contains, All-from_recursion, length-le_from_distinct_below, Contains-from_any}
use Rattle.std.specs.Prelude.{◌^◌}
use Rattle.std.specs.List.{AllByRecursion, IsDistinct, list_any}
use Rattle.aig_format.specs.File.{File, LatchLine}
use Rattle.aig_runs.specs.Queries.{IsSafeTo}
use Rattle.aig_runs.specs.declared.window.Window.TheVariants.{Distinct}
use Rattle.aig_runs.specs.Induction.{HasDistinctStates, IsKInductive}
use Rattle.aig_runs.proofs.Induction.{always_safe_by_windows}

-- ---- a state as a number

-- one binary digit for each latch
abbrev number : (ℕ → Bool) → List LatchLine → ℕ
number values [] = 0
number values (l ∷ ls) = cond (values (l.literal / 2)) 1 0 + 2 * number values ls

number_below : (values : ℕ → Bool) (ls : List LatchLine) → number values ls < 2 ^ length ls
number_below values [] = omega arith
number_below values (l ∷ ls) =
    by_digit (values (l.literal / 2)) (number values ls) (length ls) (number_below values ls)
  where
    by_digit : (b : Bool) (n digits : ℕ) → n < 2 ^ digits → cond b 1 0 + 2 * n < 2 ^ suc digits
    by_digit true n digits low = let twice = pow-succ' 2 digits in omega (arith, low, twice)
    by_digit false n digits low = let twice = pow-succ' 2 digits in omega (arith, low, twice)

same_digits : (a b : Bool) (m n : ℕ) → cond a 1 0 + 2 * m ≡ cond b 1 0 + 2 * n → (a ≡ b) × (m ≡ n)
same_digits true true m n same = (refl, omega arith)
same_digits true false m n same = absurd (omega arith)
same_digits false true m n same = absurd (omega arith)
same_digits false false m n same = (refl, omega arith)

-- a number has one state
number_same : (values other : ℕ → Bool) (ls : List LatchLine) → number values ls ≡ number other ls
    → AllByRecursion (λ (l : LatchLine). values (l.literal / 2) ≡ other (l.literal / 2)) ls
number_same values other [] same = tt
number_same values other (l ∷ ls) same =
    let v = l.literal / 2 in
    let parts = same_digits (values v) (other v) (number values ls) (number other ls) same in
    (parts.0, number_same values other ls parts.1)

-- ---- the states of a window

module _ (f : File) (run : ℕ → ℕ → Bool) where
  -- the number of the state at step t
  abbrev at : ℕ → ℕ
  at t = number (run t) f.latches

  -- those before step n
  abbrev numbers : ℕ → List ℕ
  numbers zero = []
  numbers (suc n) = at n ∷ numbers n

  numbers_count : (n : ℕ) → length (numbers n) ≡ n
  numbers_count zero = refl
  numbers_count (suc n) = ap suc (numbers_count n)

  -- they are below the count of states
  abbrev IsSmall : ℕ → Type 0
  IsSmall q = q < 2 ^ length f.latches

  numbers_small : (n : ℕ) → AllByRecursion IsSmall (numbers n)
  numbers_small zero = tt
  numbers_small (suc n) = (number_below (run n) f.latches, numbers_small n)

  module _ (last : ℕ) (distinct : HasDistinctStates f last run) where
    numbers_apart : (t n : ℕ) → n ≤ t → t ≤ last
        → AllByRecursion (λ q. eqb (at t) q ≡ false) (numbers n)
    numbers_apart t zero before low = tt
    numbers_apart t (suc n) before low =
        let apart = distinct n t (omega arith) low in
        let same_state = number_same (run n) (run t) f.latches in
        let differ = ne_eqb (at t) (at n) (λ same. apart (same_state (sym same))) in
        (differ, numbers_apart t n (omega arith) low)

    numbers_distinct : (n : ℕ) → n ≤ last + 1 → IsDistinct eqb (numbers n)
    unfolding IsDistinct
    numbers_distinct zero low = tt
    numbers_distinct (suc n) low =
        (numbers_apart n n (omega arith) (omega arith), numbers_distinct n (omega arith))

    few_states : last + 1 ≤ 2 ^ length f.latches
    few_states =
        let all = numbers (last + 1) in
        let small = All-from_recursion IsSmall all (numbers_small (last + 1)) in
        let within : (q : ℕ) → list_any (eqb q) all ≡ true → IsSmall q = λ q there.
        All-contains IsSmall all q small (Contains-from_any (λ x y is. eqb-true x y is) q all there) in
        let distinct = numbers_distinct (last + 1) (omega arith) in
        let few = length-le_from_distinct_below all (2 ^ length f.latches) distinct within in
        omega (arith, few, numbers_count (last + 1))

-- ---- the laws

pub no_long_window : (f : File) (k : ℕ) → 2 ^ length f.latches ≤ k + 1 → IsKInductive Distinct f k
no_long_window f k long run w =
    let few = few_states f run (k + 1) w.states in
    absurd (omega (arith, few, long))

pub safe_by_count : (f : File) (k : ℕ) → 2 ^ length f.latches ≤ k + 1 → IsSafeTo f k
    → (n : ℕ) → IsSafeTo f n
safe_by_count f k long base = always_safe_by_windows Distinct f k base (no_long_window f k long)
