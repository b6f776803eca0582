-- A binary difference, group by group.
use Rattle.aig_base.proofs.Words.{◌≡◌, ℕ, zero, suc, ◌+◌, ◌-◌, ◌/◌, ◌%◌, ◌^◌, ◌<◌, ◌≤◌, true, cond, List, [], ◌∷◌, ◌++◌, length, take, refl, sym, ap, ◌∙◌, arith, nat_lt, slice_set, nat_tests, take_more_set}
use Rattle.aig_format.specs.Written.{delta_of, groups_of}

-- what is left of a difference after so many groups is below this
abbrev pub bound : ℕ → ℕ
bound zero = 2 ^ 32
bound (suc zero) = 2 ^ 25
bound (suc (suc zero)) = 2 ^ 18
bound (suc (suc (suc zero))) = 2 ^ 11
bound (suc (suc (suc (suc k)))) = 2 ^ 4

groups_end : (k rest : ℕ) → rest < 128 → groups_of k rest ≡ rest ∷ []
groups_end zero rest h = refl
groups_end (suc k) rest h = let test : nat_lt rest 128 ≡ true = grind (arith, nat_tests) in ap (λ b. cond b (rest ∷ []) ((rest % 128 + 128) ∷ groups_of k (rest / 128))) test

-- groups stand from `at` up to `end`, after a text, and the rest of the difference is still to come
pub record Grouped (front : List ℕ) (d : ℕ) (groups : List ℕ) (at end rest : ℕ) : Type 0 where
  pub begins : at ≤ end
  pub within : end ≤ at + 4
  pub room : at + 5 ≤ length groups
  pub low : rest < bound (end - at)
  pub spelled : front ++ delta_of d ≡ take end groups ++ groups_of (4 - (end - at)) rest

pub Grouped-start : (d : ℕ) (groups : List ℕ) (at : ℕ) → d < 2 ^ 32 → at + 5 ≤ length groups → Grouped (take at groups) d groups at at d
unfolding delta_of
Grouped-start d groups at small room =
    let none : at - at ≡ 0 = omega arith in
    record { begins = omega arith; within = omega arith; room = room; low = rw none small; spelled = rw none refl }

pub Grouped-end : (front : List ℕ) (d : ℕ) (groups : List ℕ) (at end rest : ℕ) → Grouped front d groups at end rest → rest < 128
    → take (end + 1) (slice_set groups end rest) ≡ front ++ delta_of d
Grouped-end front d groups at end rest so_far last =
    let within = so_far.within in let room = so_far.room in let begins = so_far.begins in
    take_more_set groups end rest (omega arith) ∙ sym (ap (λ l. take end groups ++ l) (groups_end (4 - (end - at)) rest last)) ∙ sym so_far.spelled
