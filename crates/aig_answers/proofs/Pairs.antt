-- How many pairs there are.
use Rattle.aig_answers.proofs.Words.{◌/◌, ◌%◌, mul_assoc, mul_comm, cases_lt, AigEdge, AigLatch, Circuit, unrolled_size, Window, Plain, Distinct, count_pairs, distinct_clauses, pairwise_clauses, window_size}
use Rattle.std.proofs.Common.{◌≡◌, ◌≢◌, List, length, sym, ℕ, zero, suc, ◌+◌, ◌-◌, ◌*◌, ◌<◌, ◌≤◌, refl, ap, subst, ◌∙◌, inl, inr, arith}
use Rattle.std.proofs.Math.Nat.{add-mul, le-div_iff_mul-le, mul-le-mul_right, mul-suc, suc-mul}

pairs_twice : (n : ℕ) → 2 * count_pairs n + n ≡ n * n
pairs_twice zero = refl
pairs_twice (suc n) =
    let square : suc n * suc n ≡ n * n + n + suc n = suc-mul n (suc n) ∙ ap (λ m. m + suc n) (mul-suc n n) in
    omega (arith, pairs_twice n, square)

halved_even : (n m j count : ℕ) → n ≡ 2 * m → n ≡ suc j → 2 * count + n ≡ n * n → m * j ≡ count
halved_even n m j count two one twice =
    let square : n * n ≡ n * j + n = ap (λ x. n * x) one ∙ mul-suc n j in
    let half : n * j ≡ 2 * (m * j) = ap (λ x. x * j) two ∙ mul_assoc 2 m j in
    omega (arith, square, half, twice)

halved_odd : (n m count : ℕ) → n ≡ suc (2 * m) → 2 * count + n ≡ n * n → n * m ≡ count
halved_odd n m count one twice =
    let square : n * n ≡ n * (2 * m) + n = ap (λ x. n * x) one ∙ mul-suc n (2 * m) in
    let half : n * (2 * m) ≡ 2 * (n * m) = mul_comm n (2 * m) ∙ mul_assoc 2 m n ∙ ap (λ x. 2 * x) (mul_comm m n) in
    omega (arith, square, half, twice)

pub pairs_even : (n : ℕ) → 1 ≤ n → n % 2 ≡ 0 → n / 2 * (n - 1) ≡ count_pairs n
pairs_even n some even = halved_even n (n / 2) (n - 1) (count_pairs n) (omega arith) (omega arith) (pairs_twice n)

pub pairs_odd : (n : ℕ) → n % 2 ≢ 0 → n * ((n - 1) / 2) ≡ count_pairs n
pairs_odd n odd = halved_odd n ((n - 1) / 2) (count_pairs n) (omega arith) (pairs_twice n)

pairs_rise : (s t : ℕ) → s ≤ t → count_pairs s ≤ count_pairs t
pairs_rise s zero low = let none : zero ≡ s = omega arith in subst (λ m. count_pairs m ≤ count_pairs zero) none (omega arith)
pairs_rise s (suc t) low = elim (cases_lt s (suc t)) [
  | inl less ↦ let before = pairs_rise s t (omega arith) in omega (arith, before)
  | inr all ↦ let same : suc t ≡ s = omega arith in subst (λ m. count_pairs m ≤ count_pairs (suc t)) same (omega arith)
]

-- the pairs with one step more are among those of all steps
pub pairs_next : (t steps l : ℕ) → t < steps → count_pairs t * l + t * l ≤ count_pairs steps * l
pairs_next t steps l low =
    let more = mul-le-mul_right l (pairs_rise (suc t) steps (omega arith)) in
    omega (arith, more, add-mul (count_pairs t) t l)

-- more pairs than the limit has room for
crowded : (pairs l limit size : ℕ) → l ≢ 0 → limit / l < pairs → size + pairs * l ≤ limit → ⊥
crowded pairs l limit size some more low =
    let positive : zero < l = omega arith in
    let few = (le-div_iff_mul-le {k = l} {x = pairs} {y = limit} positive).1 (omega arith) in
    omega arith

pub no_room : (form : Window) (c : Circuit) (k limit pairs : ℕ) (latchs : List AigLatch) → form ≡ Distinct → latchs ≡ c.latchs → pairs ≡ count_pairs (k + 2) → length latchs ≢ 0 → limit / length latchs < pairs → window_size form c k ≤ limit → ⊥
no_room Plain c k limit pairs latchs is these count some more low = cc
no_room Distinct c k limit pairs latchs is these count some more low =
    crowded pairs (length latchs) limit (unrolled_size c (k + 1)) some more
    (subst (λ p. unrolled_size c (k + 1) + p * length latchs ≤ limit) (sym count) (subst (λ (ls : List AigLatch). unrolled_size c (k + 1) + count_pairs (k + 2) * length ls ≤ limit) (sym these) low))

-- where there are latches, the states differ pair by pair
pub some_latches : (n l : ℕ) (edges : List AigEdge) (steps : ℕ) → l ≢ 0
    → pairwise_clauses n l edges steps ≡ distinct_clauses n l edges steps
some_latches n zero edges steps some = absurd (some refl)
some_latches n (suc l) edges steps some = refl
