-- Numbers are read from the front exactly.
use Rattle.aig_base.proofs.Words.{◌≡◌, ℕ, zero, suc, ◌+◌, ◌-◌, ◌*◌, ◌^◌, ◌<◌, ◌≤◌, true, false, cond, ltb, List, [], ◌∷◌, ◌++◌, length, Option, Some, None, refl, sym, ap, subst, ◌∙◌, arith, inl, inr, ◌⊎◌, AllByRecursion, nat_tests, le-ltb, ltb-true, lt-ltb, same_Some}
use Rattle.std.proofs.Math.Nat.{pow-succ', mul-le-mul_left}
use Rattle.aig_format.proofs.Words.{IsDigit, value_of, IsNumber}
use Rattle.aig_format.proofs.Entries.{chosen}
use Rattle.aig_format.specs.Parse.{◌>>=◌, is_digit, parse_digits, parse_number}

pub bind_some : {A B : Type 0} (o : Option A) (f : A → Option B) (y : B) → (o >>= f) ≡ Some y → (x : A) × (o ≡ Some x) × (f x ≡ Some y)
bind_some (Some x) f y e = (x, refl, e)
bind_some None f y e = absurd cc

pub digit_true : (b : ℕ) → is_digit b ≡ true → IsDigit b
digit_true b e = grind (arith, nat_tests)

pub true_digit : (b : ℕ) → IsDigit b → is_digit b ≡ true
true_digit b h = grind (arith, nat_tests)

pub digit_false : (b : ℕ) → is_digit b ≡ false → IsDigit b → ⊥
digit_false b e h = grind (arith, nat_tests)

pub false_digit : (b : ℕ) → (IsDigit b → ⊥) → is_digit b ≡ false
false_digit b h = grind (arith, nat_tests)

pow_some : (k : ℕ) → 0 < 10 ^ k
pow_some zero = omega arith
pow_some (suc k) = rw pow-succ' (omega (arith, pow_some k))

-- one more digit after the value so far
one_more : (v d k w : ℕ) → (10 * v + d) * 10 ^ k + w ≡ v * 10 ^ suc k + (d * 10 ^ k + w)
one_more v d k w = rw pow-succ' (omega arith)

-- the value so far is at most the whole value
grows : (v k w : ℕ) → v ≤ v * 10 ^ k + w
grows v k w = omega (arith, mul-le-mul_left v (pow_some k))

-- what reading on from a value takes from the front
pub record Digits (v : ℕ) (bytes : List ℕ) (n e : ℕ) (rest : List ℕ) : Type 0 where
  pub digits : List ℕ
  pub whole : bytes ≡ digits ++ e ∷ rest
  pub each : AllByRecursion IsDigit digits
  pub value : v * 10 ^ length digits + value_of digits ≡ n
  pub small : v < 2 ^ 32 → n < 2 ^ 32
  pub ends : IsDigit e → ⊥

digits_more : (v b n e : ℕ) (bs rest : List ℕ) → IsDigit b → 10 * v + (b - 48) < 2 ^ 32 → Digits (10 * v + (b - 48)) bs n e rest → Digits v (b ∷ bs) n e rest
digits_more v b n e bs rest d small h = record {
  digits = b ∷ h.digits;
  whole = ap (λ (xs : List ℕ). b ∷ xs) h.whole;
  each = (d, h.each);
  value = sym (one_more v (b - 48) (length h.digits) (value_of h.digits)) ∙ h.value;
  small = λ _. h.small small;
  ends = h.ends;
}

pub digits_sound : (v : ℕ) (bytes : List ℕ) (n e : ℕ) (rest : List ℕ) → parse_digits v bytes ≡ Some ((n, e), rest) → Digits v bytes n e rest
unfolding parse_digits
digits_sound v [] n e rest h = absurd cc
digits_sound v (b ∷ bs) n e rest h =
    elim (chosen (is_digit b) (cond (ltb (10 * v + (b - 48)) (2 ^ 32)) (parse_digits (10 * v + (b - 48)) bs) None) (Some ((v, b), bs)) (Some ((n, e), rest)) h) [
      | inl then_h ↦
          elim (chosen (ltb (10 * v + (b - 48)) (2 ^ 32)) (parse_digits (10 * v + (b - 48)) bs) None (Some ((n, e), rest)) then_h.1) [
            | inl fits ↦ digits_more v b n e bs rest (digit_true b then_h.0) (ltb-true _ _ fits.0) (digits_sound (10 * v + (b - 48)) bs n e rest fits.1)
            | inr else_h ↦ let f = else_h.1 in absurd cc
          ]
      | inr else_h ↦
          let same : ((v, b), bs) ≡ ((n, e), rest) = same_Some _ _ else_h.1 in
          subst (λ (x : (ℕ × ℕ) × List ℕ). Digits v (b ∷ bs) x.0.0 x.0.1 x.1) same (record {
            digits = [];
            whole = refl;
            each = tt;
            value = omega arith;
            small = λ s. s;
            ends = digit_false b else_h.0;
          })
    ]

pub digits_complete : (v : ℕ) (digits : List ℕ) (e : ℕ) (rest : List ℕ) → AllByRecursion IsDigit digits → (IsDigit e → ⊥) → v * 10 ^ length digits + value_of digits < 2 ^ 32
    → parse_digits v (digits ++ e ∷ rest) ≡ Some ((v * 10 ^ length digits + value_of digits, e), rest)
unfolding parse_digits
digits_complete v [] e rest each ends small =
    let k : v ≡ v * 1 + 0 = omega arith in
    rw (false_digit e ends, ← k) refl
digits_complete v (d ∷ ds) e rest each ends small =
    let more = one_more v (d - 48) (length ds) (value_of ds) in
    let now : 10 * v + (d - 48) < 2 ^ 32 = omega (arith, grows (10 * v + (d - 48)) (length ds) (value_of ds), more) in
    let one : parse_digits (10 * v + (d - 48)) (ds ++ e ∷ rest) ≡ Some (((10 * v + (d - 48)) * 10 ^ length ds + value_of ds, e), rest) =
    digits_complete (10 * v + (d - 48)) ds e rest each.1 ends (rw more small) in
    rw (true_digit d each.0, lt-ltb _ _ now, ← more) one

-- a number and the byte that ends it, as parse_number takes them from the front
pub record Taken (bytes : List ℕ) (n e : ℕ) (rest : List ℕ) : Type 0 where
  pub digits : List ℕ
  pub whole : bytes ≡ digits ++ e ∷ rest
  pub is : IsNumber n digits
  pub ends : IsDigit e → ⊥

-- the first digit's value is that of a list of one digit
first_value : (d k w : ℕ) → (d - 48) * 10 ^ k + w ≡ (d - 48) * 10 ^ k + w
first_value d k w = refl

digit_small : (b : ℕ) → IsDigit b → b - 48 < 2 ^ 32
digit_small b h = omega arith

pub number_sound : (bytes : List ℕ) (n e : ℕ) (rest : List ℕ) → parse_number bytes ≡ Some ((n, e), rest) → Taken bytes n e rest
unfolding parse_number
number_sound [] n e rest h = absurd cc
number_sound (b ∷ bs) n e rest h =
    elim (chosen (is_digit b) (parse_digits (b - 48) bs) None (Some ((n, e), rest)) h) [
      | inl then_h ↦
          let d = digits_sound (b - 48) bs n e rest then_h.1 in
          record {
            digits = b ∷ d.digits;
            whole = ap (λ (xs : List ℕ). b ∷ xs) d.whole;
            is = record { some = λ x. cc; each = (digit_true b then_h.0, d.each); value = d.value; small = d.small (digit_small b (digit_true b then_h.0)) };
            ends = d.ends;
          }
      | inr else_h ↦ let f = else_h.1 in absurd cc
    ]

pub number_complete : (digits : List ℕ) (n e : ℕ) (rest : List ℕ) → IsNumber n digits → (IsDigit e → ⊥) → parse_number (digits ++ e ∷ rest) ≡ Some ((n, e), rest)
unfolding parse_number
number_complete [] n e rest h ends = absurd (h.some refl)
number_complete (d ∷ ds) n e rest h ends =
    let small : (d - 48) * 10 ^ length ds + value_of ds < 2 ^ 32 = rw h.value h.small in
    rw (true_digit d h.each.0, digits_complete (d - 48) ds e rest h.each.1 ends small, h.value) refl

-- one step of each reader
abbrev pub OtherThanDigit : ℕ → Type 0
OtherThanDigit b = (b < 48) ⊎ ((48 ≤ b) × (57 < b))

other : (b : ℕ) → OtherThanDigit b → is_digit b ≡ false
other b h = grind (arith, nat_tests)

pub number_goes : (b : ℕ) → 48 ≤ b → b ≤ 57 → (bs : List ℕ) → parse_number (b ∷ bs) ≡ parse_digits (b - 48) bs
unfolding parse_number
number_goes b low high bs = rw (true_digit b (low, high)) refl

pub number_stops : (b : ℕ) → OtherThanDigit b → (bs : List ℕ) → parse_number (b ∷ bs) ≡ None
unfolding parse_number
number_stops b h bs = rw (other b h) refl

pub digits_go : (v b : ℕ) → 48 ≤ b → b ≤ 57 → 10 * v + (b - 48) < 2 ^ 32 → (bs : List ℕ) → parse_digits v (b ∷ bs) ≡ parse_digits (10 * v + (b - 48)) bs
unfolding parse_digits
digits_go v b low high lt bs = rw (true_digit b (low, high), lt-ltb _ _ lt) refl

pub digits_overflow : (v b : ℕ) → 48 ≤ b → b ≤ 57 → 2 ^ 32 ≤ 10 * v + (b - 48) → (bs : List ℕ) → parse_digits v (b ∷ bs) ≡ None
unfolding parse_digits
digits_overflow v b low high le bs = rw (true_digit b (low, high), le-ltb _ _ le) refl

pub digits_stop : (v b : ℕ) → OtherThanDigit b → (bs : List ℕ) → parse_digits v (b ∷ bs) ≡ Some ((v, b), bs)
unfolding parse_digits
digits_stop v b h bs = rw (other b h) refl

pub number_ends : parse_number [] ≡ None
unfolding parse_number
number_ends = refl

pub digits_end : (v : ℕ) → parse_digits v [] ≡ None
unfolding parse_digits
digits_end v = refl
