-- The digits of a number, one after another.
use Rattle.aig_base.proofs.Words.{◌≡◌, ℕ, ◌+◌, ◌-◌, ◌*◌, ◌^◌, ◌<◌, ◌≤◌, Bool, true, false, cond, List, [], ◌∷◌, ◌++◌, take, drop, Option, Some, None, refl, sym, ap, subst, ◌∙◌, append_assoc, append-nil, nat_lt, lt-ltb, le-ltb, ltb-true, same_Some}
use Rattle.std.specs.Prelude.{◌&&◌}
use Rattle.std.proofs.KnownBytes.{Consumes-whole}
use Rattle.aig_format.specs.Parse.{is_digit, parse_digits}
use Rattle.aig_format.proofs.NumberReaders.{digit_true, digits_end, digits_go, digits_overflow}
use Rattle.aig_lexer.specs.Digits.{TakesDigits, TakesTooMany, number_after}
use Rattle.aig_lexer.specs.Takes.{Advances, Ends, Feed, Misses, Steps, Takes, feed}
use Rattle.aig_lexer.proofs.Feeds.{advances_front, advances_none, advances_on, ends_on, steps_byte, steps_end}
use Rattle.aig_lexer.proofs.Going.{known_after}

pub number_after-nil : (value : ℕ) → number_after value [] ≡ Some value
unfolding number_after
number_after-nil value = refl

-- one digit more in front
pub number_after-digit : (value b : ℕ) (bs : List ℕ) → is_digit b ≡ true
    → 10 * value + (b - 48) < 2 ^ 32
    → number_after value (b ∷ bs) ≡ number_after (10 * value + (b - 48)) bs
unfolding number_after
number_after-digit value b bs digit small = rw (digit, lt-ltb _ _ small) refl

-- a byte that is none, or with which the number is too large
pub number_after-other : (value b : ℕ) (bs : List ℕ) → is_digit b ≡ false
    → number_after value (b ∷ bs) ≡ None
unfolding number_after
number_after-other value b bs other = rw other refl

pub number_after-large : (value b : ℕ) (bs : List ℕ) → is_digit b ≡ true
    → 2 ^ 32 ≤ 10 * value + (b - 48)
    → number_after value (b ∷ bs) ≡ None
unfolding number_after
number_after-large value b bs digit large = rw (digit, le-ltb _ _ large) refl

-- the first digit of a number
pub number_first : (value b : ℕ) (bs : List ℕ) (n : ℕ) → number_after value (b ∷ bs) ≡ Some n
    → (is_digit b ≡ true) × (10 * value + (b - 48) < 2 ^ 32)
    × (number_after (10 * value + (b - 48)) bs ≡ Some n)
unfolding number_after
number_first value b bs n is =
    by (is_digit b) (nat_lt (10 * value + (b - 48)) (2 ^ 32)) refl refl is
  where
    by : (digit small : Bool) → is_digit b ≡ digit → nat_lt (10 * value + (b - 48)) (2 ^ 32) ≡ small
        → cond (digit && small) (number_after (10 * value + (b - 48)) bs) None ≡ Some n
        → (is_digit b ≡ true) × (10 * value + (b - 48) < 2 ^ 32)
        × (number_after (10 * value + (b - 48)) bs ≡ Some n)
    by true true digit small is = (digit, ltb-true _ _ small, is)
    by true false digit small is = absurd cc
    by false small digit is k = absurd cc

-- digits after digits
pub number_after-append : (value : ℕ) (xs ys : List ℕ) (n : ℕ) → number_after value xs ≡ Some n
    → number_after value (xs ++ ys) ≡ number_after n ys
number_after-append value [] ys n is =
    ap (λ (v : ℕ). number_after v ys) (same_Some value n (sym (number_after-nil value) ∙ is))
number_after-append value (x ∷ xs) ys n is =
    let d = number_first value x xs n is in
    number_after-digit value x (xs ++ ys) d.0 d.1
    ∙ number_after-append (10 * value + (x - 48)) xs ys n d.2

-- ---- digits that are read byte by byte

-- the digits so far
pub record DigitsTaken (first : ℕ) (start now : Feed) (value : ℕ) : Type 0 where
  pub digits : List ℕ
  pub is : number_after first digits ≡ Some value
  pub came : Advances start now digits

pub digits_start : (first : ℕ) (start : Feed) → DigitsTaken first start start first
digits_start first start =
    record { digits = []; is = number_after-nil first; came = advances_none start }

module _ (first : ℕ) (start now after : Feed) (value : ℕ)
    (so_far : DigitsTaken first start now value) (o : Option ℕ) (step : Steps now after o) where
  module _ (b : ℕ) (is : o ≡ Some b) where
    one_more : Advances start after (so_far.digits ++ b ∷ [])
    one_more = advances_on start now after so_far.digits (b ∷ []) so_far.came
        (steps_byte now after o step b is)

    pub digits_more : is_digit b ≡ true → 10 * value + (b - 48) < 2 ^ 32
        → DigitsTaken first start after (10 * value + (b - 48))
    digits_more digit small = record {
      digits = so_far.digits ++ b ∷ [];
      is = number_after-append first so_far.digits (b ∷ []) value so_far.is
          ∙ number_after-digit value b [] digit small ∙ number_after-nil (10 * value + (b - 48));
      came = one_more;
    }

    pub digits_large : is_digit b ≡ true → 2 ^ 32 ≤ 10 * value + (b - 48)
        → TakesTooMany first start after
    digits_large digit large = record {
      digits = so_far.digits;
      number = value;
      is = so_far.is;
      last = b;
      digit = digit;
      large = large;
      came = one_more;
    }

    pub digits_stopped : is_digit b ≡ false → TakesDigits first start after value (Some b)
    digits_stopped other =
        record { digits = so_far.digits; is = so_far.is; other = other; came = one_more }

  pub digits_last : o ≡ None → TakesDigits first start after value None
  digits_last is = record {
    digits = so_far.digits;
    is = so_far.is;
    other = tt;
    came = subst (λ (bytes : List ℕ). Ends start after bytes) (append-nil so_far.digits)
        (ends_on start now after so_far.digits [] so_far.came (steps_end now after o step is));
  }

-- ---- digits that lie among the bytes that are held

-- digits were read up to a byte that is none
pub record AreRead (value : ℕ) (bytes : List ℕ) (n e : ℕ) (rest : List ℕ) : Type 0 where
  pub digits : List ℕ
  pub whole : bytes ≡ digits ++ e ∷ rest
  pub is : number_after value digits ≡ Some n
  pub other : is_digit e ≡ false

pub digits_read : (value : ℕ) (bytes : List ℕ) (n e : ℕ) (rest : List ℕ)
    → parse_digits value bytes ≡ Some ((n, e), rest) → AreRead value bytes n e rest
unfolding parse_digits
digits_read value [] n e rest h = absurd cc
digits_read value (b ∷ bs) n e rest h =
    by (is_digit b) (nat_lt (10 * value + (b - 48)) (2 ^ 32)) refl refl
    (λ k. digits_read (10 * value + (b - 48)) bs n e rest k) h
  where
    by : (digit small : Bool) → is_digit b ≡ digit → nat_lt (10 * value + (b - 48)) (2 ^ 32) ≡ small
        → (parse_digits (10 * value + (b - 48)) bs ≡ Some ((n, e), rest)
        → AreRead (10 * value + (b - 48)) bs n e rest)
        → cond digit (cond small (parse_digits (10 * value + (b - 48)) bs) None)
        (Some ((value, b), bs))
        ≡ Some ((n, e), rest)
        → AreRead value (b ∷ bs) n e rest
    by true true digit small on k =
        let more = on k in record {
          digits = b ∷ more.digits;
          whole = ap (λ (l : List ℕ). b ∷ l) more.whole;
          is = number_after-digit value b more.digits digit (ltb-true _ _ small) ∙ more.is;
          other = more.other;
        }
    by true false digit small on k = absurd cc
    by false small digit is on k =
        let same : ((value, b), bs) ≡ ((n, e), rest) = same_Some _ _ k in
        subst (λ (x : (ℕ × ℕ) × List ℕ). AreRead value (b ∷ bs) x.0.0 x.0.1 x.1) same
        (record { digits = []; whole = refl; is = number_after-nil value; other = digit })

pub digits_near : {S : Type 0} (left : S → Option (List ℕ)) (failed : S → Bool) (pulls : S → ℕ)
    (first : ℕ) (hand held rest : List ℕ) (count : ℕ) (s : S) (n e : ℕ) → hand ≡ held
    → rest ≡ drop count held
    → ((more : List ℕ) → parse_digits first (take count hand ++ more) ≡ Some ((n, e), more))
    → TakesDigits first (feed left failed pulls held s) (feed left failed pulls rest s) n (Some e)
digits_near left failed pulls first hand held rest count s n e is others reads =
    let read = digits_read first (take count hand ++ []) n e [] (reads []) in record {
      digits = read.digits;
      is = read.is;
      other = read.other;
      came =
          subst (Advances (feed left failed pulls held s) (feed left failed pulls rest s))
          (ap (take count) (sym is) ∙ sym (append-nil (take count hand)) ∙ read.whole)
          (advances_front left failed pulls held rest count s others);
    }

-- ---- a number that a byte has to end

parse_digits-append : (value n : ℕ) (ds rest : List ℕ) → number_after value ds ≡ Some n
    → parse_digits value (ds ++ rest) ≡ parse_digits n rest
parse_digits-append value n [] rest is =
    ap (λ (v : ℕ). parse_digits v rest) (same_Some value n (sym (number_after-nil value) ∙ is))
parse_digits-append value n (d ∷ ds) rest is =
    let first = number_first value d ds n is in
    let digit = digit_true d first.0 in
    digits_go value d digit.0 digit.1 first.1 (ds ++ rest)
    ∙ parse_digits-append (10 * value + (d - 48)) n ds rest first.2

stops : (n e : ℕ) (rest : List ℕ) → is_digit e ≡ false
    → parse_digits n (e ∷ rest) ≡ Some ((n, e), rest)
unfolding parse_digits
stops n e rest other = rw other refl

-- what is read after digits, and one byte more
digits_then : (value n : ℕ) (ds rest : List ℕ) (b : ℕ) (x : Option ((ℕ × ℕ) × List ℕ))
    → number_after value ds ≡ Some n → parse_digits n (b ∷ rest) ≡ x
    → parse_digits value ((ds ++ b ∷ []) ++ rest) ≡ x
digits_then value n ds rest b x is then =
    ap (parse_digits value) (append_assoc ds (b ∷ []) rest)
    ∙ parse_digits-append value n ds (b ∷ rest) is ∙ then

module _ (first : ℕ) (before after : Feed) where
  pub takes_number : (n e : ℕ) → TakesDigits first before after n (Some e)
      → Takes (parse_digits first) before after (n, e)
  takes_number n e t = record {
    taken = t.digits ++ e ∷ [];
    reads = λ rest. digits_then first n t.digits rest e (Some ((n, e), rest)) t.is
        (stops n e rest t.other);
    advances = t.came;
  }

  pub misses_end : (n : ℕ) → TakesDigits first before after n None
      → Misses (parse_digits first) before
  misses_end n t =
      Consumes-whole before.coming after.coming t.digits (λ bytes. parse_digits first bytes ≡ None)
      t.came.consumed t.came.at_end
      (ap (parse_digits first) (sym (append-nil t.digits))
      ∙ parse_digits-append first n t.digits [] t.is
      ∙ digits_end n)

  pub misses_large : TakesTooMany first before after → Misses (parse_digits first) before
  misses_large t =
      let digit = digit_true t.last t.digit in
      known_after before.coming after.coming (t.digits ++ t.last ∷ [])
      (λ bytes. parse_digits first bytes ≡ None) t.came.consumed
      (λ rest. digits_then first t.number t.digits rest t.last None t.is
      (digits_overflow t.number t.last digit.0 digit.1 t.large rest))
