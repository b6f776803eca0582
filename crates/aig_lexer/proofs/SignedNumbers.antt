-- Numbers that may have a minus in front, at the front of bytes.
use Rattle.aig_base.proofs.Words.{◌≡◌, ℕ, zero, suc, ◌+◌, ◌-◌, Bool, true, false, cond, List, [], ◌∷◌, ◌++◌, length, take, Some, None, refl, sym, ap, subst, ◌∙◌, append-nil, arith, eqb-true, take_all}
use Rattle.std.specs.Prelude.{◌==◌, slice_range}
use Rattle.aig_format.specs.Parse.{is_digit, parse_digits, parse_number}
use Rattle.aig_lexer.specs.SignedNumbers.{IsSigned, minus_at}
use Rattle.aig_lexer.proofs.Digits.{digits_read}

nothing : (n e : ℕ) → parse_number [] ≡ Some ((n, e), []) → ⊥
unfolding parse_number
nothing n e reads = cc

-- bytes that are read as a number have its digits
plain : (bytes : List ℕ) (n e : ℕ) → parse_number (bytes ++ []) ≡ Some ((n, e), [])
    → IsSigned bytes true n e
unfolding parse_number
plain [] n e reads = absurd (nothing n e reads)
plain (b ∷ bs) n e reads = by (is_digit b) refl reads
  where
    by : (digit : Bool) → is_digit b ≡ digit
        → cond digit (parse_digits (b - 48) (bs ++ [])) None ≡ Some ((n, e), [])
        → IsSigned (b ∷ bs) true n e
    by true digit reads =
        let read = digits_read (b - 48) (bs ++ []) n e [] reads in record {
          first = b;
          digits = read.digits;
          whole = ap (λ (l : List ℕ). b ∷ l) (sym (append-nil bs) ∙ read.whole);
          digit = digit;
          is = read.is;
          other = read.other;
        }
    by false digit reads = absurd cc

with_minus : (b : ℕ) (bs : List ℕ) (n e : ℕ) → (b == 45) ≡ true → IsSigned bs true n e
    → IsSigned (b ∷ bs) false n e
with_minus b bs n e minus h = record {
  first = h.first;
  digits = h.digits;
  whole = ap (λ (c : ℕ). c ∷ bs) (eqb-true b 45 minus) ∙ ap (λ (l : List ℕ). 45 ∷ l) h.whole;
  digit = h.digit;
  is = h.is;
  other = h.other;
}

-- a number after the minus, if there is one
pub signed_reads : (bytes : List ℕ) (count : ℕ) (n e : ℕ)
    → parse_number (take count (slice_range bytes (minus_at bytes) (length bytes)) ++ [])
    ≡ Some ((n, e), [])
    → IsSigned (take (minus_at bytes + count) bytes) (minus_at bytes == 0) n e
signed_reads [] zero n e reads = absurd (nothing n e reads)
signed_reads [] (suc count) n e reads = absurd (nothing n e reads)
signed_reads (b ∷ bs) count n e reads = by (b == 45) refl
  where
    part : (xs : List ℕ) (k : ℕ) → length xs ≡ k
        → parse_number (take count (take k xs) ++ []) ≡ Some ((n, e), [])
        → IsSigned (take count xs) true n e
    part xs k all h =
        plain (take count xs) n e
        (subst (λ (l : List ℕ). parse_number (take count l ++ []) ≡ Some ((n, e), []))
        (take_all k xs (omega (arith, all))) h)

    by : (minus : Bool) → (b == 45) ≡ minus
        → IsSigned (take (minus_at (b ∷ bs) + count) (b ∷ bs)) (minus_at (b ∷ bs) == 0) n e
    by true is =
        let more : 1 + count ≡ suc count = omega arith in
        rw is
        (subst (λ (k : ℕ). IsSigned (take k (b ∷ bs)) false n e) (sym more)
        (with_minus b (take count bs) n e is
        (part bs (length (b ∷ bs) - 1) (omega arith) (rw is at reads))))
    by false is =
        let same : 0 + count ≡ count = omega arith in
        rw is
        (subst (λ (k : ℕ). IsSigned (take k (b ∷ bs)) true n e) (sym same)
        (part (b ∷ bs) (length (b ∷ bs) - 0) (omega arith) (rw is at reads)))
