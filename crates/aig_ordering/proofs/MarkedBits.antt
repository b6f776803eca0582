-- Sets of numbers, a bit each.
use Rattle.std.proofs.Common.{◌≡◌, ◌≢◌, ℕ, ◌*◌, ◌/◌, ◌%◌, ◌^◌, ◌<◌, Bool, true, false, ◌||◌, List, length, set, get_or, bit_or, w64, refl, sym, ap, ◌∙◌, arith}
use Rattle.aig_base.proofs.Words.{◌==◌, or-false, eq-eqb, eqb-true, eqb-false, ne_eqb, or_right}
use Rattle.std.specs.Int.{bit_at}
use Rattle.std.proofs.lemmas.List.{get_or-set_other, get_or-set_same}
use Rattle.std.proofs.lemmas.Nat.Bits.{bit_at_set_same, bit_at_set_other}
use Rattle.aig_ordering.specs.Bits.{bit_is_set}

-- words where the bit of a place was set
module _ (words : List ℕ) (place : ℕ) (within : place / 64 < length words) where
  abbrev word : ℕ
  word = bit_or (get_or words (place / 64) 0) (1 * 2 ^ (place % 64) % 2 ^ 64)

  abbrev new : List ℕ
  new = set words (place / 64) word

  -- another place has the bit that it had
  other : (v : ℕ) → v ≢ place → bit_is_set new v ≡ bit_is_set words v → bit_is_set new v ≡ (bit_is_set words v || v == place)
  other v differs same = same ∙ sym (or-false (bit_is_set words v)) ∙ ap (λ b. bit_is_set words v || b) (sym (ne_eqb v place differs))

  -- a place in the word that was written
  in_word : (v : ℕ) → v / 64 ≡ place / 64 → bit_is_set new v ≡ (bit_is_set words v || v == place)
  in_word v same = by_bit (v % 64 == place % 64) refl
    where
      read : get_or new (v / 64) 0 ≡ word
      read = ap (λ i. get_or new i 0) same ∙ get_or-set_same words (place / 64) word 0 within

      by_bit : (b : Bool) → (v % 64 == place % 64) ≡ b → bit_is_set new v ≡ (bit_is_set words v || v == place)
      by_bit true h =
          let bit = eqb-true (v % 64) (place % 64) h in
          let is : v ≡ place = omega (arith, same, bit) in
          let set_now : bit_at (get_or new (v / 64) 0) (v % 64) ≡ 1 = ap (λ w. bit_at w (v % 64)) read ∙ ap (bit_at word) bit ∙ bit_at_set_same w64 (get_or words (place / 64) 0) (place % 64) (omega arith) in
          ap (λ n. n == 1) set_now ∙ sym (or_right (bit_is_set words v) (v == place) (eq-eqb v place is))
      by_bit false h =
          let differs = eqb-false (v % 64) (place % 64) h in
          other v (λ e. differs (ap (λ n. n % 64) e)) (ap (λ n. n == 1) (ap (λ w. bit_at w (v % 64)) read ∙ bit_at_set_other w64 (get_or words (place / 64) 0) (place % 64) (omega arith) (v % 64) differs ∙ ap (λ i. bit_at (get_or words i 0) (v % 64)) (sym same)))

  -- each place has the bit that it had, and this one is set
  pub bits_after_set : (v : ℕ) → bit_is_set new v ≡ (bit_is_set words v || v == place)
  bits_after_set v = by_word (v / 64 == place / 64) refl
    where
      by_word : (b : Bool) → (v / 64 == place / 64) ≡ b → bit_is_set new v ≡ (bit_is_set words v || v == place)
      by_word true h = in_word v (eqb-true (v / 64) (place / 64) h)
      by_word false h =
          let differs = eqb-false (v / 64) (place / 64) h in
          other v (λ e. differs (ap (λ n. n / 64) e)) (ap (λ w. bit_at w (v % 64) == 1) (get_or-set_other words (place / 64) (v / 64) word 0 differs))
