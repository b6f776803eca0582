-- The number of a word.
use Rattle.aig_base.proofs.Words.{◌≡◌, ◌≢◌, ◌↔◌, ℕ, ◌<◌, ◌^◌, false, List, [], ◌∷◌, length, get_or, Some, None, refl, sym, ap, subst, ◌∙◌, rules, arith, same_Some}
use Rattle.std.specs.List.{AllByRecursion, starts_with}
use Rattle.std.proofs.Math.Dec.{eqb}
use Rattle.std.proofs.lemmas.Str.Parse.{IsNumeralModel, numerals_by_weight}
use Rattle.aig_format.specs.Text.{IsDigit, IsNumber, value_of}

pub own : IsNumeralModel (AllByRecursion IsDigit) value_of
own = numerals_by_weight _ (search rules) value_of (search rules)

-- a word that begins with no plus
pub no_plus : (word : List ℕ) → starts_with eqb word (43 ∷ []) ≡ false → get_or word 0 0 ≢ 43
no_plus [] h = λ is. absurd (omega (arith, is))
no_plus (b ∷ bs) h = λ is. let there = subst (λ x. starts_with eqb (x ∷ bs) (43 ∷ []) ≡ false) is h in cc

-- what `parse` gives is the number, and else there is none
pub number_parsed : (word : List ℕ) (n : ℕ) → (AllByRecursion IsDigit word × (0 < length word) × (value_of word < 2 ^ 32)) × (n ≡ value_of word) → (k : ℕ) → (Some n ≡ Some k) ↔ IsNumber k word
number_parsed word n h k = (
  λ is. let same : n ≡ k = same_Some _ _ is in record { some = λ empty. absurd (omega (arith, h.0.1, ap length empty)); each = h.0.0; value = sym h.1 ∙ same; small = omega (arith, h.0.2, h.1) },
  λ number. ap Some (h.1 ∙ number.value),
)

some_length : (word : List ℕ) → word ≢ [] → 0 < length word
some_length [] some = absurd (some refl)
some_length (b ∷ bs) some = omega arith

pub no_number_parsed : (word : List ℕ) → ¬ (AllByRecursion IsDigit word × (0 < length word) × (value_of word < 2 ^ 32)) → (k : ℕ) → (None ≡ Some k) ↔ IsNumber k word
no_number_parsed word not k = (λ is. cc, λ number. absurd (not (number.each, some_length word number.some, omega (arith, number.small, number.value))))
