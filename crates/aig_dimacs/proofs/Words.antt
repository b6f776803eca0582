-- Words of digits, and the words of a text.
use Rattle.std.proofs.Common.{◌≡◌, ℕ, ◌+◌, ◌^◌, ◌<◌, ◌≤◌, ◌==◌, Bool, true, false, if◌then◌else◌, List, [], ◌∷◌, ◌++◌, length, Some, refl, ap, ◌∙◌, append_assoc, append-nil, arith}
use Rattle.aig_base.proofs.Words.{codes, decimal, option_map, AllByRecursion, nat_tests}
use Rattle.std.specs.Str.{all_ascii_digits}
use Rattle.std.specs.Str.Parse.{digits_value}
use Rattle.std.proofs.lemmas.Fmt.{decimal_nonempty, digits_decimal, digits_value-decimal}
use Rattle.std.proofs.lemmas.Str.Parse.{IsNumeralModel, numerals_by_value, tells_all_ascii_digits}
use Rattle.aig_base.specs.declared.logic.literal.Lit.{Lit}
use Rattle.aig_base.specs.Clauses.{is_positive, variable_of}
use Rattle.aig_dimacs.specs.Text.{sign_of}
use Rattle.aig_dimacs.specs.Reading.{word_in_front, is_blank, number_in, signed_in, words_from}

own : IsNumeralModel (λ ds. all_ascii_digits ds ≡ true) (digits_value 10)
own = numerals_by_value _ tells_all_ascii_digits

-- ---- where words end

-- no byte is blank
abbrev pub IsWord : List ℕ → Type 0
IsWord = AllByRecursion (λ b. is_blank b ≡ false)

plain : (b : ℕ) → 48 ≤ b → is_blank b ≡ false
plain b h = grind (arith, nat_tests)

digits_plain : (ds : List ℕ) → all_ascii_digits ds ≡ true → IsWord ds
digits_plain [] all = tt
digits_plain (d ∷ ds) all = let h = tells_all_ascii_digits.parts d ds all in (plain d h.0.0, digits_plain ds h.1)

-- a word, and the blank that ends it
words_from-ended : (before word : List ℕ) (end : ℕ) (rest : List ℕ) → IsWord word → is_blank end ≡ true → words_from before (word ++ end ∷ rest) ≡ word_in_front (before ++ word) (words_from [] rest)
unfolding words_from
words_from-ended before [] end rest all blank = rw (blank, append-nil before) refl
words_from-ended before (b ∷ bs) end rest all blank =
    rw all.0 (words_from-ended (before ++ b ∷ []) bs end rest all.1 blank ∙ ap (λ w. word_in_front w (words_from [] rest)) (append_assoc before (b ∷ []) bs))

word_in_front-some : (word : List ℕ) (words : List (List ℕ)) → 0 < length word → word_in_front word words ≡ word ∷ words
word_in_front-some [] words some = absurd (omega arith)
word_in_front-some (b ∷ bs) words some = refl

pub words_from-word : (word : List ℕ) (end : ℕ) (rest : List ℕ) → IsWord word → 0 < length word → is_blank end ≡ true → words_from [] (word ++ end ∷ rest) ≡ word ∷ words_from [] rest
words_from-word word end rest all some blank = words_from-ended [] word end rest all blank ∙ word_in_front-some word (words_from [] rest) some

-- ---- numbers

pub decimal_some : (n : ℕ) → n < 2 ^ 64 → 0 < length (decimal n)
decimal_some = decimal_nonempty

pub decimal_plain : (n : ℕ) → n < 2 ^ 64 → IsWord (decimal n)
decimal_plain n lt = digits_plain (decimal n) (digits_decimal own n lt)

number_in-digits : (ds : List ℕ) → all_ascii_digits ds ≡ true → 0 < length ds → number_in ds ≡ Some (digits_value 10 ds)
number_in-digits [] all some = absurd (omega arith)
number_in-digits (d ∷ ds) all some = rw all refl

pub number_in-decimal : (n : ℕ) → n < 2 ^ 64 → number_in (decimal n) ≡ Some n
number_in-decimal n lt = number_in-digits (decimal n) (digits_decimal own n lt) (decimal_nonempty n lt) ∙ ap Some (digits_value-decimal own n lt)

-- ---- literals

no_minus : (d : ℕ) → 48 ≤ d → (d == 45) ≡ false
no_minus d h = grind (arith, nat_tests)

-- digits begin with no minus
signed_in-digits : (ds : List ℕ) → all_ascii_digits ds ≡ true → 0 < length ds → signed_in ds ≡ option_map (λ n. (true, n)) (number_in ds)
unfolding signed_in
signed_in-digits [] all some = absurd (omega arith)
signed_in-digits (d ∷ ds) all some = let h = tells_all_ascii_digits.parts d ds all in rw (no_minus d h.0.0) refl

-- a number after the sign of a literal
signed_in-signed : (positive : Bool) (n : ℕ) → n < 2 ^ 64 → signed_in ((if positive then [] else codes "-") ++ decimal n) ≡ Some (positive, n)
unfolding signed_in
signed_in-signed true n lt = signed_in-digits (decimal n) (digits_decimal own n lt) (decimal_nonempty n lt) ∙ ap (option_map (λ n. (true, n))) (number_in-decimal n lt)
signed_in-signed false n lt = ap (option_map (λ n. (false, n))) (number_in-decimal n lt)

-- the word of a literal
abbrev pub word_of : Lit → List ℕ
word_of lit = sign_of lit ++ decimal (variable_of lit + 1)

pub signed_in-word_of : (lit : Lit) → variable_of lit + 1 < 2 ^ 64 → signed_in (word_of lit) ≡ Some (is_positive lit, variable_of lit + 1)
signed_in-word_of lit lt = signed_in-signed (is_positive lit) (variable_of lit + 1) lt

signed_plain : (positive : Bool) (ds : List ℕ) → IsWord ds → IsWord ((if positive then [] else codes "-") ++ ds)
signed_plain true ds all = all
signed_plain false ds all = (refl, all)

signed_some : (positive : Bool) (ds : List ℕ) → 0 < length ds → 0 < length ((if positive then [] else codes "-") ++ ds)
signed_some true ds some = some
signed_some false ds some = omega arith

pub word_plain : (lit : Lit) → variable_of lit + 1 < 2 ^ 64 → IsWord (word_of lit)
word_plain lit lt = signed_plain (is_positive lit) _ (decimal_plain (variable_of lit + 1) lt)

pub word_some : (lit : Lit) → variable_of lit + 1 < 2 ^ 64 → 0 < length (word_of lit)
word_some lit lt = signed_some (is_positive lit) _ (decimal_some (variable_of lit + 1) lt)
