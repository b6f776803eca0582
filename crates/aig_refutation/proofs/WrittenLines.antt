-- Lines of LRAT files as they are written, and the steps that are read of them.
use Rattle.aig_base.proofs.Words.{◌≡◌, ℕ, ◌+◌, ◌-◌, ◌*◌, ◌/◌, ◌%◌, ◌^◌, ◌<◌, ◌==◌, Bool, true, false, nat_lt, if◌then◌else◌, List, [], ◌∷◌, ◌++◌, map, Ok, refl, sym, ap, ◌∙◌, append_assoc, append-nil, arith, codes, flat_map, nat_tests, AllByRecursion}
use Rattle.aig_base.specs.declared.logic.literal.Lit.{Lit}
use Rattle.aig_base.specs.Clauses.{is_positive, lit_to, variable_of}
use Rattle.aig_format.specs.Parse.{is_digit}
use Rattle.aig_refutation.specs.Proofs.{Numbered, adds, after_clause, after_first, after_number, after_word, clause_from, clause_in, clause_number, ended, groups_at, hint_number, hints_at, line_in, literal_of, numbers_from, numbers_in}
use Rattle.aig_refutation.specs.Steps.{Adds, Deletes}
use Rattle.aig_refutation.specs.Text as text
use Rattle.aig_refutation.specs.Text.{◌>>=◌, begins, lines_of, word_in}
use Rattle.aig_refutation.specs.Written.{IsNumber, added_line, deleted_line, literal_text, number_text, signed_text}
use Rattle.aig_refutation.proofs.WrittenWords.{IsSpaced, IsWord, Reads, begins-number, each_on, hint_read, hint_spaced, literal_read, literal_spaced, number_read, number_spaced, spaced_on, word_last, word_on}

-- ---- tests

pub not_zero : (n : ℕ) → 0 < n → (n == 0) ≡ false
not_zero n h = grind (arith, nat_tests)

within : (n variables : ℕ) → n < variables → nat_lt (n + 1 - 1) variables ≡ true
within n variables h = grind (arith, nat_tests)

-- a literal is that of its variable and polarity
pub lit_to-parts : (lit : Lit) → lit_to (variable_of lit + 1 - 1) (is_positive lit) ≡ lit
lit_to-parts lit = let literal : ℕ → Lit = λ n. record { code = n } in ap literal (code lit.code)
  where
    code : (n : ℕ) → 2 * (n / 2 + 1 - 1) + (if n % 2 == 0 then 0 else 1) ≡ n
    code n = grind (arith, nat_tests)

pub literal_of-written : (variables : ℕ) (lit : Lit) → variable_of lit < variables → literal_of variables (is_positive lit, variable_of lit + 1) ≡ Ok lit
literal_of-written variables lit below =
    rw (not_zero (variable_of lit + 1) (omega arith), within (variable_of lit) variables below, lit_to-parts lit) refl

clause_number-written : (n : ℕ) → 0 < n → clause_number (true, n) ≡ Ok n
clause_number-written n some = rw (not_zero n some) refl

-- the 0 after literals, and that at a line's end
zero_read : word_in (codes "0 ") ≡ Ok (text.Number true 0)
unfolding text.word_in text.number_in text.digits_after
zero_read = refl

pub last_zero_read : word_in (codes "0\n") ≡ Ok (text.Number true 0)
unfolding text.word_in text.number_in text.digits_after
last_zero_read = refl

pub letter_read : word_in (codes "d ") ≡ Ok text.Deletes
unfolding text.word_in text.letter_before
letter_read = refl

-- ---- clauses and numbers

-- literals before a 0
module _ (variables : ℕ) (few : variables < 2 ^ 32) (is_last : Bool) (zero : List ℕ) (ends : word_in zero ≡ Ok (text.Number true 0)) where
  pub clause_in-written : (clause : List Lit) (words : List (List ℕ)) → AllByRecursion (λ lit. variable_of lit < variables) clause → clause_in variables is_last (map literal_text clause ++ zero ∷ words) ≡ Ok (clause, words)
  unfolding clause_in
  clause_in-written [] words below = rw ends refl
  clause_in-written (lit ∷ lits) words below =
      rw (literal_read lit (omega (arith, below.0)), not_zero (variable_of lit + 1) (omega arith), within (variable_of lit) variables below.0, lit_to-parts lit, clause_in-written lits words below.1) refl

  pub after_literals : (numbered : Bool) (n : Bool × ℕ) (clause : List Lit) (words : List (List ℕ)) → AllByRecursion (λ lit. variable_of lit < variables) clause
      → after_number numbered variables is_last n (map literal_text clause ++ zero ∷ words) ≡ after_clause numbered variables is_last n clause words
  unfolding after_number after_word clause_from
  after_literals numbered n [] words below = rw ends refl
  after_literals numbered n (lit ∷ lits) words below =
      rw (literal_read lit (omega (arith, below.0)), not_zero (variable_of lit + 1) (omega arith), within (variable_of lit) variables below.0, lit_to-parts lit, clause_in-written lits words below.1) refl

numbers_in-written : (is_last : Bool) (numbers : List ℕ) → AllByRecursion IsNumber numbers
    → numbers_in clause_number is_last (map number_text numbers ++ codes "0\n" ∷ []) ≡ Ok numbers
unfolding numbers_in ended
numbers_in-written is_last [] are = rw last_zero_read refl
numbers_in-written is_last (n ∷ numbers) are =
    rw (number_read n are.0.1, not_zero n are.0.0, numbers_in-written is_last numbers are.1) refl

-- ---- hints, and those for other clauses

abbrev pub AreNumbers : List (Bool × ℕ) → Type 0
AreNumbers = AllByRecursion (λ hint. IsNumber hint.1)

hints_in-written : (is_last : Bool) (numbers : List (Bool × ℕ)) → AreNumbers numbers
    → numbers_in hint_number is_last (map signed_text numbers ++ codes "0\n" ∷ []) ≡ Ok numbers
unfolding numbers_in ended
hints_in-written is_last [] are = rw last_zero_read refl
hints_in-written is_last (hint ∷ numbers) are =
    rw (hint_read hint are.0.1, not_zero hint.1 are.0.0, hints_in-written is_last numbers are.1) refl

-- all numbers behind a clause
abbrev pub all_hints : List ℕ → List (Bool × ℕ) → List (Bool × ℕ)
all_hints [] groups = groups
all_hints (n ∷ hints) groups = (true, n) ∷ all_hints hints groups

pub are_all : (hints : List ℕ) (groups : List (Bool × ℕ)) → AllByRecursion IsNumber hints
    → AreNumbers groups → AreNumbers (all_hints hints groups)
are_all [] groups are also = also
are_all (n ∷ hints) groups are also = (are.0, are_all hints groups are.1 also)

pub hints_all : (hints : List ℕ) (groups : List (Bool × ℕ)) → hints_at groups ≡ []
    → hints_at (all_hints hints groups) ≡ hints
hints_all [] groups begins = begins
hints_all (n ∷ hints) groups begins = ap (λ (list : List ℕ). n ∷ list) (hints_all hints groups begins)

pub groups_all : (hints : List ℕ) (groups : List (Bool × ℕ)) → hints_at groups ≡ []
    → groups_at (all_hints hints groups) ≡ groups
groups_all [] [] begins = refl
groups_all [] (hint ∷ groups) begins = by hint.0 begins
  where
    by : (b : Bool) → (if b then hint.1 ∷ hints_at groups else []) ≡ []
        → (if b then groups_at groups else hint ∷ groups) ≡ hint ∷ groups
    by true e = absurd cc
    by false e = refl
groups_all (n ∷ hints) groups begins = groups_all hints groups begins

hints_text : (hints : List ℕ) (groups : List (Bool × ℕ)) → flat_map number_text hints ++ flat_map signed_text groups ≡ flat_map signed_text (all_hints hints groups)
hints_text [] groups = refl
hints_text (n ∷ hints) groups =
    append_assoc (number_text n) (flat_map number_text hints) (flat_map signed_text groups) ∙ ap (λ (list : List ℕ). number_text n ++ list) (hints_text hints groups)

-- ---- lines

module _ (variables : ℕ) (few : variables < 2 ^ 32) (numbered is_last : Bool) (number : ℕ) (is : IsNumber number) where
  after_hints : (clause : List Lit) (numbers : List (Bool × ℕ)) → AreNumbers numbers
      → after_clause numbered variables is_last (true, number) clause (map signed_text numbers ++ codes "0\n" ∷ []) ≡ Ok (Numbered (adds number clause numbers))
  unfolding after_clause numbers_from ended
  after_hints clause [] are = rw (last_zero_read, not_zero number is.0) refl
  after_hints clause (hint ∷ numbers) are =
      rw (hint_read hint are.0.1, not_zero number is.0, not_zero hint.1 are.0.0, hints_in-written is_last numbers are.1) refl

  begun : (words : List (List ℕ)) → line_in numbered variables is_last (number_text number) words ≡ after_number numbered variables is_last (true, number) words
  unfolding line_in after_first
  begun words = rw (begins_no 97 refl, number_read number is.1) refl
    where
      begins_no : (k : ℕ) → is_digit k ≡ false → begins k (number_text number) ≡ false
      begins_no k other = ap (begins k) (sym (append-nil (number_text number))) ∙ begins-number k number is.1 other []

  pub added_read : (clause : List Lit) (hints : List ℕ) (groups : List (Bool × ℕ))
      → AllByRecursion (λ lit. variable_of lit < variables) clause
      → AreNumbers (all_hints hints groups) → hints_at groups ≡ []
      → line_in numbered variables is_last (number_text number) (map literal_text clause ++ codes "0 " ∷ (map signed_text (all_hints hints groups) ++ codes "0\n" ∷ [])) ≡ Ok (Numbered (Adds number clause hints groups))
  added_read clause hints groups below are begins =
      let numbers = all_hints hints groups in
      begun (map literal_text clause ++ codes "0 " ∷ (map signed_text numbers ++ codes "0\n" ∷ []))
      ∙ after_literals variables few is_last (codes "0 ") zero_read numbered (true, number) clause (map signed_text numbers ++ codes "0\n" ∷ []) below
      ∙ after_hints clause numbers are
      ∙ ap (λ (list : List ℕ). Ok (Numbered (Adds number clause list (groups_at numbers)))) (hints_all hints groups begins)
      ∙ ap (λ (list : List (Bool × ℕ)). Ok (Numbered (Adds number clause hints list))) (groups_all hints groups begins)

  pub deleted_read : (numbers : List ℕ) → AllByRecursion IsNumber numbers
      → line_in numbered variables is_last (number_text number) (codes "d " ∷ (map number_text numbers ++ codes "0\n" ∷ [])) ≡ Ok (Numbered (Deletes numbers))
  unfolding after_number after_word
  deleted_read numbers are =
      begun (codes "d " ∷ (map number_text numbers ++ codes "0\n" ∷ []))
      ∙ rw (letter_read, not_zero number is.0, numbers_in-written is_last numbers are) refl

-- the words of a line, and the lines after it
pub spaced_below : (variables : ℕ) (clause : List Lit) → variables < 2 ^ 32 → AllByRecursion (λ lit. variable_of lit < variables) clause → AllByRecursion (λ lit. IsSpaced (literal_text lit)) clause
spaced_below variables [] few below = tt
spaced_below variables (lit ∷ lits) few below = (literal_spaced lit (omega (arith, below.0)), spaced_below variables lits few below.1)

spaced_numbers : (numbers : List ℕ) → AllByRecursion IsNumber numbers → AllByRecursion (λ n. IsSpaced (number_text n)) numbers
spaced_numbers [] are = tt
spaced_numbers (n ∷ numbers) are = (number_spaced n are.0.1, spaced_numbers numbers are.1)

pub zero_plain : IsWord (48 ∷ [])
zero_plain = ((refl, tt), λ e. cc)

pub letter_plain : IsWord (100 ∷ [])
letter_plain = ((refl, tt), λ e. cc)

numbers_line : (numbers : List ℕ) (rest : List ℕ) → AllByRecursion IsNumber numbers → Reads (flat_map number_text numbers ++ codes "0\n" ++ rest) (map number_text numbers ++ codes "0\n" ∷ []) (lines_of rest)
numbers_line numbers rest are =
    rw (append_assoc (flat_map number_text numbers) (codes "0\n") rest)
    (each_on number_text numbers (codes "0\n" ++ rest) (codes "0\n" ∷ []) (lines_of rest) (spaced_numbers numbers are) (word_last (48 ∷ []) rest zero_plain))

spaced_hints : (numbers : List (Bool × ℕ)) → AreNumbers numbers
    → AllByRecursion (λ hint. IsSpaced (signed_text hint)) numbers
spaced_hints [] are = tt
spaced_hints (hint ∷ numbers) are = (hint_spaced hint are.0.1, spaced_hints numbers are.1)

hints_line : (numbers : List (Bool × ℕ)) (rest : List ℕ) → AreNumbers numbers → Reads (flat_map signed_text numbers ++ codes "0\n" ++ rest) (map signed_text numbers ++ codes "0\n" ∷ []) (lines_of rest)
hints_line numbers rest are =
    rw (append_assoc (flat_map signed_text numbers) (codes "0\n") rest)
    (each_on signed_text numbers (codes "0\n" ++ rest) (codes "0\n" ∷ []) (lines_of rest) (spaced_hints numbers are) (word_last (48 ∷ []) rest zero_plain))

module _ (variables : ℕ) (few : variables < 2 ^ 32) (number : ℕ) (is : IsNumber number) (rest : List ℕ) where
  pub added_words : (clause : List Lit) (hints : List ℕ) (groups : List (Bool × ℕ))
      → AllByRecursion (λ lit. variable_of lit < variables) clause
      → AreNumbers (all_hints hints groups)
      → Reads (added_line number clause hints groups ++ rest) (number_text number ∷ (map literal_text clause ++ codes "0 " ∷ (map signed_text (all_hints hints groups) ++ codes "0\n" ∷ []))) (lines_of rest)
  added_words clause hints groups below are =
      let numbers = all_hints hints groups in
      let later = flat_map signed_text numbers ++ codes "0\n" ++ rest in
      let apart : added_line number clause hints groups ++ rest ≡ number_text number ++ (flat_map literal_text clause ++ (codes "0 " ++ ((flat_map number_text hints ++ flat_map signed_text groups) ++ codes "0\n" ++ rest))) = simp append_assoc in
      let regroup : added_line number clause hints groups ++ rest ≡ number_text number ++ (flat_map literal_text clause ++ (codes "0 " ++ (flat_map signed_text numbers ++ codes "0\n" ++ rest))) =
      apart ∙ ap (λ (list : List ℕ). number_text number ++ (flat_map literal_text clause ++ (codes "0 " ++ (list ++ codes "0\n" ++ rest)))) (hints_text hints groups) in
      rw regroup
      (spaced_on (number_text number) (flat_map literal_text clause ++ (codes "0 " ++ later)) (map literal_text clause ++ codes "0 " ∷ (map signed_text numbers ++ codes "0\n" ∷ [])) (lines_of rest) (number_spaced number is.1)
      (each_on literal_text clause (codes "0 " ++ later) (codes "0 " ∷ (map signed_text numbers ++ codes "0\n" ∷ [])) (lines_of rest) (spaced_below variables clause few below)
      (word_on (48 ∷ []) later (map signed_text numbers ++ codes "0\n" ∷ []) (lines_of rest) zero_plain (hints_line numbers rest are))))

  pub deleted_words : (numbers : List ℕ) → AllByRecursion IsNumber numbers
      → Reads (deleted_line number numbers ++ rest) (number_text number ∷ codes "d " ∷ (map number_text numbers ++ codes "0\n" ∷ [])) (lines_of rest)
  deleted_words numbers are =
      let later = flat_map number_text numbers ++ codes "0\n" ++ rest in
      let regroup : deleted_line number numbers ++ rest ≡ number_text number ++ (codes "d " ++ (flat_map number_text numbers ++ codes "0\n" ++ rest)) = simp append_assoc in
      rw regroup
      (spaced_on (number_text number) (codes "d " ++ later) (codes "d " ∷ (map number_text numbers ++ codes "0\n" ∷ [])) (lines_of rest) (number_spaced number is.1)
      (word_on (100 ∷ []) later (map number_text numbers ++ codes "0\n" ∷ []) (lines_of rest) letter_plain (numbers_line numbers rest are)))
