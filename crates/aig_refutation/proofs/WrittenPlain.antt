-- Texts of DRAT files as they are written, and the steps that are read of them.
use Rattle.aig_base.proofs.Words.{◌≡◌, ℕ, zero, suc, ◌≤◌, if◌then◌else◌, ◌+◌, ◌^◌, ◌<◌, ◌==◌, Bool, true, false, ◌&&◌, ◌||◌, List, [], ◌∷◌, ◌++◌, map, take, None, refl, sym, ap, subst, ◌∙◌, append_assoc, append-nil, arith, codes, decimal, flat_map, list_any, nat_tests, AllByRecursion, recursion_from_All}
use Rattle.aig_base.specs.declared.logic.literal.Lit.{Lit}
use Rattle.aig_base.specs.Clauses.{is_positive, variable_of}
use Rattle.aig_format.specs.Parse.{is_digit}
use Rattle.aig_format.specs.Text.{IsDigit}
use Rattle.aig_format.proofs.Printed.{number_written}
use Rattle.aig_refutation.specs.declared.error.RefutationError.TheVariants as errors
use Rattle.aig_refutation.specs.Forms.{has_word, is_binary, plain_steps_in, steps_in}
use Rattle.aig_refutation.specs.Proofs.{after_clause, after_first, after_number, allowed, ended, is_none, line_in, plain_of, script_if, widened}
use Rattle.aig_refutation.specs.Steps.{PlainStep, Drops, Learns}
use Rattle.aig_refutation.specs.Text.{begins, lines_of}
use Rattle.aig_refutation.specs.Written.{AreWithin, IsPlainStep, as_read, clause_line, literal_text, number_text, plain_line, plain_text}
use Rattle.aig_refutation.proofs.Texts.{end_first}
use Rattle.aig_refutation.proofs.Shapes.{unworded}
use Rattle.aig_refutation.proofs.Widening.{all_most, allowed_most, few, widened_most}
use Rattle.aig_refutation.proofs.WrittenLines.{after_literals, clause_in-written, last_zero_read, letter_plain, letter_read, literal_of-written, spaced_below, zero_plain}
use Rattle.aig_refutation.proofs.WrittenWords.{Reads, begins-number, each_on, literal_read, reads_lines, word_last, word_on}

-- ---- lines

-- the words of a clause's line, and of a step's
abbrev clause_words : List Lit → List (List ℕ)
clause_words clause = map literal_text clause ++ codes "0\n" ∷ []

abbrev plain_words : PlainStep → List (List ℕ)
plain_words (Learns clause) = clause_words clause
plain_words (Drops clause) = codes "d " ∷ clause_words clause

-- a sign or a digit begins a literal
begins_signed : (k : ℕ) (positive : Bool) (n : ℕ) (rest : List ℕ) → n < 2 ^ 32 → is_digit k ≡ false → (45 == k) ≡ false
    → begins k (((if positive then [] else codes "-") ++ number_text n) ++ rest) ≡ false
begins_signed k true n rest small apart no_minus = begins-number k n small apart rest
begins_signed k false n rest small apart no_minus = no_minus

module _ (variables : ℕ) (small : variables < 2 ^ 32) where
  abbrev Below : List Lit → Type 0
  Below = AllByRecursion (λ lit. variable_of lit < variables)

  clause_reads : (clause : List Lit) (rest : List ℕ) → Below clause → Reads (clause_line clause ++ rest) (clause_words clause) (lines_of rest)
  clause_reads clause rest below =
      rw (append_assoc (flat_map literal_text clause) (codes "0\n") rest)
      (each_on literal_text clause (codes "0\n" ++ rest) (codes "0\n" ∷ []) (lines_of rest) (spaced_below variables clause small below) (word_last (48 ∷ []) rest zero_plain))

  plain_reads : (step : PlainStep) (rest : List ℕ) → IsPlainStep variables step → Reads (plain_line step ++ rest) (plain_words step) (lines_of rest)
  plain_reads (Learns clause) rest is = clause_reads clause rest (recursion_from_All (λ lit. variable_of lit < variables) clause is)
  plain_reads (Drops clause) rest is =
      word_on (100 ∷ []) (clause_line clause ++ rest) (clause_words clause) (lines_of rest) letter_plain (clause_reads clause rest (recursion_from_All (λ lit. variable_of lit < variables) clause is))

  begins-literal : (k : ℕ) (lit : Lit) (rest : List ℕ) → variable_of lit < variables → is_digit k ≡ false → (45 == k) ≡ false → begins k (literal_text lit ++ rest) ≡ false
  begins-literal k lit rest below = begins_signed k (is_positive lit) (variable_of lit + 1) rest (omega arith)

  begins_own : (k : ℕ) (lit : Lit) → variable_of lit < variables → is_digit k ≡ false → (45 == k) ≡ false → begins k (literal_text lit) ≡ false
  begins_own k lit below apart no_minus = ap (begins k) (sym (append-nil (literal_text lit))) ∙ begins-literal k lit [] below apart no_minus

  -- what is read of a line and then of others
  abbrev goes_on : List (List ℕ) → List (List (List ℕ)) → PlainStep → Type 0
  goes_on words lines step =
      let rest = plain_of (widened variables) lines in
      plain_of variables (words ∷ lines) ≡ record { steps = step ∷ rest.steps; fault = rest.fault }

  learned : (clause : List Lit) (lines : List (List (List ℕ))) → Below clause → goes_on (clause_words clause) lines (as_read (Learns clause))
  unfolding plain_of line_in after_first after_number after_clause
  learned [] lines below = rw last_zero_read refl
  learned (lit ∷ lits) lines below =
      rw (
        begins_own 99 lit below.0 refl refl,
        begins_own 112 lit below.0 refl refl,
        begins_own 97 lit below.0 refl refl,
        literal_read lit (omega (arith, below.0)),
        after_literals variables small (is_none lines) (codes "0\n") last_zero_read false (is_positive lit, variable_of lit + 1) lits [] below.1,
        literal_of-written variables lit below.0,
      ) refl

  dropped : (clause : List Lit) (lines : List (List (List ℕ))) → Below clause → goes_on (codes "d " ∷ clause_words clause) lines (Drops clause)
  unfolding plain_of line_in after_first ended
  dropped clause lines below =
      rw (letter_read, clause_in-written variables small (is_none lines) (codes "0\n") last_zero_read clause [] below) refl

  plain_step_read : (step : PlainStep) (lines : List (List (List ℕ))) → IsPlainStep variables step → goes_on (plain_words step) lines (as_read step)
  plain_step_read (Learns clause) lines is = learned clause lines (recursion_from_All (λ lit. variable_of lit < variables) clause is)
  plain_step_read (Drops clause) lines is = dropped clause lines (recursion_from_All (λ lit. variable_of lit < variables) clause is)

  -- the first line has no number
  first_learned : (clause : List Lit) (lines : List (List (List ℕ))) → Below clause → script_if variables (clause_words clause ∷ lines) ≡ None
  unfolding script_if line_in after_first after_number after_clause
  first_learned [] lines below = rw last_zero_read refl
  first_learned (lit ∷ lits) lines below =
      rw (
        begins_own 99 lit below.0 refl refl,
        begins_own 112 lit below.0 refl refl,
        begins_own 97 lit below.0 refl refl,
        literal_read lit (omega (arith, below.0)),
        after_literals variables small (is_none lines) (codes "0\n") last_zero_read false (is_positive lit, variable_of lit + 1) lits [] below.1,
        literal_of-written variables lit below.0,
      ) refl

  first_dropped : (clause : List Lit) (lines : List (List (List ℕ))) → Below clause → script_if variables ((codes "d " ∷ clause_words clause) ∷ lines) ≡ None
  unfolding script_if line_in after_first ended
  first_dropped clause lines below =
      rw (letter_read, clause_in-written variables small (is_none lines) (codes "0\n") last_zero_read clause [] below) refl

  first_plain : (step : PlainStep) (lines : List (List (List ℕ))) → IsPlainStep variables step → script_if variables (plain_words step ∷ lines) ≡ None
  first_plain (Learns clause) lines is = first_learned clause lines (recursion_from_All (λ lit. variable_of lit < variables) clause is)
  first_plain (Drops clause) lines is = first_dropped clause lines (recursion_from_All (λ lit. variable_of lit < variables) clause is)

  -- ---- no byte is 0

  abbrev AreText : List ℕ → Type 0
  AreText = AllByRecursion (λ b. (b == 0) ≡ false)

  text_append : (bytes more : List ℕ) → AreText bytes → AreText more → AreText (bytes ++ more)
  text_append [] more are later = later
  text_append (b ∷ bytes) more are later = (are.0, text_append bytes more are.1 later)

  text_digits : (ds : List ℕ) → AllByRecursion IsDigit ds → AreText ds
  text_digits [] all = tt
  text_digits (d ∷ ds) all = (no_zero d all.0.0, text_digits ds all.1)
    where
      no_zero : (d : ℕ) → 48 ≤ d → (d == 0) ≡ false
      no_zero d h = grind (arith, nat_tests)

  text_number : (n : ℕ) → n < 2 ^ 32 → AreText (number_text n)
  text_number n small = text_append (decimal n) (32 ∷ []) (text_digits (decimal n) (number_written n small).each) (refl, tt)

  text_signed : (positive : Bool) (n : ℕ) → n < 2 ^ 32 → AreText ((if positive then [] else codes "-") ++ number_text n)
  text_signed true n small = text_number n small
  text_signed false n small = (refl, text_number n small)

  text_clause : (clause : List Lit) → Below clause → AreText (clause_line clause)
  text_clause [] below = (refl, (refl, tt))
  text_clause (lit ∷ lits) below =
      subst AreText (sym (append_assoc (literal_text lit) (flat_map literal_text lits) (codes "0\n")))
      (text_append (literal_text lit) (clause_line lits) (text_signed (is_positive lit) (variable_of lit + 1) (omega (arith, below.0))) (text_clause lits below.1))

  text_step : (step : PlainStep) → IsPlainStep variables step → AreText (plain_line step)
  text_step (Learns clause) is = text_clause clause (recursion_from_All (λ lit. variable_of lit < variables) clause is)
  text_step (Drops clause) is = (refl, (refl, text_clause clause (recursion_from_All (λ lit. variable_of lit < variables) clause is)))

  text_steps : (steps : List PlainStep) → AllByRecursion (IsPlainStep variables) steps → AreText (plain_text steps)
  text_steps [] are = tt
  text_steps (step ∷ steps) are = text_append (plain_line step) (plain_text steps) (text_step step are.0) (text_steps steps are.1)

  no_zero_in : (n : ℕ) (bytes : List ℕ) → AreText bytes → list_any (λ b. b == 0) (take n bytes) ≡ false
  no_zero_in zero bytes are = refl
  no_zero_in (suc n) [] are = refl
  no_zero_in (suc n) (b ∷ bytes) are = rw are.0 (no_zero_in n bytes are.1)

  no_letter : (k : ℕ) → is_digit k ≡ false → (45 == k) ≡ false → (48 == k) ≡ false
      → (100 == k) ≡ false → (steps : List PlainStep) → AllByRecursion (IsPlainStep variables) steps → begins k (plain_text steps) ≡ false
  no_letter k other minus zero_text letter [] are = refl
  no_letter k other minus zero_text letter (Learns [] ∷ steps) are = zero_text
  no_letter k other minus zero_text letter (Learns (lit ∷ lits) ∷ steps) are =
      let rest = flat_map literal_text lits ++ (codes "0\n" ++ plain_text steps) in
      let regroup : plain_text (Learns (lit ∷ lits) ∷ steps) ≡ literal_text lit ++ (flat_map literal_text lits ++ (codes "0\n" ++ plain_text steps)) = simp append_assoc in
      let below = recursion_from_All (λ lit. variable_of lit < variables) (lit ∷ lits) are.0 in
      ap (begins k) regroup ∙ begins-literal k lit rest below.0 other minus
  no_letter k other minus zero_text letter (Drops clause ∷ steps) are = letter

  no_word : (steps : List PlainStep) → AllByRecursion (IsPlainStep variables) steps
      → has_word (plain_text steps) ≡ false
  no_word steps are = unworded (plain_text steps) (no_letter 108 refl refl refl refl steps are)

  is_binary-plain : (steps : List PlainStep) → AllByRecursion (IsPlainStep variables) steps → is_binary (plain_text steps) ≡ false
  is_binary-plain steps are = rw (no_letter 97 refl refl refl refl steps are, no_zero_in 1024 (plain_text steps) (text_steps steps are)) (none (begins 100 (plain_text steps)))
    where
      none : (b : Bool) → (false || (b && false)) ≡ false
      none true = refl
      none false = refl

-- ---- texts

plain_of-written : (variables : ℕ) → variables ≤ 2 ^ 31 → (steps : List PlainStep)
    → AreWithin IsPlainStep variables steps
    → plain_of variables (lines_of (plain_text steps)) ≡ record { steps = map as_read steps; fault = errors.Unfinished }
unfolding plain_of
plain_of-written variables most [] are = ap (plain_of variables) end_first
plain_of-written variables most (step ∷ steps) are =
    let small = few variables most in
    ap (plain_of variables) (reads_lines (plain_line step ++ plain_text steps) (plain_words step) (lines_of (plain_text steps)) (plain_reads variables small step (plain_text steps) are.0))
    ∙ plain_step_read variables small step (lines_of (plain_text steps)) are.0
    ∙ rw (plain_of-written (widened variables) (widened_most variables) steps are.1) refl

script_if-plain : (variables : ℕ) → variables ≤ 2 ^ 31 → (steps : List PlainStep)
    → AreWithin IsPlainStep variables steps → script_if variables (lines_of (plain_text steps)) ≡ None
unfolding script_if
script_if-plain variables most [] are = ap (script_if variables) end_first
script_if-plain variables most (step ∷ steps) are =
    let small = few variables most in
    ap (script_if variables) (reads_lines (plain_line step ++ plain_text steps) (plain_words step) (lines_of (plain_text steps)) (plain_reads variables small step (plain_text steps) are.0))
    ∙ first_plain variables small step (lines_of (plain_text steps)) are.0

pub plain_steps_in-written : (variables : ℕ) (steps : List PlainStep)
    → AreWithin IsPlainStep (allowed variables) steps
    → (steps_in variables (plain_text steps) ≡ None) × (plain_steps_in variables (plain_text steps) ≡ record { steps = map as_read steps; fault = errors.Unfinished })
plain_steps_in-written variables steps are =
    let most = allowed_most variables in
    let text = is_binary-plain (2 ^ 31) (omega arith) steps (all_most (allowed variables) most steps are) in
    let all = all_most (allowed variables) most steps are in
    let other = no_word (2 ^ 31) (omega arith) steps all in
    (rw (other, text) (script_if-plain (allowed variables) most steps are), rw text (plain_of-written (allowed variables) most steps are))
