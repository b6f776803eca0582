-- Binary LRAT proofs as they are written, and the steps that are read of them.
use Rattle.aig_base.proofs.Words.{◌≡◌, ◌⊎◌, ℕ, ◌+◌, ◌*◌, ◌/◌, ◌%◌, ◌^◌, ◌<◌, ◌==◌, nat_lt, Bool, true, false, List, [], ◌∷◌, ◌++◌, map, Some, None, Result, Ok, Err, refl, sym, ap, ◌∙◌, append_assoc, append-nil, arith, flat_map, nat_tests, if◌then◌else◌, AllByRecursion, All, recursion_from_All, option_map}
use Rattle.aig_base.specs.declared.logic.literal.Lit.{Lit}
use Rattle.aig_format.specs.Parse.{parse_delta, parse_groups}
use Rattle.aig_format.specs.Text.{Groups}
use Rattle.aig_format.specs.Written.{delta_of}
use Rattle.aig_format.proofs.Binary.{Reads-delta}
use Rattle.aig_format.proofs.Printed.{delta_written}
use Rattle.aig_refutation.specs.declared.error.RefutationError.{RefutationError}
use Rattle.aig_refutation.specs.declared.error.RefutationError.TheVariants as errors
use Rattle.aig_refutation.specs.Binary.{groups_in, item_said, literal_by, step_before}
use Rattle.aig_refutation.specs.BinaryNumbered.{Adding, Deleting, Hinting, Listing, deleted_by, hint_by, numbered_script, numbered_steps_in}
use Rattle.aig_refutation.specs.Checking.{Shows, all_live, are_all_in, outcome}
use Rattle.aig_refutation.specs.Forms.{steps_in}
use Rattle.aig_refutation.specs.Proofs.{adds, allowed, groups_at, widened}
use Rattle.aig_refutation.specs.ReadingBinary.{items_from, numbered_left}
use Rattle.aig_refutation.specs.Steps.{Step, Adds, Deletes}
use Rattle.aig_refutation.specs.Written.{AreWithin, IsBinaryStep, IsNumber, IsWrittenStep, hint_bytes, literal_bytes, number_bytes, numbered_bytes, numbered_text, worded_text}
use Rattle.aig_refutation.proofs.Formulas.{word_form}
use Rattle.aig_refutation.proofs.NumberedSteps.{after_list, deleted_said, hints_said, literals_said, number_word}
use Rattle.aig_refutation.proofs.WrittenBinary.{Fits, all_fit, groups_in-clause, groups_in-number, literal_said-written}
use Rattle.aig_refutation.proofs.WrittenLines.{all_hints, groups_all, hints_all}
use Rattle.aig_refutation.proofs.WrittenProofs.{not_refused}

-- ---- numbers

module _ (d : ℕ) (small : d < 2 ^ 32) where
  delta_read : parse_delta (delta_of d) ≡ Some (d, [])
  delta_read =
      ap parse_delta (sym (append-nil (delta_of d)))
      ∙ Reads-delta.complete d (delta_of d) [] (delta_written d small)

  delta_word : (rest : List ℕ) → groups_in (delta_of d ++ rest) ≡ delta_of d ∷ groups_in rest
  delta_word rest = groups_in-number d (delta_of d) rest (delta_written d small).groups

-- a number of a hint
abbrev IsHint : Bool × ℕ → Type 0
IsHint n = (0 < n.1) × (n.1 < 2 ^ 31)

abbrev code : Bool × ℕ → ℕ
code n = 2 * n.1 + (if n.0 then 0 else 1)

code_small : (positive : Bool) (n : ℕ) → n < 2 ^ 31 → code (positive, n) < 2 ^ 32
code_small true n small = omega (arith, small)
code_small false n small = omega (arith, small)

code_parts : (positive : Bool) (n : ℕ) → 0 < n → ((code (positive, n) == 0) ≡ false)
    × (nat_lt (code (positive, n)) 2 ≡ false) × ((code (positive, n) % 2 == 0) ≡ positive)
    × (code (positive, n) / 2 ≡ n)
code_parts true n some = (
  grind (arith, nat_tests, some),
  grind (arith, nat_tests, some),
  grind (arith, nat_tests),
  omega arith,
)
code_parts false n some = (
  grind (arith, nat_tests, some),
  grind (arith, nat_tests, some),
  grind (arith, nat_tests),
  omega arith,
)

hint_item : (n : Bool × ℕ) → IsHint n → item_said hint_by (hint_bytes n) ≡ Ok (Some n)
hint_item n is =
    let p = code_parts n.0 n.1 is.0 in
    rw (delta_read (code n) (code_small n.0 n.1 is.1), p.0, p.1, p.2, p.3) refl

deleted_item : (n : ℕ) → IsHint (true, n) → item_said deleted_by (number_bytes n) ≡ Ok (Some n)
deleted_item n is =
    let p = code_parts true n is.0 in
    rw (delta_read (code (true, n)) (code_small true n is.1), p.0, p.1, p.2, p.3) refl

-- ---- lists

module _ {A : Type 0} (word : A → List ℕ) where
  -- a word is one number
  abbrev IsOne : A → Type 0
  IsOne x = (d : ℕ) × Groups d (word x)

  list_words : (xs : List A) (rest : List ℕ) → AllByRecursion IsOne xs
      → groups_in (flat_map word xs ++ 0 ∷ rest) ≡ map word xs ++ (0 ∷ []) ∷ groups_in rest
  unfolding groups_in
  list_words [] rest are = refl
  list_words (x ∷ xs) rest are =
      ap groups_in (append_assoc (word x) (flat_map word xs) (0 ∷ rest))
      ∙ groups_in-number are.0.0 (word x) (flat_map word xs ++ 0 ∷ rest) are.0.1
      ∙ ap (λ words. word x ∷ words) (list_words xs rest are.1)

  module _ (one : ℕ → Result A RefutationError) where
    zero_said : item_said one (0 ∷ []) ≡ Ok None
    unfolding parse_groups
    zero_said = refl

    items_written : (xs old : List A) (words : List (List ℕ))
        → AllByRecursion (λ x. item_said one (word x) ≡ Ok (Some x)) xs
        → items_from one old (map word xs ++ (0 ∷ []) ∷ words) ≡ Ok (old ++ xs, words)
    unfolding items_from
    items_written [] old words are = rw (zero_said, append-nil old) refl
    items_written (x ∷ xs) old words are =
        rw are.0 (items_written xs (old ++ x ∷ []) words are.1
        ∙ ap (λ list. Ok (list, words)) (append_assoc old (x ∷ []) xs))

-- ---- steps

all_hints_are : (hints : List ℕ) (groups : List (Bool × ℕ))
    → AllByRecursion (λ n. IsHint (true, n)) hints → AllByRecursion IsHint groups
    → AllByRecursion IsHint (all_hints hints groups)
all_hints_are [] groups are also = also
all_hints_are (n ∷ hints) groups are also = (are.0, all_hints_are hints groups are.1 also)

all_hints_bytes : (hints : List ℕ) (groups : List (Bool × ℕ)) (rest : List ℕ)
    → flat_map number_bytes hints ++ (flat_map hint_bytes groups ++ rest)
    ≡ flat_map hint_bytes (all_hints hints groups) ++ rest
all_hints_bytes [] groups rest = refl
all_hints_bytes (n ∷ hints) groups rest =
    let later = flat_map hint_bytes groups ++ rest in
    append_assoc (number_bytes n) (flat_map number_bytes hints) later
    ∙ ap (λ bytes. number_bytes n ++ bytes) (all_hints_bytes hints groups rest)
    ∙ sym (append_assoc (number_bytes n) (flat_map hint_bytes (all_hints hints groups)) rest)

-- the lists of a step, one after another
regrouped : (number clause hints groups rest : List ℕ)
    → ((number ++ clause) ++ (0 ∷ ((hints ++ groups) ++ (0 ∷ [])))) ++ rest
    ≡ number ++ (clause ++ (0 ∷ (hints ++ (groups ++ (0 ∷ rest)))))
regrouped number clause hints groups rest =
    append_assoc (number ++ clause) (0 ∷ ((hints ++ groups) ++ (0 ∷ []))) rest
    ∙ append_assoc number clause (0 ∷ (((hints ++ groups) ++ (0 ∷ [])) ++ rest))
    ∙ ap (λ bytes. number ++ (clause ++ (0 ∷ bytes)))
    (append_assoc (hints ++ groups) (0 ∷ []) rest ∙ append_assoc hints groups (0 ∷ rest))

hint_one : (n : Bool × ℕ) → IsHint n → IsOne hint_bytes n
hint_one n is = (code n, (delta_written (code n) (code_small n.0 n.1 is.1)).groups)

each : {A : Type 0} (P Q : A → Type 0) → ((x : A) → P x → Q x) → (xs : List A)
    → AllByRecursion P xs → AllByRecursion Q xs
each P Q f [] are = tt
each P Q f (x ∷ xs) are = (f x are.0, each P Q f xs are.1)

module _ (variables : ℕ) where
  hints_written : (number : ℕ) (clause : List Lit) (numbers : List (Bool × ℕ)) (rest : List ℕ)
      → AllByRecursion IsHint numbers
      → numbered_left variables (Hinting number clause [])
      (flat_map hint_bytes numbers ++ 0 ∷ rest)
      ≡ step_before (adds number clause numbers) (numbered_steps_in (widened variables) rest)
  hints_written number clause numbers rest are =
      hints_said variables number clause [] (flat_map hint_bytes numbers ++ 0 ∷ rest)
      ∙ ap (λ words. after_list (λ all more. step_before (adds number clause all)
      (numbered_script (widened variables) None more)) (items_from hint_by [] words))
      (list_words hint_bytes numbers rest (each IsHint (IsOne hint_bytes) hint_one numbers are))
      ∙ ap (after_list (λ all more. step_before (adds number clause all)
      (numbered_script (widened variables) None more)))
      (items_written hint_bytes hint_by numbers [] (groups_in rest)
      (each IsHint (λ n. item_said hint_by (hint_bytes n) ≡ Ok (Some n)) hint_item numbers are))

  literals_written : (number : ℕ) (clause : List Lit) (rest : List ℕ)
      → AllByRecursion (Fits variables) clause
      → numbered_left variables (Listing number []) (flat_map literal_bytes clause ++ 0 ∷ rest)
      ≡ numbered_left variables (Hinting number clause []) rest
  literals_written number clause rest are =
      literals_said variables number [] (flat_map literal_bytes clause ++ 0 ∷ rest)
      ∙ ap (λ words. after_list (λ lits more. numbered_script variables
      (Some (Hinting number lits [])) more) (items_from (literal_by variables) [] words))
      (groups_in-clause variables clause rest are)
      ∙ ap (after_list (λ lits more. numbered_script variables
      (Some (Hinting number lits [])) more))
      (items_written literal_bytes (literal_by variables) clause [] (groups_in rest)
      (each (Fits variables) (λ lit. item_said (literal_by variables) (literal_bytes lit)
      ≡ Ok (Some lit)) (literal_said-written variables) clause are))

  deletion_written : (numbers : List ℕ) (rest : List ℕ)
      → AllByRecursion (λ n. IsHint (true, n)) numbers
      → numbered_left variables (Deleting []) (flat_map number_bytes numbers ++ 0 ∷ rest)
      ≡ step_before (Deletes numbers) (numbered_steps_in (widened variables) rest)
  deletion_written numbers rest are =
      deleted_said variables [] (flat_map number_bytes numbers ++ 0 ∷ rest)
      ∙ ap (λ words. after_list (λ all more. step_before (Deletes all)
      (numbered_script (widened variables) None more)) (items_from deleted_by [] words))
      (list_words number_bytes numbers rest (each (λ n. IsHint (true, n)) (IsOne number_bytes)
      (λ n is. hint_one (true, n) is) numbers are))
      ∙ ap (after_list (λ all more. step_before (Deletes all)
      (numbered_script (widened variables) None more)))
      (items_written number_bytes deleted_by numbers [] (groups_in rest)
      (each (λ n. IsHint (true, n)) (λ n. item_said deleted_by (number_bytes n) ≡ Ok (Some n))
      deleted_item numbers are))

  letter_adds : (bytes : List ℕ) → numbered_steps_in variables (97 ∷ bytes)
      ≡ numbered_left variables Adding bytes
  unfolding groups_in numbered_script
  letter_adds bytes = refl

  letter_deletes : (bytes : List ℕ) → numbered_steps_in variables (100 ∷ bytes)
      ≡ numbered_left variables (Deleting []) bytes
  unfolding groups_in numbered_script
  letter_deletes bytes = refl

  -- the number of a clause
  number_written : (n : ℕ) (rest : List ℕ) → IsNumber n
      → numbered_left variables Adding (delta_of n ++ rest)
      ≡ numbered_left variables (Listing n []) rest
  number_written n rest is =
      let some : (n == 0) ≡ false = not_zero n is.0 in
      number_word variables (delta_of n ++ rest) rest (delta_of n) n (delta_word n is.1 rest)
      (rw (delta_read n is.1) refl) ∙ rw some refl
    where
      not_zero : (n : ℕ) → 0 < n → (n == 0) ≡ false
      not_zero n h = grind (arith, nat_tests, h)

  hints_of : (numbers : List ℕ) → All IsNumber numbers → All (λ n. n < 2 ^ 31) numbers
      → AllByRecursion (λ n. IsHint (true, n)) numbers
  hints_of numbers are small =
      recursion_from_All (λ n. IsHint (true, n)) numbers
      (λ k d there. ((are k d there).0, small k d there))

  groups_of : (groups : List (Bool × ℕ)) → All (λ hint. IsNumber hint.1) groups
      → All (λ hint. hint.1 < 2 ^ 31) groups → AllByRecursion IsHint groups
  groups_of groups are small =
      recursion_from_All IsHint groups (λ k d there. ((are k d there).0, small k d there))

  step_written : (step : Step) (rest : List ℕ) → IsWrittenStep variables step → IsBinaryStep step
      → numbered_steps_in variables (numbered_bytes step ++ rest)
      ≡ step_before step (numbered_steps_in (widened variables) rest)
  step_written (Adds number clause hints groups) rest is small =
      let numbers = all_hints hints groups in
      let later = 0 ∷ rest in
      let regroup : numbered_bytes (Adds number clause hints groups) ++ rest
      ≡ 97 ∷ (delta_of number ++ (flat_map literal_bytes clause ++ (0 ∷ (flat_map number_bytes hints
      ++ (flat_map hint_bytes groups ++ later))))) = ap (λ bytes. 97 ∷ bytes)
      (regrouped (delta_of number) (flat_map literal_bytes clause) (flat_map number_bytes hints)
      (flat_map hint_bytes groups) rest) in
      let behind = flat_map hint_bytes numbers ++ later in
      let are = all_hints_are hints groups (hints_of hints is.2 small.1)
      (groups_of groups is.3.0 small.2) in
      ap (numbered_steps_in variables) (regroup ∙ ap (λ bytes. 97 ∷ (delta_of number
      ++ (flat_map literal_bytes clause ++ (0 ∷ bytes)))) (all_hints_bytes hints groups later))
      ∙ letter_adds (delta_of number ++ (flat_map literal_bytes clause ++ (0 ∷ behind)))
      ∙ number_written number (flat_map literal_bytes clause ++ (0 ∷ behind)) is.0
      ∙ literals_written number clause behind (all_fit variables clause is.1 small.0)
      ∙ hints_written number clause numbers rest are
      ∙ ap (λ list. step_before (Adds number clause list (groups_at numbers))
      (numbered_steps_in (widened variables) rest)) (hints_all hints groups is.3.1)
      ∙ ap (λ list. step_before (Adds number clause hints list)
      (numbered_steps_in (widened variables) rest)) (groups_all hints groups is.3.1)
  step_written (Deletes numbers) rest is small =
      ap (λ bytes. numbered_steps_in variables (100 ∷ bytes))
      (append_assoc (flat_map number_bytes numbers) (0 ∷ []) rest)
      ∙ letter_deletes (flat_map number_bytes numbers ++ 0 ∷ rest)
      ∙ deletion_written numbers rest (hints_of numbers is small)

steps_written : (variables : ℕ) (steps : List Step) → AreWithin IsWrittenStep variables steps
    → AllByRecursion IsBinaryStep steps
    → numbered_steps_in variables (numbered_text steps)
    ≡ record { steps = steps; fault = errors.Unfinished }
unfolding numbered_script groups_in
steps_written variables [] are small = refl
steps_written variables (step ∷ steps) are small =
    step_written variables step (numbered_text steps) are.0 small.0
    ∙ ap (step_before step) (steps_written (widened variables) steps are.1 small.1)

-- behind the word
pub worded_read : (variables : ℕ) (steps : List Step) → AreWithin IsWrittenStep (allowed variables) steps
    → All IsBinaryStep steps
    → steps_in variables (worded_text steps)
    ≡ Some (record { steps = steps; fault = errors.Unfinished })
worded_read variables steps are small =
    word_form variables (worded_text steps) refl
    ∙ ap (λ script. Some script) (steps_written (allowed variables) steps are
    (recursion_from_All IsBinaryStep steps small))

pub worded_taken : (variables : ℕ) (clauses : List (List Lit)) (steps : List Step)
    (e : RefutationError) → AreWithin IsWrittenStep (allowed variables) steps → All IsBinaryStep steps
    → are_all_in variables clauses ≡ true
    → outcome (all_live clauses) steps errors.Unfinished ≡ Ok tt
    → Shows variables clauses (Some (worded_text steps)) (Err e)
    → (e ≡ errors.Memory) ⊎ (e ≡ errors.Stream)
worded_taken variables clauses steps e are small fits is shows =
    not_refused variables clauses (worded_text steps) fits
    (ap (option_map (λ script. outcome (all_live clauses) script.steps script.fault))
    (worded_read variables steps are small) ∙ ap (λ r. Some r) is) e shows
