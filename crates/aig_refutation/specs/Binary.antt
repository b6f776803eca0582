-- Part of what is promised.
-- The steps that a binary DRAT proof says: a letter, the numbers of literals in groups of seven
-- bits, and a 0. (DRAT: Wetzler, Heule and Hunt, 2014; the numbers as in AIGER format 20071012,
-- "Binary encoding".)
use Rattle.std.specs.Prelude.{ℕ, ◌/◌, ◌%◌, ◌==◌, nat_lt, if◌then◌else◌, List, [], ◌∷◌, ◌++◌, Option, Some, None, Result, Ok, Err}
use Rattle.aig_base.specs.declared.logic.literal.Lit.{Lit}
use Rattle.aig_format.specs.Parse.{parse_delta}
use Rattle.aig_refutation.specs.declared.error.RefutationError.{RefutationError}
use Rattle.aig_refutation.specs.declared.error.RefutationError.TheVariants as errors
use Rattle.aig_refutation.specs.Proofs.{Script, literal_of, widened}
use Rattle.aig_refutation.specs.Steps.{PlainStep, Drops, Learns}
use Rattle.aig_refutation.specs.Text.{◌>>=◌, begins}

-- ---- words

-- a byte before words, the first of which it begins
abbrev pub with_byte : ℕ → List (List ℕ) → List (List ℕ)
with_byte b [] = (b ∷ []) ∷ []
with_byte b (word ∷ words) = (b ∷ word) ∷ words

-- the words, each of which ends with a byte below 128, or with the bytes
unfoldable pub groups_in : List ℕ → List (List ℕ)
groups_in [] = []
groups_in (b ∷ bs) =
    if nat_lt b 128 then (b ∷ []) ∷ groups_in bs else with_byte b (groups_in bs)

-- the number that was read of a word
abbrev pub code_of : Option (ℕ × List ℕ) → Result ℕ RefutationError
code_of (Some x) = Ok x.0
code_of None = Err errors.Binary

-- what a word says in a list: an item more, which is that of its number, or that the list ends
abbrev pub item_said : {A : Type 0} → (ℕ → Result A RefutationError) → List ℕ
    → Result (Option A) RefutationError
item_said one word = code_of (parse_delta word) >>= λ code.
    if code == 0 then Ok None else (one code >>= λ x. Ok (Some x))

-- the literal of a number: twice one more than its variable's number, and one more where it is
-- inverted
abbrev pub literal_by : ℕ → ℕ → Result Lit RefutationError
literal_by variables code =
    if nat_lt code 2 then Err errors.Binary else literal_of variables (code % 2 == 0, code / 2)

-- ---- steps

-- the step that a letter begins
abbrev pub begun : List ℕ → Result PlainStep RefutationError
begun word =
    if begins 97 word then Ok (Learns [])
    else if begins 100 word then Ok (Drops []) else Err errors.Binary

-- a step that has begun, with a literal more
abbrev pub with_literal : PlainStep → Lit → PlainStep
with_literal (Learns clause) lit = Learns (clause ++ lit ∷ [])
with_literal (Drops clause) lit = Drops (clause ++ lit ∷ [])

-- what a word says in a step: a literal more, or that the step ends
abbrev pub literal_said : ℕ → List ℕ → Result (Option Lit) RefutationError
literal_said variables word = item_said (literal_by variables) word

-- why no step follows
abbrev pub no_step : {S : Type 0} → RefutationError → Script S
no_step fault = record { steps = []; fault = fault }

-- a step before others
abbrev pub step_before : {S : Type 0} → S → Script S → Script S
step_before step rest = record { steps = step ∷ rest.steps; fault = rest.fault }

-- what words say after a letter, by what they say in the step that it begins
abbrev pub after_letter : {B S : Type 0} → Result B RefutationError → (Option B → Script S)
    → Script S
after_letter (Ok step) say = say (Some step)
after_letter (Err e) say = no_step e

-- what they say after a word of this step, by what they say in a step and between steps
abbrev pub after_literal : PlainStep → Result (Option Lit) RefutationError
    → (Option PlainStep → Script PlainStep) → Script PlainStep
after_literal step (Ok (Some lit)) say = say (Some (with_literal step lit))
after_literal step (Ok None) say = step_before step (say None)
after_literal step (Err e) say = no_step e

-- how many variables may be named: a step more may name one more
abbrev pub widened_after : ℕ → Option PlainStep → ℕ
widened_after variables None = widened variables
widened_after variables (Some step) = variables

-- what words say in a step that has begun, or between steps
unfoldable pub binary_script : ℕ → Option PlainStep → List (List ℕ) → Script PlainStep
binary_script variables None [] = no_step errors.Unfinished
binary_script variables (Some step) [] = no_step errors.Binary
binary_script variables None (word ∷ words) =
    after_letter (begun word) (λ next. binary_script variables next words)
binary_script variables (Some step) (word ∷ words) =
    after_literal step (literal_said variables word)
    (λ next. binary_script (widened_after variables next) next words)

-- the steps that the bytes of a binary proof say
abbrev pub binary_steps_in : ℕ → List ℕ → Script PlainStep
binary_steps_in variables bytes = binary_script variables None (groups_in bytes)
