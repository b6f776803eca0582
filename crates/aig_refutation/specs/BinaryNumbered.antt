-- Part of what is promised.
-- The steps that a binary LRAT proof says: words as in binary DRAT, where the number of a clause is
-- written as it is where it is added, and doubled in a hint or a deletion. (LRAT: Cruz-Filipe,
-- Heule, Hunt, Kaufmann and Schneider-Kamp, 2017; the bytes are those that cadical writes.)
use Rattle.std.specs.Prelude.{ℕ, ◌/◌, ◌%◌, ◌==◌, Bool, nat_lt, if◌then◌else◌, List, [], ◌∷◌, ◌++◌, Option, Some, None, Result, Ok, Err}
use Rattle.aig_base.specs.declared.logic.literal.Lit.{Lit}
use Rattle.aig_format.specs.Parse.{parse_delta}
use Rattle.aig_refutation.specs.declared.error.RefutationError.{RefutationError}
use Rattle.aig_refutation.specs.declared.error.RefutationError.TheVariants as errors
use Rattle.aig_refutation.specs.Binary.{after_letter, code_of, groups_in, item_said, literal_by, no_step, step_before}
use Rattle.aig_refutation.specs.Proofs.{Script, adds, widened}
use Rattle.aig_refutation.specs.Steps.{Step, Deletes}
use Rattle.aig_refutation.specs.Text.{◌>>=◌, begins}

-- ---- numbers

-- the number of a clause that is added
abbrev pub number_by : ℕ → Result ℕ RefutationError
number_by code = if code == 0 then Err errors.Binary else Ok code

-- a hint: twice the number of a clause, and one more where it has a minus
abbrev pub hint_by : ℕ → Result (Bool × ℕ) RefutationError
hint_by code = if nat_lt code 2 then Err errors.Binary else Ok (code % 2 == 0, code / 2)

-- the number of a clause that is deleted: a hint without a minus
abbrev pub deleted_by : ℕ → Result ℕ RefutationError
deleted_by code = hint_by code >>= λ n. if n.0 then Ok n.1 else Err errors.Binary

-- ---- steps

-- a step that has begun: the number of its clause is next, or a literal, a hint, or the number of a
-- clause that is deleted
pub data Begun : Type 0 where
  Adding : Begun
  Listing : (number : ℕ) → (clause : List Lit) → Begun
  Hinting : (number : ℕ) → (clause : List Lit) → (numbers : List (Bool × ℕ)) → Begun
  Deleting : (numbers : List ℕ) → Begun

-- what a word says in it: the step goes on, or it ends
pub data Said : Type 0 where
  Goes : (begun : Begun) → Said
  Ends : (step : Step) → Said

-- the step that a letter begins
abbrev pub numbered_begun : List ℕ → Result Begun RefutationError
numbered_begun word =
    if begins 97 word then Ok Adding
    else if begins 100 word then Ok (Deleting []) else Err errors.Binary

-- a literal more, or hints follow
abbrev pub listed : ℕ → List Lit → Option Lit → Said
listed number clause (Some lit) = Goes (Listing number (clause ++ lit ∷ []))
listed number clause None = Goes (Hinting number clause [])

-- a hint more, or the step ends
abbrev pub hinted : ℕ → List Lit → List (Bool × ℕ) → Option (Bool × ℕ) → Said
hinted number clause numbers (Some n) = Goes (Hinting number clause (numbers ++ n ∷ []))
hinted number clause numbers None = Ends (adds number clause numbers)

-- a clause more that is deleted, or the step ends
abbrev pub deleting : List ℕ → Option ℕ → Said
deleting numbers (Some n) = Goes (Deleting (numbers ++ n ∷ []))
deleting numbers None = Ends (Deletes numbers)

-- what a word says in a step
abbrev pub said_in : ℕ → Begun → List ℕ → Result Said RefutationError
said_in variables Adding word =
    code_of (parse_delta word) >>= number_by >>= λ n. Ok (Goes (Listing n []))
said_in variables (Listing number clause) word =
    item_said (literal_by variables) word >>= λ o. Ok (listed number clause o)
said_in variables (Hinting number clause numbers) word =
    item_said hint_by word >>= λ o. Ok (hinted number clause numbers o)
said_in variables (Deleting numbers) word =
    item_said deleted_by word >>= λ o. Ok (deleting numbers o)

-- what words say after a word of a step, by what they say of so many variables
abbrev pub after_said : ℕ → Result Said RefutationError → (ℕ → Option Begun → Script Step)
    → Script Step
after_said variables (Ok (Goes begun)) say = say variables (Some begun)
after_said variables (Ok (Ends step)) say = step_before step (say (widened variables) None)
after_said variables (Err e) say = no_step e

-- what words say in a step that has begun, or between steps
unfoldable pub numbered_script : ℕ → Option Begun → List (List ℕ) → Script Step
numbered_script variables None [] = no_step errors.Unfinished
numbered_script variables (Some begun) [] = no_step errors.Binary
numbered_script variables None (word ∷ words) =
    after_letter (numbered_begun word) (λ next. numbered_script variables next words)
numbered_script variables (Some begun) (word ∷ words) =
    after_said variables (said_in variables begun word)
    (λ bound next. numbered_script bound next words)

-- the steps that the bytes of a binary LRAT proof say
abbrev pub numbered_steps_in : ℕ → List ℕ → Script Step
numbered_steps_in variables bytes = numbered_script variables None (groups_in bytes)
