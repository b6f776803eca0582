-- Serves private clauses alone.
-- How a binary proof is read: what is still to come, and what was taken.
use Rattle.std.specs.Prelude.{◌≡◌, ℕ, ◌==◌, Bool, true, false, if◌then◌else◌, List, [], ◌∷◌, ◌++◌, Option, Some, None, Result, Ok, Err}
use Rattle.aig_format.specs.Parse.{parse_delta}
use Rattle.aig_lexer.specs.Takes.{Feed}
use Rattle.aig_refutation.specs.declared.error.RefutationError.{RefutationError}
use Rattle.aig_refutation.specs.declared.error.RefutationError.TheVariants as errors
use Rattle.aig_refutation.specs.Binary.{code_of, groups_in, item_said, no_step, step_before}
use Rattle.aig_refutation.specs.BinaryNumbered.{Adding, Begun, Deleting, Listing, hint_by, numbered_script, numbered_steps_in}
use Rattle.aig_refutation.specs.Proofs.{Script, groups_at, hints_at, widened}
use Rattle.aig_refutation.specs.Steps.{Step}
use Rattle.aig_refutation.specs.Text.{◌>>=◌}
use Rattle.aig_refutation.specs.Tokens.{Leaves, Says, TellsOfText}

-- ---- what bytes say

-- what they say is what is said of those that are left
abbrev pub Passes : {X : Type 0} → (List ℕ → X) → (List ℕ → X) → Feed → Feed → Type 0
Passes say said before after = Leaves before after (λ bytes rest. say bytes ≡ said rest)

-- they say this
abbrev pub IsSaid : {X : Type 0} → (List ℕ → X) → X → Feed → Type 0
IsSaid say x before = Says before (λ bytes. say bytes ≡ x)

-- ---- words

-- no number is at the front of words
abbrev pub IsNoCode : List (List ℕ) → Type 0
IsNoCode [] = Unit {0}
IsNoCode (word ∷ words) = code_of (parse_delta word) ≡ Err errors.Binary

-- a number is read, or there is none
abbrev pub GivesCode : Feed → Feed → Result ℕ RefutationError → Type 0
GivesCode before after (Ok code) = Leaves before after (λ bytes rest. (word : List ℕ)
    × (groups_in bytes ≡ word ∷ groups_in rest) × (code_of (parse_delta word) ≡ Ok code))
GivesCode before after (Err e) =
    TellsOfText e (Says before (λ bytes. (e ≡ errors.Binary) × IsNoCode (groups_in bytes)))

-- the letter of a step
abbrev pub letter_of : Bool → ℕ
letter_of deletes = if deletes then 100 else 97

-- no step begins with the byte at the front
abbrev pub IsNoLetter : List ℕ → Type 0
IsNoLetter [] = ⊥
IsNoLetter (b ∷ bytes) = ((b == 97) ≡ false) × ((b == 100) ≡ false)

-- the letter of the next step is read, or there is none
abbrev pub GivesLetter : Bool → Feed → Feed → Result Bool RefutationError → Type 0
GivesLetter deletes before after (Ok true) =
    Passes (λ bytes. bytes) (λ rest. letter_of deletes ∷ rest) before after
GivesLetter deletes before after (Ok false) = IsSaid (λ bytes. bytes) [] before
GivesLetter deletes before after (Err e) =
    TellsOfText e (Says before (λ bytes. (e ≡ errors.Binary) × IsNoLetter bytes))

-- ---- lists

-- the list that a word ends, or goes on with an item more
abbrev pub items_after : {A : Type 0} → List A → List (List ℕ)
    → (List A → Result (List A × List (List ℕ)) RefutationError) → Option A
    → Result (List A × List (List ℕ)) RefutationError
items_after items words say None = Ok (items, words)
items_after items words say (Some x) = say (items ++ x ∷ [])

-- a list that goes on after these items, and the words behind it
unfoldable pub items_from : {A : Type 0} → (ℕ → Result A RefutationError) → List A
    → List (List ℕ) → Result (List A × List (List ℕ)) RefutationError
items_from one items [] = Err errors.Binary
items_from one items (word ∷ words) =
    item_said one word >>= items_after items words (λ more. items_from one more words)

-- what bytes say of such a list
abbrev pub items_left : {A : Type 0} → (ℕ → Result A RefutationError) → List A → List ℕ
    → Result (List A × List (List ℕ)) RefutationError
items_left one items bytes = items_from one items (groups_in bytes)

-- a list is read up to its end
abbrev pub GivesItems : {A : Type 0} → (ℕ → Result A RefutationError) → List A → List A → Feed
    → Feed → Result (Unit {0}) RefutationError → Type 0
GivesItems one old new before after (Ok done) =
    Passes (items_left one old) (λ rest. Ok (new, groups_in rest)) before after
GivesItems one old new before after (Err e) = TellsOfText e
    (IsSaid (items_left one old) (Err e) before)

-- a list of hints is read up to its end: those for all, and the groups
abbrev pub GivesHints : List ℕ → List (Bool × ℕ) → Feed → Feed → Result (Unit {0}) RefutationError
    → Type 0
GivesHints hints groups before after (Ok done) = (numbers : List (Bool × ℕ))
    × (hints_at numbers ≡ hints) × (groups_at numbers ≡ groups)
    × GivesItems hint_by [] numbers before after (Ok done)
GivesHints hints groups before after (Err e) = GivesItems hint_by [] [] before after (Err e)

-- ---- steps

-- the next step is read, or there is none
abbrev pub GivesNext : {S : Type 0} → (ℕ → List ℕ → Script S) → ℕ → S → Feed → Feed
    → Result Bool RefutationError → Type 0
GivesNext left variables step before after (Ok true) =
    Passes (left variables) (λ rest. step_before step (left (widened variables) rest)) before after
GivesNext left variables step before after (Ok false) =
    IsSaid (left variables) (no_step errors.Unfinished) before
GivesNext left variables step before after (Err e) =
    TellsOfText e (IsSaid (left variables) (no_step e) before)

-- the step with a number that a letter begins
abbrev pub begun_by : Bool → Begun
begun_by deletes = if deletes then Deleting [] else Adding

-- what bytes say in a step with a number that has begun
abbrev pub numbered_left : ℕ → Begun → List ℕ → Script Step
numbered_left variables begun bytes = numbered_script variables (Some begun) (groups_in bytes)

-- the number of a clause is read
abbrev pub GivesNumber : ℕ → Feed → Feed → Result ℕ RefutationError → Type 0
GivesNumber variables before after (Ok n) =
    Passes (numbered_left variables Adding) (numbered_left variables (Listing n [])) before after
GivesNumber variables before after (Err e) =
    TellsOfText e (IsSaid (numbered_left variables Adding) (no_step e) before)

-- a step that has begun is read up to its end
abbrev pub EndsStep : ℕ → Begun → Step → Feed → Feed → Result (Unit {0}) RefutationError → Type 0
EndsStep variables begun step before after (Ok done) =
    Passes (numbered_left variables begun)
    (λ rest. step_before step (numbered_steps_in (widened variables) rest)) before after
EndsStep variables begun step before after (Err e) =
    TellsOfText e (IsSaid (numbered_left variables begun) (no_step e) before)
