-- Serves private clauses alone.
-- Steps as they are read of lines.
use Rattle.std.specs.Prelude.{◌≡◌, ℕ, Bool, true, false, if◌then◌else◌, List, [], ◌∷◌, ◌++◌, Option, Some, None, Result, Ok, Err}
use Rattle.aig_base.specs.declared.logic.literal.Lit.{Lit}
use Rattle.aig_refutation.specs.declared.error.RefutationError.{RefutationError}
use Rattle.aig_refutation.specs.declared.step.Step as held
use Rattle.aig_refutation.specs.Proofs.{Line, Numbered, Plain, after_first, after_number, after_word, clause_from, groups_at, hint_number, hints_at, is_none, line_in, numbers_from}
use Rattle.aig_refutation.specs.Steps.{Step, Adds, Deletes, PlainStep, Drops, Learns}
use Rattle.aig_refutation.specs.Text as text
use Rattle.aig_refutation.specs.Text.{◌>>=◌}
use Rattle.aig_refutation.specs.Tokens.{Leaves, Place, Says, TellsOfText, lines_at, lines_past, said_numbers}

-- ---- parts of a line

-- literals after others
abbrev pub appended : List Lit → List Lit × List (List ℕ)
    → Result (List Lit × List (List ℕ)) RefutationError
appended lits x = Ok (lits ++ x.0, x.1)

-- a clause after these literals, where its first number was read
abbrev pub reads_clause : ℕ → Bool × ℕ → List Lit → Bool → List (List ℕ)
    → Result (List Lit × List (List ℕ)) RefutationError
reads_clause variables first lits is_last words =
    clause_from variables is_last first words >>= appended lits

-- numbers after others, and the line has ended
abbrev pub appended_numbers : {A : Type 0} → List A → List A
    → Result (List A × List (List ℕ)) RefutationError
appended_numbers numbers more = Ok (numbers ++ more, [])

-- numbers after these, where the first was read
abbrev pub reads_numbers : {A : Type 0} → (Bool × ℕ → Result A RefutationError) → Bool × ℕ
    → List A → Bool → List (List ℕ) → Result (List A × List (List ℕ)) RefutationError
reads_numbers one first numbers is_last words =
    numbers_from one is_last first words >>= appended_numbers numbers

-- hints, and the numbers from the first with a minus on
abbrev pub parted : List (Bool × ℕ)
    → Result ((List ℕ × List (Bool × ℕ)) × List (List ℕ)) RefutationError
parted numbers = Ok ((hints_at numbers, groups_at numbers), [])

-- the same of a line, where the first number was read
abbrev pub reads_hints : Bool × ℕ → Bool → List (List ℕ)
    → Result ((List ℕ × List (Bool × ℕ)) × List (List ℕ)) RefutationError
reads_hints first is_last words = numbers_from hint_number is_last first words >>= parted

-- the line has ended
abbrev pub whole_line : Line → Result (Line × List (List ℕ)) RefutationError
whole_line step = Ok (step, [])

-- a line after its `d`
abbrev pub reads_dropped : ℕ → Bool → List (List ℕ)
    → Result (Line × List (List ℕ)) RefutationError
reads_dropped variables is_last words =
    after_first false variables is_last text.Deletes words >>= whole_line

-- a line after its first number
abbrev pub reads_after : Bool → ℕ → Bool × ℕ → Bool → List (List ℕ)
    → Result (Line × List (List ℕ)) RefutationError
reads_after numbered variables first is_last words =
    after_number numbered variables is_last first words >>= whole_line

-- a line after its number and `d`
abbrev pub reads_deleted : Bool × ℕ → Bool → List (List ℕ)
    → Result (Line × List (List ℕ)) RefutationError
reads_deleted number is_last words =
    after_word false 0 is_last number text.Deletes words >>= whole_line

-- a line after its first two numbers
abbrev pub reads_added : Bool → ℕ → Bool × ℕ → Bool × ℕ → Bool → List (List ℕ)
    → Result (Line × List (List ℕ)) RefutationError
reads_added numbered variables first second is_last words =
    after_word numbered variables is_last first (text.Number second.0 second.1) words >>= whole_line

-- ---- steps

-- the step that is held, as one without numbers
abbrev pub plain_by : held.Step → PlainStep
plain_by s = if s.deletes then Drops s.clause.items else Learns s.clause.items

-- and as one that has numbers
abbrev pub step_by : held.Step → Step
step_by s =
    if s.deletes then Deletes s.numbers.items
    else Adds s.number s.clause.items s.numbers.items (said_numbers s.groups.items)

-- what is held
abbrev pub said_by : held.Step → Line
said_by s = if s.is_numbered then Numbered (step_by s) else Plain (plain_by s)

-- what the first line says, and the lines after it
abbrev pub said_line : Bool → ℕ → List (List (List ℕ))
    → Option (Result Line RefutationError × List (List (List ℕ)))
said_line numbered variables [] = None
said_line numbered variables ([] ∷ lines) = None
said_line numbered variables ((word ∷ words) ∷ lines) =
    Some (line_in numbered variables (is_none lines) word words, lines)

-- what the next line says that isn't passed over, where lines before had numbers or not
abbrev pub next_said : Bool → ℕ → Place → List ℕ
    → Option (Result Line RefutationError × List (List (List ℕ)))
next_said numbered variables place bytes =
    said_line numbered variables (lines_past (lines_at place.end bytes))

-- the next step is read, or there is none
abbrev pub GivesStep : Bool → ℕ → Line → Place → Place → Result Bool RefutationError → Type 0
GivesStep numbered variables step before after (Ok true) = Leaves before.feed after.feed (λ bytes
    rest.
    next_said numbered variables before bytes ≡ Some (Ok step, lines_at after.end rest))
GivesStep numbered variables step before after (Ok false) = Says before.feed (λ bytes.
    next_said numbered variables before bytes ≡ None)
GivesStep numbered variables step before after (Err e) = TellsOfText e (Says before.feed (λ bytes.
    (lines : List (List (List ℕ))) × (next_said numbered variables before bytes
    ≡ Some (Err e, lines))))
