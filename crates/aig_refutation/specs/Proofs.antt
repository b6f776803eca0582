-- Part of what is promised.
-- The steps that a proof's text says, and why it says no further one. (LRAT: Cruz-Filipe, Heule,
-- Hunt, Kaufmann and Schneider-Kamp, 2017. DRAT: Wetzler, Heule and Hunt, 2014. The lines are those
-- that cadical writes.)
use Rattle.std.specs.Prelude.{ℕ, ◌+◌, ◌-◌, ◌^◌, ◌==◌, min, Bool, true, false, not, ◌&&◌, ◌||◌, nat_lt, if◌then◌else◌, List, [], ◌∷◌, ◌++◌, Option, Some, None, Result, Ok, Err}
use Rattle.aig_base.specs.declared.logic.literal.Lit.{Lit}
use Rattle.aig_base.specs.Clauses.{lit_to}
use Rattle.aig_refutation.specs.declared.error.RefutationError.{RefutationError}
use Rattle.aig_refutation.specs.declared.error.RefutationError.TheVariants as errors
use Rattle.aig_refutation.specs.Steps.{Step, Adds, Deletes, PlainStep, Drops, Learns}
use Rattle.aig_refutation.specs.Text.{Word, ◌>>=◌, begins, word_in}
use Rattle.aig_refutation.specs.Text as text

-- ---- variables

-- how many variables the first step may name: 65,536 more than the clauses have, and no more than
-- literals of 32 bits can (a new variable gets its meaning by clauses that have the RAT property:
-- extended resolution, Tseitin, 1968)
abbrev pub allowed : ℕ → ℕ
allowed variables = min (variables + 65536) (2 ^ 31)

-- and how many the step after one that may name so many
abbrev pub widened : ℕ → ℕ
widened variables = min (variables + 1) (2 ^ 31)

-- ---- parts of a line

-- why a line is no step in which a word is missing: the last line was cut off
abbrev pub missing : Bool → RefutationError
missing is_last = if is_last then errors.Unfinished else errors.Line

-- the number that a word is
abbrev pub number_of : Word → Result (Bool × ℕ) RefutationError
number_of (text.Number positive value) = Ok (positive, value)
number_of text.Deletes = Err errors.Line

-- whether a number is the 0 after a list
abbrev pub is_zero : Bool × ℕ → Bool
is_zero n = n.1 == 0

-- the number of a clause, which has no minus and isn't 0
abbrev pub clause_number : Bool × ℕ → Result ℕ RefutationError
clause_number n = if n.0 && not (is_zero n) then Ok n.1 else Err errors.Line

-- the literal of a number: one more than its variable's number, and negative where it is inverted
abbrev pub literal_of : ℕ → Bool × ℕ → Result Lit RefutationError
literal_of variables n =
    if is_zero n then Err errors.Line
    else if nat_lt (n.1 - 1) variables then Ok (lit_to (n.1 - 1) n.0)
    else Err errors.Literal

-- a literal before those of a clause
abbrev pub with_first : Lit → List Lit × List (List ℕ) → Result (List Lit × List (List ℕ))
    RefutationError
with_first lit rest = Ok (lit ∷ rest.0, rest.1)

-- the clause up to its 0, and the words after it
unfoldable pub clause_in : ℕ → Bool → List (List ℕ)
    → Result (List Lit × List (List ℕ)) RefutationError
clause_in variables is_last [] = Err (missing is_last)
clause_in variables is_last (word ∷ words) = word_in word >>= number_of >>= λ n.
    if is_zero n then Ok ([], words)
    else (literal_of variables n >>= λ lit. clause_in variables is_last words >>= with_first lit)

-- the same, where its first number was read
unfoldable pub clause_from : ℕ → Bool → Bool × ℕ → List (List ℕ)
    → Result (List Lit × List (List ℕ)) RefutationError
clause_from variables is_last n words =
    if is_zero n then Ok ([], words)
    else (literal_of variables n >>= λ lit. clause_in variables is_last words >>= with_first lit)

-- nothing more stands in the line
unfoldable pub ended : List (List ℕ) → Result (Unit {0}) RefutationError
ended [] = Ok tt
ended (word ∷ words) = word_in word >>= λ more. Err errors.Line

-- a number before others
abbrev pub with_number : {A : Type 0} → A → List A → Result (List A) RefutationError
with_number n numbers = Ok (n ∷ numbers)

-- numbers up to the 0 that ends the line, each of which is this
unfoldable pub numbers_in : {A : Type 0} → (Bool × ℕ → Result A RefutationError) → Bool
    → List (List ℕ) → Result (List A) RefutationError
numbers_in one is_last [] = Err (missing is_last)
numbers_in one is_last (word ∷ words) = word_in word >>= number_of >>= λ n.
    if is_zero n then (ended words >>= λ end. Ok [])
    else (one n >>= λ x. numbers_in one is_last words >>= with_number x)

-- the same, where the first of them was read
unfoldable pub numbers_from : {A : Type 0} → (Bool × ℕ → Result A RefutationError) → Bool
    → Bool × ℕ → List (List ℕ) → Result (List A) RefutationError
numbers_from one is_last n words =
    if is_zero n then (ended words >>= λ end. Ok [])
    else (one n >>= λ x. numbers_in one is_last words >>= with_number x)

-- a hint, or the number of a clause for which hints follow, which has a minus
abbrev pub hint_number : Bool × ℕ → Result (Bool × ℕ) RefutationError
hint_number n = Ok n

-- the hints before the first number with a minus
abbrev pub hints_at : List (Bool × ℕ) → List ℕ
hints_at [] = []
hints_at (n ∷ numbers) = if n.0 then n.1 ∷ hints_at numbers else []

-- the numbers from the first with a minus on
abbrev pub groups_at : List (Bool × ℕ) → List (Bool × ℕ)
groups_at [] = []
groups_at (n ∷ numbers) = if n.0 then groups_at numbers else n ∷ numbers

-- a clause is added under a number, along these hints
abbrev pub adds : ℕ → List Lit → List (Bool × ℕ) → Step
adds number clause numbers = Adds number clause (hints_at numbers) (groups_at numbers)

-- ---- lines

-- what a line says: a step that has numbers, or one that has none
pub data Line : Type 0 where
  Numbered : (step : Step) → Line
  Plain : (step : PlainStep) → Line

-- a clause is added that is the whole line, with its first literal, or one is dropped; the order of
-- literals says nothing
abbrev pub learns : List Lit → Lit → Result Line RefutationError
learns clause lit = Ok (Plain (Learns (clause ++ lit ∷ [])))

abbrev pub drops : List Lit → Unit {0} → Result Line RefutationError
drops clause end = Ok (Plain (Drops clause))

-- what a line says after a number and a clause: hints, or the clause is the whole line and begins
-- with that number, unless the lines before had numbers
unfoldable pub after_clause : Bool → ℕ → Bool → Bool × ℕ → List Lit → List (List ℕ)
    → Result Line RefutationError
after_clause numbered variables is_last n clause [] =
    if numbered then Err (missing is_last) else (literal_of variables n >>= learns clause)
after_clause numbered variables is_last n clause (word ∷ words) =
    word_in word >>= number_of >>= λ hint. clause_number n >>= λ number.
    numbers_from hint_number is_last hint words >>= λ numbers. Ok (Numbered (adds number clause
    numbers))

-- what a line says after a number and this word
unfoldable pub after_word : Bool → ℕ → Bool → Bool × ℕ → Word → List (List ℕ)
    → Result Line RefutationError
after_word numbered variables is_last n text.Deletes words = clause_number n >>= λ number.
    numbers_in clause_number is_last words >>= λ numbers. Ok (Numbered (Deletes numbers))
after_word numbered variables is_last n (text.Number positive value) words =
    clause_from variables is_last (positive, value) words >>= λ rest.
    after_clause numbered variables is_last n rest.0 rest.1

-- what a line says after a number
unfoldable pub after_number : Bool → ℕ → Bool → Bool × ℕ → List (List ℕ)
    → Result Line RefutationError
after_number numbered variables is_last n [] =
    if is_zero n then Ok (Plain (Learns [])) else Err (missing is_last)
after_number numbered variables is_last n (word ∷ words) =
    word_in word >>= λ next. after_word numbered variables is_last n next words

-- what a line says after its first word
unfoldable pub after_first : Bool → ℕ → Bool → Word → List (List ℕ)
    → Result Line RefutationError
after_first numbered variables is_last text.Deletes words =
    clause_in variables is_last words >>= λ rest. ended rest.1 >>= drops rest.0
after_first numbered variables is_last (text.Number positive value) words =
    after_number numbered variables is_last (positive, value) words

-- what a line says, by whether lines before had numbers, and whether it is the last
unfoldable pub line_in : Bool → ℕ → Bool → List ℕ → List (List ℕ) → Result Line
    RefutationError
line_in numbered variables is_last word words =
    if begins 97 word then Err errors.Binary
    else (word_in word >>= λ first. after_first numbered variables is_last first words)

-- ---- texts

-- what a text says: steps, and what is wrong where there is no further one
pub record Script (S : Type 0) : Type 0 where
  pub steps : List S
  pub fault : RefutationError

-- whether a line says nothing that begins with this word
abbrev pub is_comment : List ℕ → Bool
is_comment word = begins 99 word || begins 112 word

-- whether no line follows
abbrev pub is_none : List (List (List ℕ)) → Bool
is_none [] = true
is_none (line ∷ lines) = false

-- what a line of an LRAT file says, and then others
abbrev pub then_lines : Result Line RefutationError → Script Step → Script Step
then_lines (Ok (Numbered step)) rest = record { steps = step ∷ rest.steps; fault = rest.fault }
then_lines (Ok (Plain step)) rest = record { steps = []; fault = errors.Line }
then_lines (Err e) rest = record { steps = []; fault = e }

-- what lines say after a step that has a number
unfoldable pub script_of : ℕ → List (List (List ℕ)) → Script Step
script_of variables [] = record { steps = []; fault = errors.Unfinished }
script_of variables ([] ∷ lines) = script_of variables lines
script_of variables ((word ∷ words) ∷ lines) =
    if is_comment word then script_of variables lines
    else then_lines (line_in true variables (is_none lines) word words)
    (script_of (widened variables) lines)

-- the same, unless the first line is a step of a DRAT file
abbrev pub if_numbered : Result Line RefutationError → Script Step → Option (Script Step)
if_numbered (Ok (Plain step)) rest = None
if_numbered said rest = Some (then_lines said rest)

-- what lines say whose first step has a number, or is none
unfoldable pub script_if : ℕ → List (List (List ℕ)) → Option (Script Step)
script_if variables [] = None
script_if variables ([] ∷ lines) = script_if variables lines
script_if variables ((word ∷ words) ∷ lines) =
    if is_comment word then script_if variables lines
    else if_numbered (line_in false variables (is_none lines) word words)
    (script_of (widened variables) lines)

-- what a line of a DRAT file says, and then others
abbrev pub then_plain : Result Line RefutationError → Script PlainStep → Script PlainStep
then_plain (Ok (Plain step)) rest = record { steps = step ∷ rest.steps; fault = rest.fault }
then_plain (Ok (Numbered step)) rest = record { steps = []; fault = errors.Line }
then_plain (Err e) rest = record { steps = []; fault = e }

-- what lines say where steps have no numbers
unfoldable pub plain_of : ℕ → List (List (List ℕ)) → Script PlainStep
plain_of variables [] = record { steps = []; fault = errors.Unfinished }
plain_of variables ([] ∷ lines) = plain_of variables lines
plain_of variables ((word ∷ words) ∷ lines) =
    if is_comment word then plain_of variables lines
    else then_plain (line_in false variables (is_none lines) word words)
    (plain_of (widened variables) lines)
