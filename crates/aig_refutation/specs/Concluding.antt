-- Serves private clauses alone.
-- What the steps that are left show.
use Rattle.std.specs.Prelude.{◌≡◌, ℕ, Bool, true, false, List, [], ◌∷◌, Option, Some, None, IfSome, option_map, Result, Ok, Err}
use Rattle.aig_base.specs.declared.logic.literal.Lit.{Lit}
use Rattle.aig_base.specs.Clauses.{inverse_lit}
use Rattle.aig_lexer.specs.Takes.{Feed}
use Rattle.aig_refutation.specs.declared.error.RefutationError.{RefutationError}
use Rattle.aig_refutation.specs.declared.error.RefutationError.TheVariants as errors
use Rattle.aig_refutation.specs.Ahead.{TakesPlain}
use Rattle.aig_refutation.specs.Checking.{IsInConflict, IsRefusal, Live, are_all_in, is_last_step, outcome, taken}
use Rattle.aig_refutation.specs.Proofs.{Line, Numbered, Plain, Script, plain_of, script_if, script_of, then_lines, then_plain, widened}
use Rattle.aig_refutation.specs.Steps.{PlainStep, Step}
use Rattle.aig_refutation.specs.Tables.{Checked, Holds, HoldsFormula, Table, clause_by}
use Rattle.aig_refutation.specs.Text.{lines_of}
use Rattle.aig_refutation.specs.Tokens.{Place, Says, TellsOfText, lines_at}

-- the clauses are those of a formula, whose literals all have variables
pub record IsFormula (checker : Checked) : Type 0 where
  pub holds : HoldsFormula checker.table
  pub inside : are_all_in checker.variables checker.table.clauses ≡ true

-- a formula's clauses are refused, where a literal has no variable
abbrev pub RefusesFormula : {X : Type 0} → ℕ → List (List Lit) → Result X RefutationError → Type 0
RefusesFormula variables clauses (Ok x) = Unit {0}
RefusesFormula variables clauses (Err e) =
    TellsOfText e ((e ≡ errors.Variable) × (are_all_in variables clauses ≡ false))

-- a step is taken, and whether it is the last
abbrev pub MovesStep : Table → Result Bool RefutationError → Result Live RefutationError → Bool
    → Type 0
MovesStep new (Ok done) said last =
    (next : Live) × (said ≡ Ok next) × Holds new next × (done ≡ last)
MovesStep new (Err e) said last = TellsOfText e (said ≡ Err e)

-- a step of a line is taken, which must have a number
abbrev pub TakesStep : Live → Table → Result Bool RefutationError → Line → Type 0
TakesStep live new result (Numbered step) =
    MovesStep new result (taken live step) (is_last_step step)
TakesStep live new (Ok done) (Plain step) = ⊥
TakesStep live new (Err e) (Plain step) = TellsOfText e (e ≡ errors.Line)

-- what steps show of the clauses that are there
abbrev pub shown_of : Live → Script Step → Result (Unit {0}) RefutationError
shown_of live script = outcome live script.steps script.fault

-- what a step, which may name so many variables, and the lines after it show
abbrev pub left_outcome : ℕ → Live → Line → Place → List ℕ
    → Result (Unit {0}) RefutationError
left_outcome variables live step place bytes =
    shown_of live (then_lines (Ok step) (script_of (widened variables) (lines_at place.end bytes)))

-- this is the result, memory and the stream aside
abbrev pub Concludes : Feed → (List ℕ → Result (Unit {0}) RefutationError)
    → Result (Unit {0}) RefutationError → Type 0
Concludes before shown (Ok done) = Says before (λ bytes. shown bytes ≡ Ok tt)
Concludes before shown (Err e) = TellsOfText e (Says before (λ bytes. shown bytes ≡ Err e))

-- the same of a whole text, where its first step has a number
abbrev pub ShowsText : Feed → (List ℕ → Option (Result (Unit {0}) RefutationError))
    → Result (Unit {0}) RefutationError → Type 0
ShowsText before shown (Ok done) = Says before (λ bytes. IfSome (shown bytes) (λ x. x ≡ Ok tt))
ShowsText before shown (Err e) =
    TellsOfText e (Says before (λ bytes. IfSome (shown bytes) (λ x. x ≡ Err e)))

-- what a text shows, where its first step has a number
abbrev pub text_outcome : ℕ → Live → List ℕ → Option (Result (Unit {0}) RefutationError)
text_outcome variables live bytes =
    option_map (shown_of live) (script_if variables (lines_of bytes))

-- the clauses that these numbers name, from 1 on, are in conflict at once, and none are where there
-- is no number
abbrev pub FindsConflict : List (List Lit) → List ℕ → Type 0
FindsConflict clauses [] = IsInConflict clauses → ⊥
FindsConflict clauses (n ∷ []) = clause_by clauses n ≡ Some []
FindsConflict clauses (m ∷ n ∷ []) = (lit : Lit)
    × (clause_by clauses m ≡ Some (inverse_lit lit ∷ []))
    × (clause_by clauses n ≡ Some (lit ∷ []))
FindsConflict clauses (m ∷ n ∷ o ∷ more) = ⊥

-- whether the clauses are in conflict at once, unless there is no memory
abbrev pub ConcludesConflict : List (List Lit) → Result Bool RefutationError → Type 0
ConcludesConflict clauses (Ok true) = IsInConflict clauses
ConcludesConflict clauses (Ok false) = IsInConflict clauses → ⊥
ConcludesConflict clauses (Err e) = TellsOfText e ⊥

-- ---- steps without numbers

-- a step of a line is taken, which must have no number
abbrev pub TakesLine : List (List Lit) → Line → Table → Result Bool RefutationError → Type 0
TakesLine clauses (Plain step) new result = TakesPlain clauses step new result
TakesLine clauses (Numbered step) new (Ok done) = ⊥
TakesLine clauses (Numbered step) new (Err e) = TellsOfText e (e ≡ errors.Line)

-- the steps of a line, which may name so many variables, and those after it
abbrev pub plain_left : ℕ → Line → Place → List ℕ → Script PlainStep
plain_left variables line place bytes =
    then_plain (Ok line) (plain_of (widened variables) (lines_at place.end bytes))

-- steps are refused for a reason alone, memory and the stream aside
abbrev pub ConcludesPlain : Feed → List (List Lit) → (List ℕ → Script PlainStep)
    → Result (Unit {0}) RefutationError → Type 0
ConcludesPlain before clauses script (Ok done) = Unit {0}
ConcludesPlain before clauses script (Err e) =
    TellsOfText e (Says before (λ bytes. IsRefusal clauses (script bytes) e))

-- the same of a whole text, unless its first step has a number
abbrev pub ShowsPlain : Feed → ℕ → List (List Lit) → Result (Unit {0}) RefutationError → Type 0
ShowsPlain before variables clauses (Ok done) = Unit {0}
ShowsPlain before variables clauses (Err e) =
    TellsOfText e (Says before (λ bytes. script_if variables (lines_of bytes) ≡ None
    → IsRefusal clauses (plain_of variables (lines_of bytes)) e))
