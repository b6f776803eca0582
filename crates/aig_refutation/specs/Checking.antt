-- Part of what is promised.
-- Which steps are taken, one after another. (LRAT and DRAT.)
use Rattle.std.specs.Prelude.{◌≡◌, ◌⊎◌, ℕ, ◌+◌, ◌*◌, ◌==◌, Bool, true, false, not, ◌&&◌, ◌||◌, nat_le, nat_lt, if◌then◌else◌, List, [], ◌∷◌, length, is_some, Option, None, option_map, IfSome, Result, Ok, Err}
use Rattle.std.specs.List.{Contains, fold, list_any, list_all}
use Rattle.std.specs.Map.{lookup}
use Rattle.aig_base.specs.declared.logic.literal.Lit.{Lit}
use Rattle.aig_base.specs.Clauses.{inverse_lit, variable_of}
use Rattle.aig_refutation.specs.declared.error.RefutationError.{RefutationError}
use Rattle.aig_refutation.specs.declared.error.RefutationError.TheVariants as errors
use Rattle.aig_refutation.specs.Propagation.{is_rup, is_tautology}
use Rattle.aig_refutation.specs.Forms.{plain_steps_in, steps_in}
use Rattle.aig_refutation.specs.Proofs.{Script}
use Rattle.aig_refutation.specs.Rat.{is_rat}
use Rattle.aig_refutation.specs.Steps.{Step, Adds, Deletes, PlainStep, Stand, adds_empty, is_empty, without}
use Rattle.aig_refutation.specs.Text.{◌>>=◌}

-- the clauses that are there, the last one first, and all numbers that were used
pub record Live : Type 0 where
  pub clauses : List (ℕ × List Lit)
  pub used : List ℕ

-- the clause of a number, if there is one
abbrev pub clause_at : Live → ℕ → Option (List Lit)
clause_at live n = lookup (λ m. n == m) live.clauses

-- whether a number names a clause
abbrev pub is_named : Live → ℕ → Bool
is_named live n = is_some (clause_at live n)

-- whether a number was used, for a clause that is there or was deleted
abbrev pub is_used : Live → ℕ → Bool
is_used live n = list_any (λ m. n == m) live.used

-- whether a number passes four times the count of those that were used by 65,540 or more
abbrev pub is_too_large : Live → ℕ → Bool
is_too_large live n = nat_le (4 * length live.used + 65540) n

-- whether the variable of each literal is below a count
abbrev pub are_in : ℕ → List Lit → Bool
are_in variables clause = list_all (λ lit. nat_lt (variable_of lit) variables) clause

-- a clause follows: by reverse unit propagation, or since it holds always
abbrev pub follows : Live → List Lit → List ℕ → Bool
follows live clause hints = is_rup (clause_at live) clause hints || is_tautology clause

-- a clause may be added: it follows, or has the RAT property on its first literal
abbrev pub stands : Live → List Lit → List ℕ → List (Bool × ℕ) → Bool
stands live clause hints groups =
    follows live clause hints || is_rat live.clauses clause hints groups

-- whether all hints name clauses, and so does each number of the groups
abbrev pub are_named : Live → List ℕ → List (Bool × ℕ) → Bool
are_named live hints groups =
    list_all (is_named live) hints && list_all (λ hint. is_named live hint.1) groups

-- why a clause isn't added that has these groups of hints
abbrev pub why_not : List (Bool × ℕ) → RefutationError
why_not [] = errors.Step
why_not (hint ∷ groups) = errors.Asymmetry

-- one clause more under a number
abbrev pub with_clause : Live → ℕ → List Lit → Live
with_clause live number clause = record {
  clauses = (number, clause) ∷ live.clauses;
  used = number ∷ live.used;
}

-- the same, where the number is a new one that doesn't skip too many
abbrev pub numbered_clause : Live → ℕ → List Lit → Result Live RefutationError
numbered_clause live number clause =
    if is_used live number then Err errors.Twice
    else if is_too_large live number then Err errors.Large
    else Ok (with_clause live number clause)

-- a clause is added under a number, where it stands along hints that all name clauses
unfoldable pub added : Live → ℕ → List Lit → List ℕ → List (Bool × ℕ)
    → Result Live RefutationError
added live number clause hints groups =
    if not (are_named live hints groups) then Err errors.Unnamed
    else if not (stands live clause hints groups) then Err (why_not groups)
    else numbered_clause live number clause

-- the clauses without that of this number
abbrev pub without_clause : Live → ℕ → Live
without_clause live n = record { clauses = without (n ∷ []) live.clauses; used = live.used }

-- clauses are deleted one by one, each of which is there
unfoldable pub deleted : Live → List ℕ → Result Live RefutationError
deleted live [] = Ok live
deleted live (n ∷ numbers) =
    if is_named live n then deleted (without_clause live n) numbers else Err errors.Unnamed

-- a step is taken
unfoldable pub taken : Live → Step → Result Live RefutationError
taken live (Adds number clause hints groups) = added live number clause hints groups
taken live (Deletes numbers) = deleted live numbers

-- whether a step adds the empty clause
abbrev pub is_last_step : Step → Bool
is_last_step (Adds number clause hints groups) = is_empty clause
is_last_step (Deletes numbers) = false

-- Steps are taken up to the first empty clause: what follows it doesn't matter. Without one the
-- outcome is what is wrong after them.
unfoldable pub outcome : Live → List Step → RefutationError → Result (Unit {0}) RefutationError
outcome live [] fault = Err fault
outcome live (step ∷ steps) fault = taken live step >>= λ next.
    if is_last_step step then Ok tt else outcome next steps fault

-- a clause more of a formula, under the next number
abbrev pub with_next : Live → List Lit → Live
with_next live clause = with_clause live (length live.used + 1) clause

-- the clauses of a formula, numbered from 1 on
unfoldable pub all_live : List (List Lit) → Live
all_live clauses = fold with_next (record { clauses = []; used = [] }) clauses

-- ---- what is promised

-- the clauses are in conflict at once: the empty clause is there, or one of a literal alone and one
-- of its inverse
abbrev pub IsInConflict : List (List Lit) → Type 0
IsInConflict clauses = Contains clauses []
    ⊎ ((lit : Lit) × Contains clauses (lit ∷ []) × Contains clauses (inverse_lit lit ∷ []))

-- what the bytes of a proof show of clauses, if the first line that is a step has a number
abbrev pub shown_by : ℕ → List (List Lit) → List ℕ → Option (Result (Unit {0}) RefutationError)
shown_by variables clauses bytes =
    option_map (λ script. outcome (all_live clauses) script.steps script.fault)
    (steps_in variables bytes)

-- why steps without hints show nothing of clauses: one of them doesn't follow, or none adds the
-- empty clause, and this is wrong after them
abbrev pub IsRefusal : List (List Lit) → Script PlainStep → RefutationError → Type 0
IsRefusal clauses script e =
    ((e ≡ errors.Step) × (Stand clauses script.steps → ⊥))
    ⊎ ((e ≡ script.fault) × (list_any adds_empty script.steps ≡ false))

-- such steps are refused for a reason alone
abbrev pub IsPlainOutcome : List (List Lit) → Script PlainStep → Result (Unit {0}) RefutationError
    → Type 0
IsPlainOutcome clauses script (Ok done) = Unit {0}
IsPlainOutcome clauses script (Err e) = IsRefusal clauses script e

-- whether the variable of each literal of clauses is below a count
abbrev pub are_all_in : ℕ → List (List Lit) → Bool
are_all_in variables clauses = list_all (are_in variables) clauses

-- the outcome of clauses and a proof's text
pub record IsOutcome (variables : ℕ) (clauses : List (List Lit)) (text : Option (List ℕ))
    (result : Result (Unit {0}) RefutationError) : Type 0 where
  -- clauses of which a literal has no variable are refused
  pub no_variable : are_all_in variables clauses ≡ false → result ≡ Err errors.Variable
  -- those in conflict at once need no proof
  pub in_conflict : are_all_in variables clauses ≡ true → IsInConflict clauses → result ≡ Ok tt
  -- Of others, a text of known bytes whose first line that is a step has a number is taken exactly
  -- where its steps refute them, and refused for the reason that they have.
  pub by_steps : are_all_in variables clauses ≡ true → (IsInConflict clauses → ⊥)
      → IfSome text (λ bytes. IfSome (shown_by variables clauses bytes) (λ shown. result ≡ shown))
  -- A proof whose first step has no number, binary or text, is refused for a reason alone.
  pub by_propagation : are_all_in variables clauses ≡ true → (IsInConflict clauses → ⊥)
      → IfSome text (λ bytes. shown_by variables clauses bytes ≡ None
      → IsPlainOutcome clauses (plain_steps_in variables bytes) result)

-- the result is that outcome, memory and the stream aside
abbrev pub Shows : ℕ → List (List Lit) → Option (List ℕ)
    → Result (Unit {0}) RefutationError → Type 0
Shows variables clauses text (Err errors.Memory) = Unit {0}
Shows variables clauses text (Err errors.Stream) = Unit {0}
Shows variables clauses text result = IsOutcome variables clauses text result
