-- Part of what is promised.
-- RAT steps: a clause that need not follow, but keeps clauses satisfiable. (Resolution asymmetric
-- tautologies, RAT: Järvisalo, Heule and Biere, 2012. In LRAT, Cruz-Filipe, Heule, Hunt, Kaufmann
-- and Schneider-Kamp, 2017, a step has hints to begin with, and then, behind its number with a
-- minus, for each clause that has the pivot's inverse.)
use Rattle.std.specs.Prelude.{ℕ, ◌==◌, Bool, false, not, ◌&&◌, ◌||◌, if◌then◌else◌, List, [], ◌∷◌, ◌++◌, Option}
use Rattle.std.specs.List.{filter, list_all}
use Rattle.std.specs.Map.{lookup}
use Rattle.aig_base.specs.declared.logic.literal.Lit.{Lit}
use Rattle.aig_base.specs.Clauses.{inverse_lit}
use Rattle.aig_refutation.specs.Propagation.{has, is_lit, is_rup, is_tautology}
use Rattle.aig_refutation.specs.Steps.{Step, Adds, Deletes, is_empty, numbered, without}

-- the clause without a literal, however often it has it
abbrev pub without_lit : Lit → List Lit → List Lit
without_lit lit clause = filter (λ other. not (is_lit lit other)) clause

-- what follows of the clause and another one that has the pivot's inverse
abbrev pub resolvent : Lit → List Lit → List Lit → List Lit
resolvent pivot clause other = clause ++ without_lit (inverse_lit pivot) other

-- the hints for the clause of a number: those behind it, up to the next number with a minus; and
-- whether the first ones are
abbrev pub hints_for : ℕ → Bool → List (Bool × ℕ) → List ℕ
hints_for n here [] = []
hints_for n here (hint ∷ groups) =
    if hint.0
    then (if here then hint.1 ∷ hints_for n here groups else hints_for n here groups)
    else hints_for n (n == hint.1) groups

-- a clause of this number keeps out of the way of the pivot: it hasn't its inverse, or what follows
-- of the two follows by reverse unit propagation, or holds always
abbrev pub is_apart : (ℕ → Option (List Lit)) → Lit → List Lit → List ℕ → List (Bool × ℕ)
    → ℕ × List Lit → Bool
is_apart clause_of pivot clause hints groups entry =
    not (has entry.1 (inverse_lit pivot))
    || (is_rup clause_of (resolvent pivot clause entry.1) (hints ++ hints_for entry.0 false groups)
    || is_tautology (resolvent pivot clause entry.1))

-- a clause has the RAT property on its first literal
abbrev pub is_rat : List (ℕ × List Lit) → List Lit → List ℕ → List (Bool × ℕ) → Bool
is_rat clauses [] hints groups = false
is_rat clauses (pivot ∷ lits) hints groups =
    list_all (is_apart (λ n. lookup (λ m. n == m) clauses) pivot (pivot ∷ lits) hints groups)
    clauses

-- ---- refutations

-- whether each step up to the first empty clause follows or has the RAT property, and there is one
abbrev pub refutes_by_rat : List (ℕ × List Lit) → List Step → Bool
refutes_by_rat clauses [] = false
refutes_by_rat clauses (Deletes numbers ∷ steps) = refutes_by_rat (without numbers clauses) steps
refutes_by_rat clauses (Adds number clause hints groups ∷ steps) =
    (is_rup (λ n. lookup (λ m. n == m) clauses) clause hints || is_rat clauses clause hints groups)
    && (is_empty clause || refutes_by_rat ((number, clause) ∷ clauses) steps)

-- the steps are a refutation of the clauses, which are numbered from 1 on
abbrev pub is_rat_refutation : List (List Lit) → List Step → Bool
is_rat_refutation clauses steps = refutes_by_rat (numbered 1 clauses) steps
