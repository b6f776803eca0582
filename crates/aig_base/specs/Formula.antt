-- Part of what is promised.
-- Clauses in a row, and whether some assignment satisfies them. (Conjunctive normal form.)
use Rattle.std.specs.Prelude.{ℕ, Bool, IsTrue, List}
use Rattle.std.specs.List.{flat_map}
use Rattle.aig_base.specs.declared.logic.literal.Lit.{Lit}
use Rattle.aig_base.specs.Clauses.{are_true}

-- the clauses of all variables, in rising order of the variable
abbrev pub clauses_in : List (List (List Lit)) → List (List Lit)
clauses_in = flat_map (λ clauses. clauses)

-- some assignment makes every clause true
abbrev pub IsSatisfiable : List (List Lit) → Type 0
IsSatisfiable clauses = (v : ℕ → Bool) × IsTrue (are_true v clauses)
