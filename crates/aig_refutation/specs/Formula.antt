-- Serves private clauses alone.
-- What it is for clauses to be satisfiable, and for a clause to follow from them. (Conjunctive
-- normal form.)
use Rattle.std.specs.Prelude.{ℕ, Bool, IsTrue, List}
use Rattle.aig_base.specs.declared.logic.literal.Lit.{Lit}
use Rattle.aig_base.specs.Clauses.{are_true, is_true_clause}

-- every assignment that makes the clauses true makes this one true
abbrev pub Implies : List (List Lit) → List Lit → Type 0
Implies clauses clause =
    (v : ℕ → Bool) → IsTrue (are_true v clauses) → IsTrue (is_true_clause v clause)
