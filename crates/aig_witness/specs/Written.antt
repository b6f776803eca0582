-- Part of what laws say, and of no promise of a call.
-- A solver's answer as solvers print it. (The output of the SAT competitions.)
use Rattle.std.specs.Prelude.{ℕ, ◌+◌, List, [], ◌∷◌, ◌++◌, length, codes, decimal}
use Rattle.aig_base.specs.declared.logic.three.Lbool.{Lbool}
use Rattle.aig_base.specs.declared.logic.three.Lbool.TheVariants.{FALSE, TRUE, NONE}

-- a space, and the literal of variable n that has this value: its number is n + 1; an unknown value
-- has none
abbrev pub value_text : ℕ → Lbool → List ℕ
value_text n TRUE = 32 ∷ decimal (n + 1)
value_text n FALSE = 32 ∷ 45 ∷ decimal (n + 1)
value_text n NONE = []

-- the literals of the variables from n on
abbrev pub values_text : ℕ → List Lbool → List ℕ
values_text n [] = []
values_text n (value ∷ values) = value_text n value ++ values_text (n + 1) values

-- a line for each row of values, and one with the 0 that ends them
unfoldable pub rows_text : ℕ → List (List Lbool) → List ℕ
rows_text n [] = codes "v 0\n"
rows_text n (row ∷ rows) = codes "v" ++ values_text n row ++ 10 ∷ rows_text (n + length row) rows

-- the answer that there is an assignment, with its values in as many lines as a solver likes
unfoldable pub solution_text : List (List Lbool) → List ℕ
solution_text rows = codes "s SATISFIABLE\n" ++ rows_text 0 rows

-- the answer that there is none
abbrev pub unsatisfiable_text : List ℕ
unsatisfiable_text = codes "s UNSATISFIABLE\n"
