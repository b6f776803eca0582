-- Part of what is promised.
-- Clauses as DIMACS numbers, with a 0 after each. (DIMACS CNF format.)
use Rattle.std.specs.Prelude.{◌+◌, if◌then◌else◌, List, [], ◌∷◌, ◌++◌, map, ℤ, pos, negsuc}
use Rattle.aig_base.specs.declared.logic.literal.Lit.{Lit}
use Rattle.aig_base.specs.Clauses.{is_positive, variable_of}

-- a variable's number and one more, negative where the literal is inverted
abbrev pub dimacs_number : Lit → ℤ
dimacs_number lit = if is_positive lit then pos (variable_of lit + 1) else negsuc (variable_of lit)

-- the numbers of a clause, and a 0
abbrev pub clause_numbers : List Lit → List ℤ
clause_numbers clause = map dimacs_number clause ++ pos 0 ∷ []
