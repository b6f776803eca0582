-- Part of what is promised.
-- The DIMACS text of clauses: a header line with the counts of variables and of clauses, and a line
-- for each clause. (DIMACS CNF format.)
use Rattle.std.specs.Prelude.{ℕ, ◌+◌, ◌^◌, ◌<◌, if◌then◌else◌, Bool, Option, Result, List, [], ◌∷◌, ◌++◌, length, codes, decimal}
use Rattle.std.specs.List.{flat_map}
use Rattle.aig_base.specs.declared.logic.literal.Lit.{Lit}
use Rattle.aig_base.specs.Clauses.{AreBelow, is_positive, variable_of}
use Rattle.aig_base.specs.Formula.{clauses_in}
use Rattle.aig_output.specs.Sinks.{WritesOrStops}

-- the sign of a literal: none, or a minus where it is inverted
abbrev pub sign_of : Lit → List ℕ
sign_of lit = if is_positive lit then [] else codes "-"

-- a literal: its variable's number and one more, after its sign, and a space
abbrev pub literal_text : Lit → List ℕ
literal_text lit = sign_of lit ++ (decimal (variable_of lit + 1) ++ 32 ∷ [])

-- the line of a clause: its literals, and a 0
unfoldable pub clause_line : List Lit → List ℕ
clause_line clause = flat_map literal_text clause ++ 48 ∷ 10 ∷ []

-- the header line: how many variables and how many clauses there are
abbrev pub header_line : ℕ → ℕ → List ℕ
header_line variables clauses =
    codes "p cnf " ++ (decimal variables ++ 32 ∷ []) ++ (decimal clauses ++ 10 ∷ [])

-- the text of clauses over so many variables
unfoldable pub dimacs_of : ℕ → List (List Lit) → List ℕ
dimacs_of variables clauses = header_line variables (length clauses) ++ flat_map clause_line clauses

-- clauses of variables below the count, and both counts fit 64 bits
pub record IsFormula (variables : ℕ) (clauses : List (List Lit)) : Type 0 where
  pub few : variables < 2 ^ 64
  pub count : length clauses < 2 ^ 64
  pub below : AreBelow variables clauses

-- the text of the variables' clauses and then further ones is written, or a beginning of it, and
-- they are a formula
pub record IsTextWith {W T E : Type 0} (held : W → Option (List ℕ)) (failed : W → Bool) (old : W)
    (result : Result T E) (lists : List (List (List Lit))) (extra : List (List Lit)) (new : W)
    : Type 0 where
  pub writes : WritesOrStops held failed old result
      (dimacs_of (length lists) (clauses_in lists ++ extra)) new
  pub formula : IsFormula (length lists) (clauses_in lists ++ extra)
