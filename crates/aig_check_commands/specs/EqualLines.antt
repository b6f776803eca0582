-- Part of what is promised.
-- The lines that say that two files' machines are equal.
use Rattle.std.specs.Prelude.{ℕ, List, [], ◌∷◌, ◌++◌, codes, decimal}
use Rattle.aig_join.specs.declared.comparison.Comparison.{Comparison}
use Rattle.aig_join.specs.declared.comparison.Constraints.{Constraints}
use Rattle.aig_join.specs.declared.comparison.Constraints.TheVariants.{Compared, OfBoth, OfFirst}
use Rattle.aig_join.specs.declared.starts.Matching.TheVariants.{ByName, ByOrder}
use Rattle.aig_join.specs.declared.starts.Starts.{Starts}
use Rattle.aig_join.specs.declared.starts.Starts.TheVariants.{Alike, Apart}

-- what constraints say, as it is told behind that machines are equal: nothing where they are those
-- of both
abbrev pub constraints_text : Constraints → List ℕ
constraints_text OfBoth = []
constraints_text OfFirst = codes ", under the constraints of the first alone"
constraints_text Compared = codes ", constraints too"

-- how registers with open start begin, as it is told there: nothing where each starts apart
abbrev pub starts_text : Starts → List ℕ
starts_text Apart = []
starts_text (Alike ByOrder) = codes ", registers with open start alike by order"
starts_text (Alike ByName) = codes ", registers with open start alike by name"

-- how machines are compared, as it is told there
abbrev pub comparison_text : Comparison → List ℕ
comparison_text comparison =
    constraints_text comparison.constraints ++ starts_text comparison.starts

-- the line of machines, compared so, that are equal at a step
abbrev pub equal_line : Comparison → ℕ → List ℕ
equal_line comparison k =
    codes "equal at step " ++ (decimal k ++ (comparison_text comparison ++ 10 ∷ []))

-- the line of those that are equal at every step
abbrev pub always_line : Comparison → List ℕ
always_line comparison = codes "equal at every step" ++ (comparison_text comparison ++ 10 ∷ [])
