-- Part of what is promised.
-- What the calls that make other circuits answer.
use Rattle.std.specs.Prelude.{◌≡◌, ℕ, List}
use Rattle.std.specs.Ordering.{nat_cmp}
use Rattle.std.specs.FinMap.{FinMap}
use Rattle.aig_circuit.specs.Circuit.{Circuit}
use Rattle.aig_cone.specs.Refine.{AreKept, CutsRuns, IsMapOf, refined}

-- The circuit of the kept nodes in their old order, whose runs are the old ones, cut to the kept
-- leaves, and each kept node's old number.
pub record IsRefined (old new : Circuit) (numbers : FinMap nat_cmp ℕ) : Type 0 where
  pub kept : List ℕ
  pub are_kept : AreKept old kept
  pub exact : new ≡ refined kept old
  pub old_numbers : IsMapOf kept numbers
  pub runs : CutsRuns old new kept
