-- Part of what is promised.
-- What a transform puts in place of a circuit.
use Rattle.std.specs.Prelude.{◌≡◌, ◌⊎◌, ℕ, All, length, slice_set}
use Rattle.std.specs.FinMap.{FinMap}
use Rattle.std.specs.Ordering.{nat_cmp}
use Rattle.aig.specs.Others.{IsRefined}
use Rattle.aig_change.specs.Changes.{CompressesBads, ConstrainsInits, FoldsConstraints}
use Rattle.aig_change.specs.Merge.{PairsRuns, merged, shifted}
use Rattle.aig_circuit.specs.declared.edge.AigEdge.{AigEdge}
use Rattle.aig_circuit.specs.Circuit.{BeginsWith, Circuit, IsClosed}
use Rattle.aig_circuit.specs.Edges.{HasConstantInit}
use Rattle.aig_circuit.specs.Node.{Admits}
use Rattle.aig_circuit.specs.Reencode.{IsReencoded, new_number, reencoded}
use Rattle.aig_circuit.specs.Runs.{AreAsLong, KeepsRuns}
use Rattle.aig_strash.specs.Exchange.{image_of}
use Rattle.aig_strash.specs.Strash.{KeepsRepresentatives, MergesTrees, strashed}
use Rattle.aig_unroll.specs.Unroll.{AddsExactly, UnrollsBySteps, UnrollsOnce, UnrollsTo}
use Rattle.aig_handles.specs.Handles.{ChangesOr, HasRoom, Unmet}
use Rattle.aig_handles.specs.Questions.{gate_of}
use Rattle.aig_giving.specs.declared.status.TheConstants.{MEMORY}
use Rattle.aig_handles.specs.declared.status.TheConstants.{FREE_LEAF, FULL, NOT_ADMITTED, NO_BEGINNING}

-- a gate has these operands
abbrev pub SetsGateOr : ℕ → AigEdge → AigEdge → ℕ → Circuit → Circuit → Type 0
SetsGateOr n a b status old new =
    ChangesOr status old new (Admits old.nodes n (gate_of n a b)
    × (new ≡ record old { nodes = slice_set old.nodes n (gate_of n a b) }))
    (Unmet NOT_ADMITTED status (Admits old.nodes n (gate_of n a b)))

-- the constraints are joined to the first bad edge and the first output
abbrev pub MovesOr : ℕ → Circuit → Circuit → Type 0
MovesOr status old new = ChangesOr status old new (FoldsConstraints old new) (status ≡ MEMORY)

-- the bad edges become one
abbrev pub CompressesOr : ℕ → Circuit → Circuit → Type 0
CompressesOr status old new = ChangesOr status old new (CompressesBads old new) (status ≡ MEMORY)

-- initial edges that aren't constant become constraints
abbrev pub ConstrainsOr : ℕ → Circuit → Circuit → Type 0
ConstrainsOr status old new =
    ChangesOr status old new (ConstrainsInits old new)
    ((status ≡ MEMORY) × ¬ All HasConstantInit old.latchs)

-- no leaf is free, the numbering is that of the binary form, and runs stay
pub record Reencodes (old new : Circuit) : Type 0 where
  pub asked : IsClosed old
  pub exact : new ≡ reencoded old
  pub closed : IsClosed new
  pub long : AreAsLong old new
  pub kept : KeepsRuns old new (new_number old)
  pub placed : IsReencoded new

abbrev pub ReencodesOr : ℕ → Circuit → Circuit → Type 0
ReencodesOr status old new =
    ChangesOr status old new (Reencodes old new)
    (Unmet FREE_LEAF status (IsClosed old) ⊎ (status ≡ MEMORY))

-- gates share one node exactly where their trees are equal, and runs stay
pub record Strashes (old new : Circuit) : Type 0 where
  pub exact : new ≡ strashed old
  pub kept : KeepsRepresentatives old new (image_of old.nodes)
  pub merges : MergesTrees old new (image_of old.nodes)
  pub runs : KeepsRuns old new (image_of old.nodes)

abbrev pub StrashesOr : ℕ → Circuit → Circuit → Type 0
StrashesOr status old new = ChangesOr status old new (Strashes old new) (status ≡ MEMORY)

-- k further steps are added
abbrev pub UnrollsToOr : ℕ → ℕ → Circuit → Circuit → Type 0
UnrollsToOr k status old new =
    ChangesOr status old new (UnrollsTo old k new × UnrollsBySteps old k new) (status ≡ MEMORY)

-- one step of another circuit is added
abbrev pub UnrollsOr : Circuit → ℕ → Circuit → Circuit → Type 0
UnrollsOr from status old new =
    ChangesOr status old new
    (BeginsWith old from × UnrollsOnce from old new × AddsExactly from old new)
    (Unmet NO_BEGINNING status (BeginsWith old from) ⊎ (status ≡ MEMORY))

-- another circuit is appended, and runs are pairs of runs
pub record Merges (other old new : Circuit) : Type 0 where
  pub exact : new ≡ merged old other
  pub runs : PairsRuns old other new (shifted (length old.nodes))

abbrev pub MergesOr : Circuit → ℕ → Circuit → Circuit → Type 0
MergesOr other status old new =
    ChangesOr status old new (Merges other old new) (status ≡ MEMORY)

-- edges have literals, and the circuit is cut to its cone of influence
pub record Refines (old new : Circuit) : Type 0 where
  pub asked : HasRoom old 0
  pub numbers : FinMap nat_cmp ℕ
  pub refined : IsRefined old new numbers

abbrev pub RefinesOr : ℕ → Circuit → Circuit → Type 0
RefinesOr status old new =
    ChangesOr status old new (Refines old new)
    (Unmet FULL status (HasRoom old 0) ⊎ (status ≡ MEMORY))
