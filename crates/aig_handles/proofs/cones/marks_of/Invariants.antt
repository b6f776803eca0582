use Rattle.std.proofs.Common.{◌≡◌, ◌<◌, ◌↔◌, ℕ, length}
use Rattle.std.specs.Prelude.{Contains}
use Rattle.aig_circuit.specs.Marks.{IsMarked}
use Rattle.aig_handles.proofs.cones.marks_of.Given as goal

abbrev pub invariant-loop-node : goal.invariant-loop-node
invariant-loop-node l =
    (length l.marks.items ≡ l.node)
    × ((n : ℕ) → n < l.node → IsMarked l.marks.items n ↔ Contains l.cone.keys n)
