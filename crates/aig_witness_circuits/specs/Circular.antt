-- Part of what is promised.
-- Latches whose resets go round in a circle. (Certificates of the hardware model checking
-- competition, whose resets are functions without one; AIGER 1.9, "Reset logic", has constants
-- alone.)
use Rattle.std.specs.Prelude.{◌≡◌, ℕ, ◌⊎◌, [], ◌∷◌, Some, Contains}
use Rattle.aig_circuit.specs.declared.edge.AigEdge.{AigEdge}
use Rattle.aig_circuit.specs.declared.node.AigLatch.{AigLatch}
use Rattle.aig_circuit.specs.Circuit.{Circuit}
use Rattle.aig_circuit.specs.Reach.{IsFanin, IsReached}
use Rattle.aig_witness_circuits.specs.Simulation.{IsOwn, Sharing}

-- n is the leaf of a latch of the witness circuit's own, whose initial edge this is
abbrev pub IsReset : Sharing → Circuit → ℕ → AigEdge → Type 0
IsReset shared c n e =
    (latch : AigLatch) × Contains c.latchs latch × IsOwn shared latch.input × (latch.input ≡ n)
    × (latch.init ≡ Some e)

-- m is the node of an operand of gate n, or of the initial edge of the own latch whose leaf is n
abbrev pub RestsOn : Sharing → Circuit → ℕ → ℕ → Type 0
RestsOn shared c n m =
    IsFanin c.nodes n m ⊎ ((e : AigEdge) × IsReset shared c n e × (m ≡ e.node_id))

-- the initial edge of some own latch rests on the latch's own leaf, directly or through others
abbrev pub IsCircular : Sharing → Circuit → Type 0
IsCircular shared c =
    (n : ℕ) × (e : AigEdge) × IsReset shared c n e
    × IsReached (RestsOn shared c) (e.node_id ∷ []) n
