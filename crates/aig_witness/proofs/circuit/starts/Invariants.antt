use Rattle.aig_base.proofs.Words.{ℕ, ◌<◌, slice_index_or}
use Rattle.aig_base.specs.declared.logic.three.Lbool.TheVariants.{NONE}
use Rattle.aig_circuit.specs.declared.node.AigLatch.{AigLatch}
use Rattle.aig_witness.specs.Shown.{HasStart}
use Rattle.aig_witness.proofs.circuit.starts.Given as goal

abbrev pub invariant-loop-i : goal.invariant-loop-i
invariant-loop-i l = (k : ℕ) (d : AigLatch) → k < l.i → HasStart (slice_index_or l.latchs k d) (slice_index_or l.state k NONE)
