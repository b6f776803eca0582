use Rattle.aig_base.proofs.Words.{◌≡◌, ◌⊎◌, ◌↔◌, ℕ, ◌<◌, ◌≤◌, false, IsTrue, slice_index_or}
use Rattle.aig_base.specs.declared.logic.three.Lbool.TheVariants.{TRUE}
use Rattle.aig_circuit.specs.declared.edge.AigEdge.{AigEdge}
use Rattle.aig_ternary.specs.Ternary.{value_in}
use Rattle.aig_witness.proofs.fair.loops.mark.Given as goal

abbrev pub invariant-loop-i : goal.invariant-loop-i
invariant-loop-i l = record {
  done : (k : ℕ) (d : AigEdge) → k < l.i → IsTrue (slice_index_or l.marks k false)
      ↔ (IsTrue (slice_index_or l.initial.marks k false)
      ⊎ (value_in l.simulation (slice_index_or l.edges k d) ≡ TRUE));
  rest : (k : ℕ) → l.i ≤ k
      → slice_index_or l.marks k false ≡ slice_index_or l.initial.marks k false;
}
