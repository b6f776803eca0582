use Rattle.aig_base.proofs.Words.{◌≡◌, ◌↔◌, ℕ, ◌<◌, ◌≤◌, false, IsTrue, length, take, slice_index_or}
use Rattle.aig_base.specs.declared.logic.three.Lbool.TheVariants.{TRUE}
use Rattle.aig_circuit.specs.declared.edge.AigEdge.{AigEdge}
use Rattle.aig_ternary.specs.Ternary.{simulation_of, stepped_all, value_in}
use Rattle.aig_witness.specs.Shown.{simulated}
use Rattle.aig_witness.specs.Witness.{rows_of, said_by}
use Rattle.aig_witness.proofs.Marks.{AreMarksTo}
use Rattle.aig_witness.proofs.fair.loops.met_from.Given as goal

abbrev pub invariant-loop-t : goal.invariant-loop-t
invariant-loop-t l = record {
  so_far : l.simulation ≡ stepped_all (simulation_of l.circuit l.witness.state.items)
      (take l.t (rows_of l.witness.steps.items));
  long : length l.marks.items ≡ length l.edges;
  each : AreMarksTo l.circuit (said_by l.witness) l.from l.t l.edges l.marks.items;
}
