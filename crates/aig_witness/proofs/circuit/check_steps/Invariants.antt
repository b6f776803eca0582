use Rattle.aig_base.proofs.Words.{◌≡◌, ℕ, ◌<◌, [], length, take, slice_index_or}
use Rattle.aig_ternary.specs.Ternary.{simulation_of, stepped_all}
use Rattle.aig_witness.specs.Witness.{rows_of, said_by}
use Rattle.aig_witness.specs.Shown.{AreTrueIn, simulated}
use Rattle.aig_witness.proofs.circuit.check_steps.Given as goal

abbrev pub invariant-loop-t : goal.invariant-loop-t
invariant-loop-t l = record {
  so_far : l.simulation ≡ stepped_all (simulation_of l.circuit l.witness.state.items)
      (take l.t (rows_of l.witness.steps.items));
  inputs : (s : ℕ) → s < l.t → length (slice_index_or (rows_of l.witness.steps.items) s []) ≡ length
      l.circuit.inputs;
  constraints : (s : ℕ) → s < l.t → AreTrueIn (simulated l.circuit (said_by l.witness) s)
      l.circuit.properties.constraints;
}
