use Rattle.aig_base.proofs.Words.{◌≡◌, ℕ, ◌<◌, take}
use Rattle.aig_ternary.specs.Ternary.{simulation_of, stepped_all}
use Rattle.aig_witness.specs.Witness.{rows_of, said_by}
use Rattle.aig_witness.specs.Lassos.{IsSameKnown, state_before}
use Rattle.aig_witness.proofs.fair.loops.find_loop.Given as goal

abbrev pub invariant-loop-t : goal.invariant-loop-t
invariant-loop-t l = record {
  so_far : l.simulation ≡ stepped_all (simulation_of l.circuit l.witness.state.items)
      (take l.t (rows_of l.witness.steps.items));
  state_now : l.state.items ≡ state_before l.circuit (said_by l.witness) l.t;
  none : (s : ℕ) → s < l.t → ¬ IsSameKnown (state_before l.circuit (said_by l.witness) s) l.end;
}
