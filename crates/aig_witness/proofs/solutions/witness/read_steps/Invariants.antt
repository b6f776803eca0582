use Rattle.aig_witness.specs.Solutions.{inputs_in}
use Rattle.aig_witness.proofs.Steps.{AreRows}
use Rattle.aig_witness.specs.Witness.{rows_of}
use Rattle.aig_witness.proofs.solutions.witness.read_steps.Given as goal

abbrev pub invariant-loop-t : goal.invariant-loop-t
invariant-loop-t l = AreRows (inputs_in l.circuit l.unrolled l.values) l.t (rows_of l.steps.items)
