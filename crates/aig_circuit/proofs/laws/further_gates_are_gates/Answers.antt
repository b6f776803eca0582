use Rattle.aig_circuit.proofs.Joining.{AddsOnlyGates-then}
use Rattle.aig_circuit.proofs.laws.further_gates_are_gates.Goals as goal

pub returns : goal.returns
returns c = AddsOnlyGates-then
