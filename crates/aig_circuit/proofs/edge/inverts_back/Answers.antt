use Rattle.aig_circuit.proofs.Joining.{inverse_twice}
use Rattle.aig_circuit.proofs.edge.inverts_back.Goals as goal

pub returns : goal.returns
returns c = inverse_twice
