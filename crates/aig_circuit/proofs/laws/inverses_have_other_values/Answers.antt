use Rattle.aig_circuit.proofs.Joining.{edge_value-inverse}
use Rattle.aig_circuit.proofs.laws.inverses_have_other_values.Goals as goal

pub returns : goal.returns
returns c = edge_value-inverse
