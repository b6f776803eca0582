use Rattle.aig_circuit.proofs.Values.{edge_value_by_leaves}
use Rattle.aig_circuit.proofs.laws.leaves_fix_values.Goals as goal

pub returns : goal.returns
returns c = λ circuit x y is leaves e h. edge_value_by_leaves circuit.nodes is.nodes.ordered x y leaves e
