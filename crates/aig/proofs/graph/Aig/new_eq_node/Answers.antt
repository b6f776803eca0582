use Rattle.aig_circuit.proofs.Circuits.{IsCircuit-grown}
use Rattle.aig.proofs.graph.Aig.new_eq_node.Goals as goal

pub invariant_of-self : goal.invariant_of-self
invariant_of-self c = IsCircuit-grown _ c.new_eq_node.new.nodes.items c.self.invariant c.new_eq_node.ensures.gates.grows
