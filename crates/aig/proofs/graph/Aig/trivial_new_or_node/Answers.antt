use Rattle.aig_circuit.proofs.Circuits.{IsCircuit-grown}
use Rattle.aig.proofs.graph.Aig.trivial_new_or_node.Goals as goal

pub invariant_of-self : goal.invariant_of-self
invariant_of-self c = IsCircuit-grown _ c.trivial_new_or_node.new.nodes.items c.self.invariant c.trivial_new_or_node.ensures.gates.grows
