use Rattle.std.proofs.Common.{sym, subst}
use Rattle.aig_circuit.specs.Node.{Admits}
use Rattle.aig_circuit.specs.Circuit.{Circuit}
use Rattle.aig_circuit.proofs.Writing.{IsCircuit-set_node}
use Rattle.aig.proofs.graph.Aig.set_node.Goals as goal

pub invariant_of-self : goal.invariant_of-self
invariant_of-self c =
    IsCircuit-set_node _ c.args.i c.args.node c.self.invariant (subst (λ (v : Circuit). Admits v.nodes c.args.i c.args.node) (sym c.self.view_is) c.requires)
