use Rattle.std.proofs.Common.{sym, subst}
use Rattle.aig_circuit.specs.Circuit.{Circuit, IsLeaf, IsFree}
use Rattle.aig_circuit.proofs.Circuits.{IsCircuit-add_input}
use Rattle.aig.proofs.graph.Aig.add_input.Goals as goal

pub invariant_of-self-2 : goal.invariant_of-self-2
invariant_of-self-2 c =
    let n = c.args.id in
    rw c.in_ok-push.ensures.items (IsCircuit-add_input _ n c.self.invariant
    (subst (λ (v : Circuit). IsLeaf v.nodes n) (sym c.self.view_is) c.requires.leaf)
    (subst (λ (v : Circuit). IsFree v.inputs v.latchs n) (sym c.self.view_is) c.requires.free))
