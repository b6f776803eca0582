use Rattle.std.proofs.Common.{sym, subst}
use Rattle.aig_circuit.specs.declared.node.AigLatch.{AigLatch}
use Rattle.aig_circuit.specs.Circuit.{Circuit, IsLatch, IsFree}
use Rattle.aig_circuit.proofs.Writing.{IsCircuit-add_latch}
use Rattle.aig.proofs.graph.Aig.add_latch.Goals as goal

pub invariant_of-self-2 : goal.invariant_of-self-2
invariant_of-self-2 c =
    let latch : AigLatch = record { input = c.args.id; next = c.args.next; init = c.args.init } in
    rw (c.in_ok-push.ensures.items, c.new.ensures) (IsCircuit-add_latch _ latch c.self.invariant
    (subst (λ (v : Circuit). IsLatch v.nodes latch) (sym c.self.view_is) (record { leaf = c.requires.leaf; next = c.requires.next_edge; init = c.requires.init_edge }))
    (subst (λ (v : Circuit). IsFree v.inputs v.latchs c.args.id) (sym c.self.view_is) c.requires.free))
