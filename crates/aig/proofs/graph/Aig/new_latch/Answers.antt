use Rattle.aig_base.proofs.Words.{◌≡◌, ◌++◌, ◌∷◌, [], length, sym, subst, arith, IfSome, common_steps}
use Rattle.aig_circuit.specs.declared.node.AigNodeType.TheVariants.{Leaf}
use Rattle.aig_circuit.specs.declared.node.AigLatch.{AigLatch}
use Rattle.aig_circuit.proofs.Words.{with_node, Circuit, IsInRange}
use Rattle.aig_circuit.proofs.Writing.{IsCircuit-new_latch}
use Rattle.aig.proofs.graph.Aig.new_latch.Goals as goal

pub invariant_of-self-2 : goal.invariant_of-self-2
invariant_of-self-2 c =
    let latch : AigLatch = record { input = length c.self.inside.lists.nodes.items; next = c.args.next; init = c.args.init } in
    let nodes : c.new_leaf_node.new.nodes.items ≡ with_node c.self.inside.lists.nodes.items Leaf = grind (arith, common_steps) in
    let latchs : c.push.new.self.items ≡ c.self.inside.lists.latchs.items ++ latch ∷ [] = grind (arith, common_steps) in
    rw (nodes, latchs) (IsCircuit-new_latch _ c.args.next c.args.init c.self.invariant
    (subst (λ (v : Circuit). IsInRange v.nodes c.args.next) (sym c.self.view_is) c.requires.next_edge)
    (subst (λ (v : Circuit). IfSome c.args.init (IsInRange v.nodes)) (sym c.self.view_is) c.requires.init_edge))
