use Rattle.aig_base.proofs.Words.{◌≡◌, subst, sym, arith, common_steps}
use Rattle.aig_circuit.specs.declared.node.AigNodeType.TheVariants.{Leaf}
use Rattle.aig_circuit.specs.Build.{with_node, Grows}
use Rattle.aig_circuit.proofs.Building.{Grows-leaf}
use Rattle.aig_build.proofs.build.new_leaf_node.Goals as goal

pub returns-clause-grows : goal.returns-clause-grows
returns-clause-grows c =
    let e : c.push.new.self.items ≡ with_node c.args.nodes.now.items Leaf = grind (arith, common_steps) in
    subst (Grows c.args.nodes.now.items) (sym e) (Grows-leaf _ c.requires)
