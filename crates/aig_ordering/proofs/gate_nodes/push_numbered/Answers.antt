use Rattle.std.proofs.Common.{sym, ap, ◌∙◌, ◌++◌, ◌∷◌, []}
use Rattle.aig_circuit.specs.declared.node.AigNode.{AigNode}
use Rattle.aig_ordering.proofs.InOrder.{numbered}
use Rattle.aig_ordering.proofs.gate_nodes.push_numbered.Goals as goal

pub returns-clause-node : goal.returns-clause-node
returns-clause-node c =
    let k = numbered c.args.numbers.now.table.now c.args.place c.in-Some.field-0 c.in_ok-first.first c.in_ok-second.second (sym c.edge.ensures ∙ c.in_ok-first.was) (sym c.edge-2.ensures ∙ c.in_ok-second.was) in
    rw (sym c.operands.ensures ∙ c.in-Some.is) (k.0, c.push_reserved-2.ensures.items ∙ ap (λ (node : AigNode). c.args.new.now.items ++ node ∷ []) (c.gate_node.ensures ∙ k.1))
