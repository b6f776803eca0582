use Rattle.std.proofs.Common.{◌≡◌, ◌/◌, ◌<◌, length, ap, ◌∙◌, arith}
use Rattle.aig_circuit.specs.declared.node.AigNode.{AigNode}
use Rattle.aig_reader.proofs.PlacedNodes.{first_gate_following, first_gate_set}
use Rattle.aig_reader.proofs.nodes.put_gate.Goals as goal

pub returns-then-id-len-clause-exact : goal.returns-then-id-len-clause-exact
returns-then-id-len-clause-exact c = λ gates g h new own is.
    let now = c.add_leaves.new.nodes in
    let here : c.node_id-id.result ≡ g.lhs / 2 = c.node_id-id.ensures ∙ ap (λ (n : AigNode). n.node_id) is in
    let low : g.lhs / 2 < length now.items = omega (arith, here, c.if-id-len.true, c.len.ensures, now.ok) in
    rw (here, is) (first_gate_set gates now.items g (c.add_leaves.ensures.exact gates h) own new low)

pub returns-else-id-len-clause-exact : goal.returns-else-id-len-clause-exact
returns-else-id-len-clause-exact c = λ gates g h new own is.
    let now = c.add_leaves.new.nodes in
    let here : c.node_id-id.result ≡ g.lhs / 2 = c.node_id-id.ensures ∙ ap (λ (n : AigNode). n.node_id) is in
    let at : g.lhs / 2 ≡ length now.items = omega (arith, here, c.if-id-len.false, c.len.ensures, c.add_leaves.ensures.len, now.ok) in
    rw (c.push_reserved.ensures.items, is) (first_gate_following gates now.items g (c.add_leaves.ensures.exact gates h) own new at)
