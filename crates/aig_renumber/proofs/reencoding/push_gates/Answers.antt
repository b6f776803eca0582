use Rattle.std.proofs.Common.{ℕ, Vec, Global, ap, ◌∙◌}
use Rattle.aig_renumber.proofs.Order.{gates-turn_gate, gates-turn_other}
use Rattle.aig_renumber.proofs.reencoding.push_gates.Goals as goal
use Rattle.aig_renumber.proofs.reencoding.push_gates.Goals.{then-is_and+in_ok-push, else-is_and}

pub loop-node-preserved : goal.loop-node-preserved
loop-node-preserved c =
    let front = c.args.order.now.items in
    let before = c.loop-node.order.items in
    elim c.if-is_and.branch [
      | then-is_and+in_ok-push w ↦
          ap (λ (v : Vec ℕ Global). v.items) w.order-is
          ∙ gates-turn_gate c.args.nodes.now c.loop-node.node-index _ front before w.push.new.self.items w.node_id.result c.is_and.result c.loop-node-test.true c.is_and.ensures w.if-is_and.true w.node_id.ensures c.loop-node.invariant w.in_ok-push.ensures.items
      | else-is_and w ↦
          ap (λ (v : Vec ℕ Global). v.items) w.order-is
          ∙ gates-turn_other c.args.nodes.now c.loop-node.node-index _ front before c.is_and.result c.loop-node-test.true c.is_and.ensures w.if-is_and.false c.loop-node.invariant
    ]
