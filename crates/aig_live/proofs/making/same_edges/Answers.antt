use Rattle.std.proofs.Common.{◌<◌, false, None, length, get_or, arith, subst, sym}
use Rattle.std.specs.Bool.{beq}
use Rattle.aig_circuit.specs.declared.edge.AigEdge.{AigEdge}
use Rattle.aig_circuit.proofs.Words.{GivesEdge, edge_to, edge_value}
use Rattle.aig_live.specs.Making.{latch_at, same_of}
use Rattle.aig_live.proofs.Made.{GivesEach-more, eq_few, same_old}
use Rattle.aig_live.proofs.making.same_edges.Goals as goal

pub new_eq_node-requires : goal.new_eq_node-requires
new_eq_node-requires c =
    let longer = c.loop-i.invariant.gates.grows.longer in
    let at = c.requires.latches c.loop-i.i
    (record { input = 0; next = edge_to 0 false; init = None }) c.loop-i-test.true in
    let low : c.loop-i.i < length c.args.starts.now = omega
    (arith, c.requires.count, c.loop-i-test.true) in
    record {
      sound = c.loop-i.invariant.gates.grows.sound;
      first = subst (λ (e : AigEdge). e.node_id < length c.loop-i.nodes.items) (sym c.next.ensures)
          (omega (arith, longer, at));
      second = omega (arith, longer, c.requires.starts c.loop-i.i (edge_to 0 false) low);
    }

pub loop-i-preserved : goal.loop-i-preserved
loop-i-preserved c =
    let old = c.args.nodes.now.items in
    let mid = c.loop-i.nodes.items in
    let new = c.new_eq_node.new.nodes.items in
    let next = (latch_at c.args.latchs.now c.loop-i.i).next in
    let start = get_or c.args.starts.now c.loop-i.i (edge_to 0 false) in
    let at = c.requires.latches c.loop-i.i
    (record { input = 0; next = edge_to 0 false; init = None }) c.loop-i-test.true in
    let low : c.loop-i.i < length c.args.starts.now = omega
    (arith, c.requires.count, c.loop-i-test.true) in
    GivesEach-more 3 old mid new (same_of old c.args.latchs.now c.args.starts.now) c.loop-i.i
    c.loop-i.made.items c.push.new.self.items c.in_ok-same.same c.loop-i.invariant
    c.in_ok-same.ensures.gates
    (eq_few mid new c.next.result start c.in_ok-same.same c.in_ok-same.ensures.rule)
    (same_old old mid new next start c.in_ok-same.same c.requires.sound
    c.loop-i.invariant.gates.grows at (c.requires.starts c.loop-i.i (edge_to 0 false) low)
    (subst (λ (e : AigEdge). GivesEdge new (λ x. beq (edge_value mid x e)
    (edge_value mid x start)) c.in_ok-same.same) c.next.ensures
    c.in_ok-same.ensures.gives))
    c.in_ok-push.ensures.items
