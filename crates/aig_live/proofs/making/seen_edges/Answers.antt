use Rattle.std.proofs.Common.{◌<◌, ◌+◌, ◌&&◌, ◌||◌, false, length, get_or, arith, subst, sym}
use Rattle.aig_circuit.specs.declared.edge.AigEdge.{AigEdge}
use Rattle.aig_circuit.proofs.Words.{GivesEdge, edge_to, edge_value}
use Rattle.aig_live.specs.Making.{seen_of}
use Rattle.aig_live.proofs.Made.{GivesEach-more, seen_old}
use Rattle.aig_live.proofs.making.seen_edges.Goals as goal

pub seen_edge-requires : goal.seen_edge-requires
seen_edge-requires c =
    let longer = c.loop-i.invariant.gates.grows.longer in
    record {
      sound = c.loop-i.invariant.gates.grows.sound;
      own = subst (λ (e : AigEdge). e.node_id < length c.loop-i.nodes.items) (sym c.from.ensures)
          (let low : c.args.leaf + c.loop-i.i < length c.loop-i.nodes.items = omega
          (arith, longer, c.requires.leaves, c.loop-i-test.true) in low);
      active = omega (arith, longer, c.requires.active);
      edge = omega (
        arith,
        longer,
        c.requires.edges c.loop-i.i
            (edge_to 0 false) c.loop-i-test.true,
      );
    }

pub loop-i-preserved : goal.loop-i-preserved
loop-i-preserved c =
    let old = c.args.nodes.now.items in
    let mid = c.loop-i.nodes.items in
    let new = c.seen_edge.new.nodes.items in
    let own = edge_to (c.args.leaf + c.loop-i.i) false in
    let e = get_or c.args.edges.now c.loop-i.i (edge_to 0 false) in
    GivesEach-more 2 old mid new (seen_of old c.args.active c.args.leaf c.args.edges.now) c.loop-i.i
    c.loop-i.made.items c.push.new.self.items c.in_ok-seen.seen c.loop-i.invariant
    c.in_ok-seen.ensures.gates c.in_ok-seen.ensures.few
    (seen_old old mid new own c.args.active e c.in_ok-seen.seen c.requires.sound
    c.loop-i.invariant.gates.grows (omega (arith, c.requires.leaves, c.loop-i-test.true))
    c.requires.active (c.requires.edges c.loop-i.i (edge_to 0 false) c.loop-i-test.true)
    (subst (λ (own : AigEdge). GivesEdge new (λ x. edge_value mid x own ||
    (edge_value mid x c.args.active && edge_value mid x e)) c.in_ok-seen.seen) c.from.ensures
    c.in_ok-seen.ensures.gives))
    c.in_ok-push.ensures.items
