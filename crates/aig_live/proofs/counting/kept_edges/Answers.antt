use Rattle.std.proofs.Common.{◌<◌, ◌&&◌, false, length, get_or, arith, subst, sym}
use Rattle.aig_circuit.specs.declared.edge.AigEdge.{AigEdge}
use Rattle.aig_circuit.proofs.Words.{GivesEdge, IsInRange, edge_to, edge_value}
use Rattle.aig_live.specs.Counting.{kept_of}
use Rattle.aig_live.proofs.Counted.{kept_old}
use Rattle.aig_live.proofs.Made.{GivesEach-more, fold_few}
use Rattle.aig_live.proofs.counting.kept_edges.Goals as goal

pub new_and_node-requires : goal.new_and_node-requires
new_and_node-requires c =
    let longer = c.loop-e.invariant.gates.grows.longer in
    record {
      sound = c.loop-e.invariant.gates.grows.sound;
      first = omega (
        arith,
        longer,
        c.requires.edges c.loop-e.e-index
            (edge_to 0 false) c.loop-e-test.true,
      );
      second = subst (IsInRange c.loop-e.nodes.items) (sym c.not.ensures)
          (let low : c.args.ends.node_id < length c.loop-e.nodes.items = omega
          (arith, longer, c.requires.ends) in low);
    }

pub loop-e-preserved : goal.loop-e-preserved
loop-e-preserved c =
    let old = c.args.nodes.now.items in
    let mid = c.loop-e.nodes.items in
    let new = c.new_and_node.new.nodes.items in
    let e = get_or c.args.edges.now c.loop-e.e-index (edge_to 0 false) in
    let there = c.requires.edges c.loop-e.e-index (edge_to 0 false) c.loop-e-test.true in
    GivesEach-more 1 old mid new (kept_of old c.args.ends c.args.edges.now) c.loop-e.e-index
    c.loop-e.made.items c.push.new.self.items c.in_ok-kept.kept c.loop-e.invariant
    c.in_ok-kept.ensures.gates
    (fold_few mid new e c.not.result c.in_ok-kept.kept c.in_ok-kept.ensures.rule)
    (kept_old old mid new e c.args.ends c.in_ok-kept.kept c.requires.sound
    c.loop-e.invariant.gates.grows there c.requires.ends
    (subst (λ (n : AigEdge). GivesEdge new
    (λ x. edge_value mid x e && edge_value mid x n) c.in_ok-kept.kept) c.not.ensures
    c.in_ok-kept.ensures.gives))
    c.in_ok-push.ensures.items
