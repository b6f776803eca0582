use Rattle.std.proofs.Common.{◌∙◌, arith}
use Rattle.aig_change.proofs.Merging.{nodes-following_turn}
use Rattle.aig_change.proofs.append.nodes.Goals as goal

pub loop-i-preserved : goal.loop-i-preserved
loop-i-preserved c = record {
  items =
      nodes-following_turn c.args.all.now.items c.args.added.now c.requires.sound c.loop-i.i c.len-count.result c.loop-i.all.items c.push_reserved.new.self.items c.renumbered_node.result _ c.loop-i.auto.i c.loop-i-test.true
      (c.len-count.ensures ∙ c.args.all.now.ok.0) c.loop-i.invariant.items c.renumbered_node.ensures c.push_reserved.ensures.items;
  len = omega (arith, c.loop-i.invariant.len, c.push_reserved.ensures.len);
  capacity = omega (arith, c.loop-i.invariant.capacity, c.push_reserved.ensures.capacity);
}
