use Rattle.aig_edits.proofs.Depths.{depth-levels}
use Rattle.aig_edits.proofs.info.depth.Goals as goal

pub returns : goal.returns
returns c =
    let holds = c.loop-n.invariant in
    depth-levels c.args.nodes.now c.requires.ordered c.loop-n.levels.items c.loop-n.n
    c.loop-n.greatest c.loop-n-test.false holds.levels holds.path holds.below
