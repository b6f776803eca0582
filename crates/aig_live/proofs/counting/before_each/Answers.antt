use Rattle.aig_live.proofs.Counted.{AreBefores-more}
use Rattle.aig_live.proofs.counting.before_each.Goals as goal

pub loop-r-preserved : goal.loop-r-preserved
loop-r-preserved c =
    AreBefores-more c.args.leaf c.loop-r.r c.loop-r.made.items c.push.new.self.items c.before-in-loop-r.result
    c.loop-r.invariant c.before-in-loop-r.ensures c.in_ok-push.ensures.items
