use Rattle.aig_cone.proofs.Searching.{Visits-set}
use Rattle.aig_cone.proofs.search.visit.Goals as goal

pub returns-in_ok-push : goal.returns-in_ok-push
returns-in_ok-push c =
    Visits-set c.args.marks.now c.args.stack.now.items c.push.new.self.items c.args.id c.requires c.if-not-marks-id.true c.in_ok-push.ensures.items
