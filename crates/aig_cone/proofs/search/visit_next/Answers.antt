use Rattle.aig_cone.proofs.Searching.{Visits-given}
use Rattle.aig_cone.proofs.search.visit_next.Goals as goal

pub returns-in_ok-visit : goal.returns-in_ok-visit
returns-in_ok-visit c = let h = c.in-Some.is in
    Visits-given c.args.next_states.now c.args.id c.in-Some.next c.args.marks.now c.visit.new.marks c.args.stack.now.items c.visit.new.stack.items c.in-Some.is c.in_ok-visit.ensures
