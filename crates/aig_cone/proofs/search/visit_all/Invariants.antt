use Rattle.aig_base.proofs.Words.{take, Contains}
use Rattle.aig_cone.specs.Marks.{Visits}
use Rattle.aig_cone.proofs.search.visit_all.Given as goal

abbrev pub invariant-loop-id : goal.invariant-loop-id
invariant-loop-id l = Visits l.initial.marks l.marks l.initial.stack.items l.stack.items (Contains (take l.id-index l.ids))
