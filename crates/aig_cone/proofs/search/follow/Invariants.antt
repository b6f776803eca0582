use Rattle.std.proofs.Common.{◌+◌, length}
use Rattle.aig_cone.specs.Marks.{unmarked}
use Rattle.aig_cone.proofs.Searching.{Following}
use Rattle.aig_cone.proofs.search.follow.Given as goal

abbrev pub decreases-loop-id : goal.decreases-loop-id
decreases-loop-id l = unmarked l.marks + length l.stack.items

abbrev pub invariant-loop-id : goal.invariant-loop-id
invariant-loop-id l = Following l.circuit l.initial.stack.items l.marks l.stack.items
