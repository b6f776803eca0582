use Rattle.std.proofs.Common.{take}
use Rattle.aig_cone.specs.Marks.{AreMarked}
use Rattle.aig_cone.proofs.refine.marked_numbers.Given as goal

abbrev pub invariant-loop-id : goal.invariant-loop-id
invariant-loop-id l = AreMarked (take l.id l.marks) l.numbers.items
