use Rattle.std.proofs.Common.{◌≡◌, take}
use Rattle.aig_bounded.specs.Cut.{marked_places}
use Rattle.aig_bounded.proofs.question.marked_places.Given as goal

abbrev pub invariant-loop-i : goal.invariant-loop-i
invariant-loop-i l = l.kept.items ≡ marked_places l.marks (take l.i l.inputs) (take l.i l.places)
