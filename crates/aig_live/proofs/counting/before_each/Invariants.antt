use Rattle.aig_live.specs.Counting.{AreBefores}
use Rattle.aig_live.proofs.counting.before_each.Given as goal

abbrev pub invariant-loop-r : goal.invariant-loop-r
invariant-loop-r l = AreBefores l.leaf l.r l.made.items
