use Rattle.std.proofs.Common.{take}
use Rattle.aig_writer.proofs.Differences.{Grouped}
use Rattle.aig_writer.proofs.line.put_difference.Given as goal

abbrev pub invariant-loop-rest : goal.invariant-loop-rest
invariant-loop-rest l = Grouped (take l.fn.at l.fn.groups) l.fn.d l.groups l.fn.at l.end l.rest

abbrev pub decreases-loop-rest : goal.decreases-loop-rest
decreases-loop-rest l = l.rest
