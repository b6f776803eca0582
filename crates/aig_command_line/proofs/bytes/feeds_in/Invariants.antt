use Rattle.std.proofs.Common.{◌≡◌, ◌+◌}
use Rattle.aig_command_line.specs.Counts.{feeds_in}
use Rattle.aig_command_line.proofs.bytes.feeds_in.Given as goal

abbrev pub invariant-loop-few : goal.invariant-loop-few
invariant-loop-few l = l.feeds + feeds_in l.few-iterator.rest.now ≡ feeds_in l.bytes
