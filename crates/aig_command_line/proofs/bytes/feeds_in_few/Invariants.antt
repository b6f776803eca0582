use Rattle.std.proofs.Common.{◌≡◌, take}
use Rattle.aig_command_line.specs.Counts.{feeds_in}
use Rattle.aig_command_line.proofs.bytes.feeds_in_few.Given as goal

abbrev pub invariant-loop-byte : goal.invariant-loop-byte
invariant-loop-byte l = l.feeds ≡ feeds_in (take l.byte-index l.bytes)
