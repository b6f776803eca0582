use Rattle.std.proofs.Common.{◌≡◌, ◌≤◌, length, take}
use Rattle.aig_format.specs.Written.{shortened}
use Rattle.aig_writer.proofs.header.written_count.Given as goal

abbrev pub invariant-loop-count : goal.invariant-loop-count
invariant-loop-count l = record { within : l.count ≤ length l.numbers; zeros : shortened (take l.count l.numbers) ≡ shortened l.numbers }

abbrev pub decreases-loop-count : goal.decreases-loop-count
decreases-loop-count l = l.count
