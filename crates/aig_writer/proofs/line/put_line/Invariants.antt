use Rattle.std.proofs.Common.{◌≡◌, ◌+◌, ◌*◌, ◌≤◌, length, drop}
use Rattle.aig_writer.proofs.Lines.{Built}
use Rattle.aig_writer.proofs.line.put_line.Given as goal

abbrev pub invariant-loop-left : goal.invariant-loop-left
invariant-loop-left l = record {
  fewer : l.left ≤ length l.numbers;
  room : l.end + 21 * l.left ≤ l.start + 21 * length l.numbers;
  within : l.start ≤ l.end;
  size : length l.text ≡ l.end + 32;
  built : Built l.text l.start (drop l.left l.numbers);
}

abbrev pub decreases-loop-left : goal.decreases-loop-left
decreases-loop-left l = l.left
