use Rattle.aig_base.proofs.Words.{◌≡◌, ◌≤◌, length, take, vec_capacity}
use Rattle.aig_strash.proofs.numbers.widened.Given as goal

abbrev pub invariant-loop-number : goal.invariant-loop-number
invariant-loop-number l = record {
  made : l.wide.items ≡ take l.number-index l.numbers;
  room : length l.numbers ≤ vec_capacity l.wide;
}
