use Rattle.std.proofs.Common.{◌≡◌, ◌+◌, ◌≤◌, length}
use Rattle.aig_writer.proofs.Tables.{IsFilled, IsGatesTurn}
use Rattle.aig_writer.proofs.numbering.fill_table.Given as goal

abbrev pub invariant-loop-n : goal.invariant-loop-n
invariant-loop-n l = record {
  next : l.next ≡ 1 + l.n-index;
  within : l.n-index ≤ length l.circuit.inputs;
  filled : IsFilled l.circuit l.next l.numbers;
}

abbrev pub invariant-loop-latch : goal.invariant-loop-latch
invariant-loop-latch l = record {
  next : l.next ≡ 1 + length l.circuit.inputs + l.latch-index;
  within : l.latch-index ≤ length l.circuit.latchs;
  filled : IsFilled l.circuit l.next l.numbers;
}

abbrev pub invariant-loop-node : goal.invariant-loop-node
invariant-loop-node l = IsGatesTurn l.circuit l.next l.node-index l.numbers
