use Rattle.aig_base.proofs.Words.{◌≡◌, ◌+◌, ◌≤◌, ◌++◌, map, take}
use Rattle.std.specs.Prelude.{vec_capacity, vec_len}
use Rattle.aig_circuit.specs.Renumber.{renumbered_latch}
use Rattle.aig_change.specs.Merge.{shifted}
use Rattle.aig_change.proofs.append.latchs.Given as goal

abbrev pub invariant-loop-l : goal.invariant-loop-l
invariant-loop-l l = record {
  items : l.all.items ≡ l.fn.all.items ++ map (renumbered_latch (shifted l.numbers.count)) (take l.l-index l.added);
  len : vec_len l.all ≡ vec_len l.fn.all + l.l-index;
  capacity : vec_capacity l.fn.all ≤ vec_capacity l.all;
}
