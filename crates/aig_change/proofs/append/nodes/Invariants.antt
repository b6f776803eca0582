use Rattle.aig_base.proofs.Words.{◌≡◌, ◌+◌, ◌≤◌, ◌++◌, take, ◌-◌, length}
use Rattle.std.specs.Prelude.{vec_capacity, vec_len}
use Rattle.aig_circuit.specs.Renumber.{nodes_in_order}
use Rattle.aig_change.specs.Merge.{numbers_but_0, shifted}
use Rattle.aig_change.proofs.append.nodes.Given as goal

abbrev pub invariant-loop-i : goal.invariant-loop-i
invariant-loop-i l = record {
  items : l.all.items ≡ l.fn.all.items ++ nodes_in_order l.added (shifted (length l.fn.all.items)) (length l.fn.all.items) (take (l.i - 1) (numbers_but_0 l.added));
  len : vec_len l.all + 1 ≡ vec_len l.fn.all + l.i;
  capacity : vec_capacity l.fn.all ≤ vec_capacity l.all;
}
