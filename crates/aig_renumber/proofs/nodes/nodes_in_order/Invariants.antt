use Rattle.std.proofs.Common.{◌≡◌, ◌≤◌, length, slice_index, take}
use Rattle.aig_base.proofs.Words.{vec_capacity}
use Rattle.aig_circuit.specs.Renumber.{nodes_in_order}
use Rattle.aig_renumber.proofs.nodes.nodes_in_order.Given as goal

abbrev pub invariant-loop-i : goal.invariant-loop-i
invariant-loop-i l = record {
  made : l.new.items ≡ nodes_in_order l.nodes (slice_index l.numbers.numbers.now) 0 (take l.i l.order);
  room : length l.order ≤ vec_capacity l.new;
}
