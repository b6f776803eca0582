use Rattle.aig_base.proofs.Words.{◌≡◌, ◌≤◌, length, true, map, take, list_all, vec_capacity}
use Rattle.aig_ordering.specs.Gates.{nodes_in}
use Rattle.aig_ordering.specs.Numbers.{has_operands, with_numbers}
use Rattle.aig_ordering.proofs.gate_nodes.nodes.Given as goal

abbrev pub invariant-loop-i : goal.invariant-loop-i
invariant-loop-i l = record {
  have : list_all (λ node. has_operands l.numbers.table.now node.typ) (take l.i (nodes_in l.gates)) ≡ true;
  made : l.new.items ≡ map (with_numbers l.numbers.table.now) (take l.i (nodes_in l.gates));
  count : length l.new.items ≡ l.i;
  room : length l.gates ≤ vec_capacity l.new;
}
