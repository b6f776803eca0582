use Rattle.aig_base.proofs.Words.{◌≡◌, ◌≤◌, map, take, length, vec_len, vec_capacity}
use Rattle.aig_reader.specs.Gates.{gate_in}
use Rattle.aig_reader.proofs.table.Table.new.Given as goal

abbrev pub invariant-loop-node : goal.invariant-loop-node
invariant-loop-node l = record {
  entries : l.entries.items ≡ map (λ node. gate_in node.typ) (take l.node-index l.nodes);
  len : vec_len l.entries ≡ l.node-index;
  room : length l.nodes ≤ vec_capacity l.entries;
}
