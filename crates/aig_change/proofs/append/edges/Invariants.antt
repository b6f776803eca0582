use Rattle.aig_base.proofs.Words.{◌≡◌, ◌+◌, ◌≤◌, ◌++◌, map, take}
use Rattle.std.specs.Prelude.{vec_capacity, vec_len}
use Rattle.aig_circuit.specs.Renumber.{renumbered_edge}
use Rattle.aig_change.specs.Merge.{shifted}
use Rattle.aig_change.proofs.append.edges.Given as goal

abbrev pub invariant-loop-e : goal.invariant-loop-e
invariant-loop-e l = record {
  items : l.all.items ≡ l.fn.all.items ++ map (renumbered_edge (shifted l.numbers.count)) (take l.e-index l.added);
  len : vec_len l.all ≡ vec_len l.fn.all + l.e-index;
  capacity : vec_capacity l.fn.all ≤ vec_capacity l.all;
}
