use Rattle.aig_base.proofs.Words.{◌≡◌, ◌+◌, ◌≤◌, ◌++◌, map, take}
use Rattle.std.specs.Prelude.{vec_capacity, vec_len}
use Rattle.aig_change.specs.Merge.{shifted}
use Rattle.aig_change.proofs.append.inputs.Given as goal

abbrev pub invariant-loop-input : goal.invariant-loop-input
invariant-loop-input l = record {
  items : l.all.items ≡ l.fn.all.items ++ map (shifted l.numbers.count) (take l.input-index l.added);
  len : vec_len l.all ≡ vec_len l.fn.all + l.input-index;
  capacity : vec_capacity l.fn.all ≤ vec_capacity l.all;
}
