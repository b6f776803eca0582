use Rattle.std.proofs.Common.{◌≡◌, ◌++◌, length, map, take}
use Rattle.aig_unroll.specs.Step.{entries_of, image_in}
use Rattle.aig_unroll.proofs.entries.push_sets.Given as goal

abbrev pub invariant-loop-set : goal.invariant-loop-set
invariant-loop-set l = record {
  ok : entries_of l.list.items
      ≡ entries_of l.fn.list.items
      ++ map (λ set. map (image_in l.images) set.items) (take l.set-index l.sets);
  kept : take (length l.fn.list.items) l.list.items ≡ l.fn.list.items;
}
