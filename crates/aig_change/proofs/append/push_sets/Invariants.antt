use Rattle.std.proofs.Common.{◌≡◌, ◌++◌, map, take}
use Rattle.aig_circuit.specs.Renumber.{renumbered_edge}
use Rattle.aig_change.specs.Merge.{shifted}
use Rattle.aig_change.proofs.append.push_sets.Given as goal

abbrev pub invariant-loop-set : goal.invariant-loop-set
invariant-loop-set l = map (λ set. set.items) l.all.items ≡ map (λ set. set.items) l.fn.all.items ++ map (map (renumbered_edge (shifted l.numbers.count))) (map (λ set. set.items) (take l.set-index l.added))
