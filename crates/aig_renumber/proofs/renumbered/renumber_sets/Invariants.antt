use Rattle.std.proofs.Common.{◌≡◌, ◌++◌, map, take}
use Rattle.std.specs.Prelude.{drop}
use Rattle.aig_circuit.specs.Renumber.{renumbered_edge}
use Rattle.aig_renumber.proofs.renumbered.renumber_sets.Given as goal

abbrev pub invariant-loop-set : goal.invariant-loop-set
invariant-loop-set g l =
    map (λ set. set.items) l.sets ≡ map (map (renumbered_edge (g.N.Numbering.number_of l.numbers))) (take l.set-index (map (λ set. set.items) l.fn.sets)) ++ drop l.set-index (map (λ set. set.items) l.fn.sets)
