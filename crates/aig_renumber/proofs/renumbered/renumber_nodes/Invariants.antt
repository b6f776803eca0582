use Rattle.std.proofs.Common.{◌≡◌, ◌++◌, map, take}
use Rattle.std.specs.Prelude.{drop}
use Rattle.aig_renumber.proofs.renumbered.renumber_nodes.Given as goal

abbrev pub invariant-loop-n : goal.invariant-loop-n
invariant-loop-n g l = l.nodes ≡ map (g.N.Numbering.number_of l.numbers) (take l.n-index l.fn.nodes) ++ drop l.n-index l.fn.nodes
