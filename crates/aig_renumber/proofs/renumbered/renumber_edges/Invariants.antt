use Rattle.std.proofs.Common.{◌≡◌, ◌++◌, map, take}
use Rattle.std.specs.Prelude.{drop}
use Rattle.aig_circuit.specs.Renumber.{renumbered_edge}
use Rattle.aig_renumber.proofs.renumbered.renumber_edges.Given as goal

abbrev pub invariant-loop-e : goal.invariant-loop-e
invariant-loop-e g l = l.edges ≡ map (renumbered_edge (g.N.Numbering.number_of l.numbers)) (take l.e-index l.fn.edges) ++ drop l.e-index l.fn.edges
