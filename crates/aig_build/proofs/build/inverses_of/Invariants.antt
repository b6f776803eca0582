use Rattle.std.proofs.Common.{◌≡◌, map, take}
use Rattle.aig_circuit.specs.Edge.{inverse}
use Rattle.aig_build.proofs.build.inverses_of.Given as goal

abbrev pub invariant-loop-e : goal.invariant-loop-e
invariant-loop-e l = l.inverses.items ≡ map inverse (take l.e-index l.edges)
