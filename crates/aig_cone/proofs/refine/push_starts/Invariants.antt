use Rattle.std.proofs.Common.{◌≡◌, ◌++◌, take}
use Rattle.aig_circuit.specs.Edges.{initial_edges}
use Rattle.aig_cone.specs.Refine.{variable_nodes}
use Rattle.aig_cone.proofs.refine.push_starts.Given as goal

abbrev pub invariant-loop-latch : goal.invariant-loop-latch
invariant-loop-latch l = l.roots.items ≡ l.initial.roots.items ++ variable_nodes (initial_edges (take l.latch-index l.latchs))
