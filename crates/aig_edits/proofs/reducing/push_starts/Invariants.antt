use Rattle.std.proofs.Common.{◌≡◌, ◌++◌, take}
use Rattle.aig_circuit.specs.Edges.{initial_edges, nodes_of}
use Rattle.aig_edits.proofs.reducing.push_starts.Given as goal

abbrev pub invariant-loop-latch : goal.invariant-loop-latch
invariant-loop-latch l =
    l.nodes.items ≡ l.initial.nodes.items ++ nodes_of (initial_edges (take l.latch-index l.latchs))
