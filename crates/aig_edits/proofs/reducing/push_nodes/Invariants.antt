use Rattle.std.proofs.Common.{◌≡◌, ◌++◌, take}
use Rattle.aig_circuit.specs.Edges.{nodes_of}
use Rattle.aig_edits.proofs.reducing.push_nodes.Given as goal

abbrev pub invariant-loop-e : goal.invariant-loop-e
invariant-loop-e l = l.nodes.items ≡ l.initial.nodes.items ++ nodes_of (take l.e-index l.edges)
