use Rattle.std.proofs.Common.{◌≡◌, ◌++◌, take}
use Rattle.aig_circuit.specs.PropLists.{edges_of, with_edges}
use Rattle.aig_handles.proofs.lists.push_edges.Given as goal

abbrev pub invariant-loop-e : goal.invariant-loop-e
invariant-loop-e l =
    l.aig ≡ with_edges l.list l.fn.aig (edges_of l.list l.fn.aig ++ take l.e-index l.edges)
