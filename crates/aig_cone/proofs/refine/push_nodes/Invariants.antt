use Rattle.std.proofs.Common.{◌≡◌, ◌++◌, map, take}
use Rattle.aig_circuit.specs.declared.edge.AigEdge.{AigEdge}
use Rattle.aig_cone.proofs.refine.push_nodes.Given as goal

abbrev pub invariant-loop-e : goal.invariant-loop-e
invariant-loop-e l = l.roots.items ≡ l.initial.roots.items ++ map (λ (e : AigEdge). e.node_id) (take l.e-index l.edges)
