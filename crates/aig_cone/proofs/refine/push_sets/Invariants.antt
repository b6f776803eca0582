use Rattle.aig_base.proofs.Words.{◌≡◌, ◌++◌, map, take, flat_map}
use Rattle.aig_circuit.specs.declared.edge.AigEdge.{AigEdge}
use Rattle.aig_cone.proofs.refine.push_sets.Given as goal

abbrev pub invariant-loop-set : goal.invariant-loop-set
invariant-loop-set l = l.roots.items ≡ l.initial.roots.items ++ map (λ (e : AigEdge). e.node_id) (flat_map (λ set. set.items) (take l.set-index l.sets))
