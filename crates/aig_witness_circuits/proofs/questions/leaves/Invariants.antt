use Rattle.std.proofs.Common.{◌≡◌, map, take}
use Rattle.std.specs.Prelude.{filter}
use Rattle.aig_circuit.specs.declared.node.AigNode.{AigNode}
use Rattle.aig_circuit.specs.Runs.{is_leaf}
use Rattle.aig_witness_circuits.proofs.questions.leaves.Given as goal

abbrev pub invariant-loop-node : goal.invariant-loop-node
invariant-loop-node l =
    l.leaves.items
    ≡ map (λ (x : AigNode). x.node_id)
    (filter (λ (x : AigNode). is_leaf x.typ) (take l.node-index l.nodes))
