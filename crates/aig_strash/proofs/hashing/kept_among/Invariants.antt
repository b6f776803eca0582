use Rattle.aig_base.proofs.Words.{◌≡◌, List, map, take, filter}
use Rattle.aig_circuit.specs.declared.node.AigNode.{AigNode}
use Rattle.aig_circuit.specs.Circuit.{AreNodes}
use Rattle.aig_strash.specs.Exchange.{image_of, is_representative, node_numbers}
use Rattle.aig_strash.proofs.hashing.kept_among.Given as goal

abbrev pub invariant-loop-n : goal.invariant-loop-n
invariant-loop-n l = (nodes : List AigNode) → AreNodes nodes → l.numbers ≡ map (image_of nodes) (node_numbers nodes) → l.kept.items ≡ filter (is_representative nodes) (take l.n (node_numbers nodes))
