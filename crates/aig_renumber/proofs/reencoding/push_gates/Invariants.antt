use Rattle.aig_base.proofs.Words.{◌≡◌, ◌++◌, take, filter_map}
use Rattle.aig_circuit.specs.Reencode.{gate_number}
use Rattle.aig_renumber.proofs.reencoding.push_gates.Given as goal

abbrev pub invariant-loop-node : goal.invariant-loop-node
invariant-loop-node l = l.order.items ≡ l.initial.order.items ++ filter_map gate_number (take l.node-index l.nodes)
