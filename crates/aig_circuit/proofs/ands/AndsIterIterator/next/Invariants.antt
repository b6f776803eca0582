use Rattle.std.proofs.Common.{◌≡◌, length}
use Rattle.aig_circuit.specs.Node.{gates_of}
use Rattle.aig_circuit.proofs.ands.AndsIterIterator.next.Given as goal

abbrev pub invariant-loop-node : goal.invariant-loop-node
invariant-loop-node l = gates_of l.self-inside.nodes.now ≡ gates_of l.initial.self-inside.nodes.now

abbrev pub decreases-loop-node : goal.decreases-loop-node
decreases-loop-node l = length l.self-inside.nodes.now
