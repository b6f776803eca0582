use Rattle.std.proofs.Common.{◌≡◌, ◌+◌, ◌≤◌, false, length, map, take, vec_capacity, vec_len}
use Rattle.aig_circuit.specs.Circuit.{latch_leaves}
use Rattle.aig_circuit.specs.Edge.{edge_to}
use Rattle.aig_answers.proofs.windows.leaf_edges.Given as goal

abbrev pub invariant-loop-latch : goal.invariant-loop-latch
invariant-loop-latch l =
    (l.edges.items ≡ map (λ n. edge_to n false) (latch_leaves (take l.latch-index l.latchs)))
    × (vec_len l.edges + length l.latchs ≤ vec_capacity l.edges + l.latch-index)
