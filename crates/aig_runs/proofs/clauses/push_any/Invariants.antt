use Rattle.std.proofs.Common.{◌≡◌, ◌+◌, ◌≤◌, length, map, take, vec_capacity, vec_len}
use Rattle.aig_circuit.specs.Edge.{lit_of}
use Rattle.aig_runs.proofs.clauses.push_any.Given as goal

abbrev pub invariant-loop-edge : goal.invariant-loop-edge
invariant-loop-edge l =
    (l.clause.items ≡ map lit_of (take l.edge-index l.edges))
    × (vec_len l.clause + length l.edges ≤ vec_capacity l.clause + l.edge-index)
