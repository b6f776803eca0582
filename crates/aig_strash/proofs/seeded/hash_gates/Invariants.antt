use Rattle.std.proofs.Common.{◌≤◌}
use Rattle.aig_strash.proofs.seeded.hash_gates.Given as goal

abbrev pub invariant-loop-node : goal.invariant-loop-node
invariant-loop-node l = l.count ≤ l.node-index
