use Rattle.std.proofs.Common.{◌≡◌}
use Rattle.aig.proofs.graph.builders.collect_edges.Given as goal

abbrev pub invariant-loop-e : goal.invariant-loop-e
invariant-loop-e g l = l.items.items ≡ l.yielded
