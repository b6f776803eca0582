use Rattle.std.proofs.Common.{ℕ, ◌<◌}
use Rattle.aig_witness_circuits.proofs.Words.{IsMarked, IsAtRest}
use Rattle.aig_witness_circuits.proofs.circles.has_circle.Given as goal

abbrev pub invariant-loop-start : goal.invariant-loop-start
invariant-loop-start l = record {
  rest : IsAtRest l.nodes l.resets l.search;
  opened : (n : ℕ) → n < l.start → IsMarked l.search.opened.items n;
}
