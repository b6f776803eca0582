use Rattle.std.proofs.Common.{◌≡◌, ◌++◌, map, take}
use Rattle.aig_answers.proofs.Words.{inverse, unit_clauses}
use Rattle.aig_answers.proofs.clauses.push_inverses.Given as goal

abbrev pub invariant-loop-edge : goal.invariant-loop-edge
invariant-loop-edge l = l.extra ≡ l.initial.extra ++ unit_clauses (map inverse (take l.edge-index l.edges))
