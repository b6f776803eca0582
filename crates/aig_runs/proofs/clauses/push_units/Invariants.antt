use Rattle.std.proofs.Common.{◌≡◌, ◌++◌, take}
use Rattle.aig_runs.specs.Queries.{unit_clauses}
use Rattle.aig_runs.proofs.clauses.push_units.Given as goal

abbrev pub invariant-loop-edge : goal.invariant-loop-edge
invariant-loop-edge l = l.extra ≡ l.initial.extra ++ unit_clauses (take l.edge-index l.edges)
