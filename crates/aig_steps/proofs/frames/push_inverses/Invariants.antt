use Rattle.aig_base.proofs.Words.{◌≡◌, ◌++◌, map, take}
use Rattle.aig_circuit.specs.Edge.{inverse}
use Rattle.aig_runs.specs.Queries.{unit_clauses}
use Rattle.aig_steps.proofs.frames.push_inverses.Given as goal

abbrev pub invariant-loop-edge : goal.invariant-loop-edge
invariant-loop-edge l =
    l.clauses ≡ l.initial.clauses ++ unit_clauses (map inverse (take l.edge-index l.edges))
