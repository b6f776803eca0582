use Rattle.std.proofs.Common.{take, map}
use Rattle.aig_held.specs.Moments.{AreOf, simulation_then}
use Rattle.aig_held.proofs.Moving.{AreAfter}
use Rattle.aig_held.proofs.stepping.steps.Given as goal

abbrev pub invariant-loop-row : goal.invariant-loop-row
invariant-loop-row l =
    let rows = map (λ row. row.items) (take l.row-index l.rows) in
    AreAfter l.e (simulation_then l.aig l.fn.first) l.fn.answers.items rows
    (simulation_then l.aig l.now) l.answers.items
    × AreOf l.aig l.now.state.items l.now.values.items
