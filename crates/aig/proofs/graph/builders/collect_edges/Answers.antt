use Rattle.std.proofs.Common.{sym, ◌∙◌}
use Rattle.std.proofs.iter.runs.Made.{run_of_exit}
use Rattle.aig.proofs.graph.builders.collect_edges.Goals as goal

pub returns : goal.returns
returns g c =
    let run = run_of_exit g.I.IntoIter.Iterator.next_gives c.into_iter-e-iterator.result c.loop-e.yielded c.loop-e.e-iterator c.loop-e.yielded_by c.next.new.self c.in-None.ensures.steps in
    (c.into_iter-e-iterator.result, c.into_iter-e-iterator.ensures.into_iter_gives, (run.0, run.1, run.2, c.loop-e.invariant ∙ sym run.3.0))
