use Rattle.aig_base.proofs.Words.{length, ◌-◌, ◌≤◌, take, Appends}
use Rattle.aig_output.proofs.put.put_all.Given as goal

abbrev pub invariant-loop-at : goal.invariant-loop-at
invariant-loop-at g l = record {
  within : l.at ≤ length l.text;
  so_far : Appends (g.W.Sink.held l.fn.w) (g.W.Sink.held l.w) (take l.at l.text);
}

abbrev pub decreases-loop-at : goal.decreases-loop-at
decreases-loop-at g l = length l.text - l.at
