use Rattle.aig_base.proofs.Words.{◌≤◌, ◌-◌, length, take, Consumes}
use Rattle.aig_lexer.proofs.buffer.pull_front.Given as goal

abbrev pub invariant-loop-end : goal.invariant-loop-end
invariant-loop-end g l = record {
  bound : l.end ≤ l.count;
  room : l.count ≤ length l.bytes;
  moved : Consumes (g.R.Source.left l.fn.r) (g.R.Source.left l.r) (take l.end l.bytes);
}

abbrev pub decreases-loop-end : goal.decreases-loop-end
decreases-loop-end g l = l.count - l.end
