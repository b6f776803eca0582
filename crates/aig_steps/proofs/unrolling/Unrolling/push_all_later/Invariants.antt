use Rattle.aig_base.proofs.Words.{◌≡◌, ◌++◌}
use Rattle.aig_steps.specs.Ends.{all_later}
use Rattle.aig_steps.proofs.unrolling.Unrolling.push_all_later.Given as goal

abbrev pub invariant-loop-s : goal.invariant-loop-s
invariant-loop-s l = l.clauses ≡ l.initial.clauses ++ all_later l.self.circuit l.s
