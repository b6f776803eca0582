use Rattle.aig_answers.specs.Plans.{AreTaken, AreUnread}
use Rattle.aig_answers.proofs.plans.checking.check_first.Given as goal

abbrev pub invariant-loop-index : goal.invariant-loop-index
invariant-loop-index g l = record {
  taken : AreTaken g.P.Source.left g.P.Source.failed l.limit l.plan l.circuit l.initial.proofs
      l.proofs l.index;
  unread : AreUnread l.initial.proofs l.proofs l.index;
}
