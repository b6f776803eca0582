use Rattle.aig_base.proofs.Words.{subst, sym, ◌∙◌, IfOk-weaker}
use Rattle.aig_circuit.proofs.Words.{lists_circuit}
use Rattle.aig_join.specs.Alike.{IsMiterFrom}
use Rattle.aig_join.specs.Miter.{HaveSameCounts}
use Rattle.aig_join.proofs.Unconstrained.{HaveSameCounts-unconstrained}
use Rattle.aig_join.proofs.constraints.miter_of_first.Goals as goal

pub miter_from-requires : goal.miter_from-requires
miter_from-requires c =
    subst (HaveSameCounts c.args.a.now) (sym (c.new.ensures ∙ c.in_ok-free.ensures.rest))
    (HaveSameCounts-unconstrained c.args.a.now c.args.b.now c.requires)

pub returns-clause-miter : goal.returns-clause-miter
returns-clause-miter c =
    IfOk-weaker c.miter_from.result _ _
    (λ lists miters. subst
    (λ b. IsMiterFrom c.args.starts c.args.a.now b (lists_circuit lists))
    (c.new.ensures ∙ c.in_ok-free.ensures.rest) miters) c.miter_from.ensures.miter
