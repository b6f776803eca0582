use Rattle.aig_base.proofs.Words.{◌≡◌, ◌-◌, ◌^◌, ◌++◌, List, ap, sym, subst, ◌∙◌}
use Rattle.aig_base.specs.declared.logic.literal.Lit.{Lit}
use Rattle.aig_base.specs.Clauses.{AreBelow}
use Rattle.aig_steps.specs.Ends.{first_clauses, later_clauses}
use Rattle.aig_steps.specs.Stepwise.{step_clauses}
use Rattle.aig_steps.proofs.Ends.{first_is}
use Rattle.aig_steps.proofs.Kept.{steps_below}
use Rattle.aig_steps.proofs.unrolling.Unrolling.step_clauses.Goals as goal

-- the clauses that were pushed are those of the step
whole : (c : goal.In_ok-push_later)
    → c.push_later.new.clauses ≡ step_clauses c.args.self.now.circuit c.args.step
whole c =
    let circuit = c.args.self.now.circuit in
    c.in_ok-push_later.ensures.clauses
    ∙ ap (λ cs. cs ++ later_clauses circuit c.args.step) (c.in_ok-push_false.ensures
    ∙ ap (λ cs. cs ++ first_clauses c.args.step) c.new-clauses.ensures)
    ∙ sym (first_is circuit c.in_ok-push_later.ensures.stepped.circuit c.args.step)

pub returns-clause-clauses : goal.returns-clause-clauses
returns-clause-clauses = whole

pub returns-clause-below : goal.returns-clause-below
returns-clause-below c = subst (λ (cs : List (List Lit)). AreBelow (2 ^ 31 - 1) cs) (sym (whole c))
    (steps_below c.args.self.now c.in_ok-push_later.ensures.stepped c.args.step c.requires)
