use Rattle.aig_base.proofs.Words.{◌≡◌, ◌-◌, ◌^◌, ◌++◌, List, ap, flat_map, sym, subst, ◌∙◌}
use Rattle.aig_base.specs.declared.logic.literal.Lit.{Lit}
use Rattle.aig_base.specs.Clauses.{AreBelow}
use Rattle.aig_runs.specs.Queries.{start_clauses}
use Rattle.aig_steps.specs.Stepwise.{initial_clauses}
use Rattle.aig_steps.specs.Unrolling.{IsStepped, SteppedCircuit}
use Rattle.aig_steps.proofs.Kept.{initials_below}
use Rattle.aig_steps.proofs.unrolling.Unrolling.initial_clauses.Goals as goal

-- the clauses that were pushed are those of initial values
whole : (c : goal.In_ok-push_starts)
    → c.push_starts.new.extra ≡ initial_clauses c.args.self.now.circuit
whole c =
    c.in_ok-push_starts.ensures
    ∙ ap (λ cs. cs ++ flat_map start_clauses c.latchs.result.now) c.new-clauses.ensures
    ∙ ap (flat_map start_clauses)
    (c.latchs.ensures.value ∙ ap (λ (s : SteppedCircuit). s.circuit.latchs) c.self.view_is)

pub returns-clause-below : goal.returns-clause-below
returns-clause-below c = subst (λ (cs : List (List Lit)). AreBelow (2 ^ 31 - 1) cs) (sym (whole c))
    (initials_below c.args.self.now (subst IsStepped c.self.view_is c.self.invariant.stepped))
