use Rattle.aig_answers.proofs.Words.{IfOk, ap, subst, ◌∙◌, Circuit, Simulation, rows_of, IsReached}
use Rattle.aig_answers.proofs.bounded_checks.simulating.find_bad.Goals as goal

pub returns : goal.returns
returns c =
    let r = c.simulate_to_bad.result in
    let rows = ap rows_of c.deref-2.ensures.value in
    let state = ap (λ (s : Simulation). s.state) c.new-simulator.ensures ∙ c.in_ok-state.ensures.items ∙ c.deref.ensures.value in
    subst (λ (d : Circuit). IfOk r (IsReached d c.args.run.now.state.items (rows_of c.args.run.now.steps.items))) c.new-2.ensures
    (subst (λ s. IfOk r (IsReached c.new-2.result s (rows_of c.args.run.now.steps.items))) state
    (subst (λ rs. IfOk r (IsReached c.new-2.result c.new-simulator.result.state rs)) rows c.simulate_to_bad.ensures))
