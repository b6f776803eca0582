use Rattle.aig_answers.proofs.Planning.{KnownOfFiles, plan_closes, window_closes}
use Rattle.aig_answers.proofs.plans.laws.covering_plans_are_safe.Goals as goal

pub returns-clause-window : goal.returns-clause-window
returns-clause-window c =
    let known : KnownOfFiles = record {
      machines = c.safe_circuits_are_safe_machines.ensures;
      steps = c.safe_steps_are_safe.ensures;
      inductive = c.inductive_windows_are_safe.ensures;
    } in
    window_closes known

pub returns-clause-plan : goal.returns-clause-plan
returns-clause-plan c =
    let known : KnownOfFiles = record {
      machines = c.safe_circuits_are_safe_machines.ensures;
      steps = c.safe_steps_are_safe.ensures;
      inductive = c.inductive_windows_are_safe.ensures;
    } in
    plan_closes known
