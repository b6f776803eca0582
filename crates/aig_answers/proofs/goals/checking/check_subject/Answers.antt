use Rattle.aig_answers.proofs.Words.{Err, Ok, ap, err_from_is_err_and, length, refl, subst, sym, ◌∙◌, lists_circuit}
use Rattle.aig_answers.specs.Plans.{ChecksCircuit, Holds}
use Rattle.aig_answers.specs.declared.goals.error.GoalFault.TheVariants as faults
use Rattle.aig_answers.proofs.GoalFiles.{goal_told, subject_refused}
use Rattle.aig_answers.proofs.Showing.{Known, goal_shown, plan_asked, plan_length}
use Rattle.aig_answers.proofs.goals.checking.check_subject.Goals as goal

pub returns-in_err-circuit : goal.returns-in_err-circuit
returns-in_err-circuit g c =
    let p = err_from_is_err_and c.from_residual.result c.from_residual.ensures.1 in
    let a = c.args in
    rw (p.1, p.2) (subject_refused g.S.Source.left g.S.Source.failed g.P.Source.left
    g.P.Source.failed a.limit a.subject a.goal a.base_optimize a.step_optimize a.files.now _
    a.proofs.now a.proofs.now c.in_err-circuit.field-0.0 c.in_err-circuit.ensures.reads refl)

pub returns-in_err-plan : goal.returns-in_err-plan
returns-in_err-plan g c =
    let p = err_from_is_err_and c.from_residual-in_err-plan.result
    c.from_residual-in_err-plan.ensures.1 in
    let a = c.args in
    rw (p.1, p.2) (goal_told g.S.Source.left g.S.Source.failed g.P.Source.left g.P.Source.failed
    a.limit a.subject a.goal a.base_optimize a.step_optimize a.files.now _ a.proofs.now a.proofs.now
    c.in_ok-circuit.circuit (Err faults.Memory) c.in_ok-circuit.ensures.reads refl tt (λ is. refl)
    (λ files are is. (lists_circuit c.in_ok-circuit.circuit, is)))

pub check_circuit-requires-clause-asked : goal.check_circuit-requires-clause-asked
check_circuit-requires-clause-asked g c =
    let a = c.args in
    let is = c.as_slice.ensures.value ∙ c.in_ok-plan.ensures in
    rw is (plan_asked a.limit a.goal a.base_optimize a.step_optimize
    (lists_circuit c.in_ok-circuit.circuit) c.requires.some c.requires.small
    c.in_ok-circuit.ensures.ready)

pub check_circuit-requires-clause-each : goal.check_circuit-requires-clause-each
check_circuit-requires-clause-each g c =
    let a = c.args in
    let is = c.as_slice.ensures.value ∙ c.in_ok-plan.ensures in
    c.requires.proofs ∙ sym (ap length is ∙ plan_length a.goal a.base_optimize a.step_optimize)

pub returns-in_err-check_circuit : goal.returns-in_err-check_circuit
returns-in_err-check_circuit g c =
    let p = err_from_is_err_and c.from_residual-in_err-check_circuit.result
    c.from_residual-in_err-check_circuit.ensures.1 in
    let a = c.args in
    let is = c.as_slice.ensures.value ∙ c.in_ok-plan.ensures in
    let m = lists_circuit c.in_ok-circuit.circuit in
    let e = c.in_err-check_circuit.field-0.0 in
    let others = c.check_circuit.new.proofs in
    let checks = subst (λ plan. ChecksCircuit g.P.Source.left g.P.Source.failed a.limit plan m
    a.proofs.now others (Err e)) is c.in_err-check_circuit.ensures.checks in
    rw (p.1, p.2) (goal_told g.S.Source.left g.S.Source.failed g.P.Source.left g.P.Source.failed
    a.limit a.subject a.goal a.base_optimize a.step_optimize a.files.now _ a.proofs.now others
    c.in_ok-circuit.circuit (Err (faults.Plan e)) c.in_ok-circuit.ensures.reads refl tt
    (λ none. absurd none) (λ files are of. (m, of, checks)))

pub returns : goal.returns
returns g c =
    let a = c.args in
    let is = c.as_slice.ensures.value ∙ c.in_ok-plan.ensures in
    let m = lists_circuit c.in_ok-circuit.circuit in
    let others = c.check_circuit.new.proofs in
    let known : Known = record {
      steps = c.safe_steps_are_safe.ensures;
      inductive = c.inductive_windows_are_safe.ensures;
      covering = c.covering_plans_are_safe.ensures.plan;
      to = c.command_plans_cover.ensures.to;
      each = c.command_plans_cover.ensures.each;
      of_files = c.subjects_are_of_files.ensures;
      step_shows = c.safe_subjects_show.ensures.step;
      exact = c.safe_subjects_show.ensures.exact;
      always = c.safe_subjects_show.ensures.always;
    } in
    let holds = rw is at c.in_ok-check_circuit.ensures.holds in
    let checks = subst (λ plan. ChecksCircuit g.P.Source.left g.P.Source.failed a.limit plan m
    a.proofs.now others (Ok tt)) is c.in_ok-check_circuit.ensures.checks in
    goal_told g.S.Source.left g.S.Source.failed g.P.Source.left g.P.Source.failed a.limit a.subject
    a.goal a.base_optimize a.step_optimize a.files.now _ a.proofs.now others
    c.in_ok-circuit.circuit (Ok tt) c.in_ok-circuit.ensures.reads refl tt tt
    (λ files are of. (
      goal_shown known a.limit c.requires.few a.base_optimize a.step_optimize a.subject files m are of
          a.goal holds,
      (m, of, checks),
    ))
