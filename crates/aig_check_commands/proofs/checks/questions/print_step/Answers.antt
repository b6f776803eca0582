use Rattle.aig_check_commands.proofs.Words.{◌≤◌, ℕ, arith, err_from_is_err_and, length, refl, subst, Circuit, lists_circuit, IsQuestionText, IsTextOf, Printed, asked_with}
use Rattle.aig_answers.specs.declared.plans.asking.Ask.TheVariants as asks
use Rattle.aig_unroll.specs.Places.{unrolled_size}
use Rattle.aig_check_commands.specs.declared.error.CheckError.TheVariants as errors
use Rattle.aig_check_commands.proofs.check_lemmas.Outcomes.{error_printed}
use Rattle.aig_check_commands.proofs.checks.questions.print_step.Goals as goal

pub returns-in_err-asked : goal.returns-in_err-asked
returns-in_err-asked g c =
    let p = err_from_is_err_and c.from_residual.result c.from_residual.ensures.1 in
    rw (p.1, p.2) (error_printed errors.Memory refl refl)

pub print_query-requires-clause-few : goal.print_query-requires-clause-few
print_query-requires-clause-few g c =
    let u = c.in_ok-asked.asked in
    let is = c.in_ok-asked.ensures in
    let m = lists_circuit c.args.circuit in
    let size = subst (λ (d : Circuit). length u.unrolled.nodes ≤ unrolled_size d u.steps) is.circuit
    is.is.steps.size in
    let sized = subst (λ n. length u.unrolled.nodes ≤ unrolled_size m n) is.steps size in
    omega (arith, sized, c.requires.room)

pub print_query-requires-clause-small : goal.print_query-requires-clause-small
print_query-requires-clause-small g c =
    omega (arith, c.in_ok-asked.ensures.steps, c.requires.small)

pub returns : goal.returns
returns g c =
    let a = c.args in
    let is = c.in_ok-asked.ensures in
    let text = λ (d : Circuit) (k : ℕ). Printed g.W.Sink.held g.W.Sink.failed
    (IsTextOf (IsQuestionText (asked_with a.optimize (asks.Step k)) d a.sum)) a.w.now
    c.print_query.result c.print_query.new.w in
    subst (λ k. text (lists_circuit a.circuit) k) is.steps
    (subst (λ d. text d c.in_ok-asked.asked.steps) is.circuit c.print_query.ensures)
