use Rattle.aig_check_commands.proofs.Words.{Err, err_from_is_err_and, refl, file_on, TellsOfClauses, IsMadeOwn, made_verdict}
use Rattle.aig_check_commands.specs.declared.error.CheckError.TheVariants as errors
use Rattle.aig_check_commands.proofs.check_lemmas.Outcomes.{error_printed, printed_on}
use Rattle.aig_check_commands.proofs.check_lemmas.Questioning.{question_told}
use Rattle.aig_check_commands.proofs.checks.questions.print_question.Goals as goal

pub returns-in_err-circuit : goal.returns-in_err-circuit
returns-in_err-circuit g c =
    let p = err_from_is_err_and c.from_residual.result c.from_residual.ensures.1 in
    let a = c.args in
    let told = c.in_err-circuit.ensures.reads in
    let e = errors.Unmade c.in_err-circuit.field-0.0 in
    rw (p.1, p.2) (
      told.0,
      error_printed e (file_on g.R.Source.left g.R.Source.failed a.limit a.r told.0
          (TellsOfClauses a.limit a.subject a.question (g.R.Source.left a.r)) made_verdict IsMadeOwn
          (Err e) told.1 refl told.1.own (λ f fits gives. gives)) refl,
    )

pub returns : goal.returns
returns g c =
    let a = c.args in
    let told = c.in_ok-circuit.ensures.reads in (
      told.0,
      printed_on (question_told g.R.Source.left g.R.Source.failed a.limit a.subject a.question a.r
          told.0 c.in_ok-circuit.circuit c.in_ok-circuit.sum told.1)
          (λ x ends. ends) c.print_asked.ensures,
    )
