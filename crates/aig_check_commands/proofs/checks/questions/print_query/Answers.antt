use Rattle.aig_check_commands.proofs.Words.{refl, err_from_is_err_and, length, asked_with, formula_of, clauses_with, title_of}
use Rattle.aig_answers.specs.declared.plans.asking.Ask.TheVariants as asks
use Rattle.aig_check_commands.specs.Comments.{comments_of}
use Rattle.aig_check_commands.specs.declared.error.CheckError.TheVariants as errors
use Rattle.aig_check_commands.proofs.line_lemmas.Commenting.{query_again}
use Rattle.aig_check_commands.proofs.check_lemmas.Outcomes.{error_printed, text_printed}
use Rattle.aig_check_commands.proofs.checks.questions.print_query.Goals as goal

pub returns-in_err-places : goal.returns-in_err-places
returns-in_err-places g c =
    let p = err_from_is_err_and c.from_residual.result c.from_residual.ensures.1 in
    rw (p.1, p.2) (error_printed errors.Memory refl refl)

pub returns-in_err-parts : goal.returns-in_err-parts
returns-in_err-parts g c =
    let p = err_from_is_err_and c.from_residual-in_err-parts.result
    c.from_residual-in_err-parts.ensures.1 in
    rw (p.1, p.2) (error_printed errors.Memory refl refl)

pub returns : goal.returns
returns g c =
    let u = c.args.asked.now in
    let t = title_of (asked_with c.args.optimize (asks.Step u.steps)) c.args.sum in
    let told = rw (c.title_of-title.ensures, c.asked_with.ensures, c.steps.ensures.value) at
    c.write_query.ensures in
    let made = clauses_with told.lists c.in_ok-parts.parts.extra in
    rw c.after_writing.ensures (text_printed c.write_query.result _ (record {
      comments = comments_of u.circuit u.unrolled u.steps;
      made = made;
      printed = (u.unrolled, c.in_ok-parts.ensures.asks told.lists told.has, refl);
      exact = refl;
      again = query_again t u.circuit u.unrolled u.steps (length told.lists) (formula_of made)
          told.formula;
    }) told.writes)
