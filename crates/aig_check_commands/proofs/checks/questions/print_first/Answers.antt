use Rattle.aig_check_commands.proofs.Words.{refl, inr, asked_with, clauses_only, title_of}
use Rattle.aig_answers.specs.declared.plans.asking.Ask.TheVariants as asks
use Rattle.aig_check_commands.specs.Bounded.{bounded_comments}
use Rattle.aig_check_commands.proofs.line_lemmas.Commenting.{bounded_again}
use Rattle.aig_check_commands.proofs.check_lemmas.Outcomes.{error_printed, text_printed}
use Rattle.aig_check_commands.proofs.line_lemmas.Placing.{inputs_few}
use Rattle.aig_check_commands.proofs.check_lemmas.Questioning.{has_none}
use Rattle.aig_check_commands.proofs.checks.questions.print_first.Goals as goal

pub write_bounded-requires-clause-few : goal.write_bounded-requires-clause-few
write_bounded-requires-clause-few g c =
    inputs_few c.args.circuit.now c.args.k c.args.optimize c.in-Ok.made c.in-Ok.ensures.asks
    c.tell_formula.ensures.few

pub returns-in-Ok : goal.returns-in-Ok
returns-in-Ok g c =
    let made = c.in-Ok.made in
    let t = title_of (asked_with c.args.optimize (asks.UpTo c.args.k)) c.args.sum in
    let told = rw (c.title_of.ensures, c.asked_with-question.ensures) at c.write_bounded.ensures in
    rw c.after_writing.ensures (text_printed c.write_bounded.result _ (record {
      comments = bounded_comments made;
      made = clauses_only made;
      printed = (made, c.in-Ok.ensures.asks, refl, refl);
      exact = refl;
      again = bounded_again t made c.tell_formula.ensures.formula;
    }) told)

pub returns-in-Err : goal.returns-in-Err
returns-in-Err g c =
    let e = c.in-Err.error in
    rw (c.clauses_error.ensures, c.asked_with-question.ensures) (error_printed _
    (inr (e, refl, has_none c.args.limit c.args.k c.args.circuit.now e c.in-Err.ensures.large))
    refl)
