use Rattle.aig_base.proofs.Words.{refl, err_from_is_err_and}
use Rattle.aig_witness.specs.Witness.{said_by, witness_text}
use Rattle.aig_check_commands.specs.declared.error.CheckError.TheVariants as errors
use Rattle.aig_check_commands.proofs.check_lemmas.Outcomes.{answer_ends, read_again, refused, refuses_bounded, tells_of_answer}
use Rattle.aig_check_commands.proofs.checks.bounded.print_witness_to.Goals as goal

pub returns-in_err-witness : goal.returns-in_err-witness
returns-in_err-witness g c =
    let p = err_from_is_err_and c.from_residual.result c.from_residual.ensures.1 in
    let told = c.in_err-witness.ensures in
    let e = c.in_err-witness.field-0.0 in
    rw (p.1, p.2) (refused (errors.Bounded e) told.verdict told.own refl
    (λ alone. told.unread (refuses_bounded e alone))
    (tells_of_answer c.args.k c.args.limit c.args.optimize _ _ _ _ e told.own told.refusal
    told.large))

pub returns : goal.returns
returns g c =
    let told = c.in_ok-witness.ensures in
    let witness = said_by c.in_ok-witness.witness in
    rw c.after_writing.ensures (answer_ends c.write_witness.result (witness_text witness)
    told.verdict
    (read_again told.answer (λ bytes f holds shown. record {
      witness = witness;
      steps = shown.1;
      shows = shown.0;
      exact = refl;
      said = shown.2;
    })) c.write_witness.ensures)
