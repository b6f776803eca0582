use Rattle.aig_base.proofs.Words.{refl, err_from_is_err_and}
use Rattle.aig_witness.specs.Witness.{said_by, witness_text}
use Rattle.aig_check_commands.specs.declared.error.CheckError.TheVariants as errors
use Rattle.aig_check_commands.proofs.check_lemmas.Outcomes.{error_printed, text_printed}
use Rattle.aig_check_commands.proofs.checks.printing.print_solution.Goals as goal

pub returns-in_err-witness : goal.returns-in_err-witness
returns-in_err-witness g c =
    let p = err_from_is_err_and c.from_residual.result c.from_residual.ensures.1 in
    rw (p.1, p.2) (error_printed (errors.Solution c.in_err-witness.field-0.0)
    c.in_err-witness.ensures.refusal refl)

pub returns : goal.returns
returns g c =
    let w = said_by c.in_ok-witness.witness in
    let is = c.in_ok-witness.ensures in
    rw c.after_writing.ensures (text_printed c.write_witness.result (witness_text w) (record {
      witness = w;
      said = is.said;
      steps = is.steps;
      known = is.known;
      exact = refl;
    }) c.write_witness.ensures)
