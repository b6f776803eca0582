use Rattle.aig_check_commands.proofs.Words.{refl}
use Rattle.aig_witness_circuit_checks.specs.Simulated.{question_in}
use Rattle.aig_check_commands.proofs.check_lemmas.Outcomes.{error_printed, text_printed}
use Rattle.aig_check_commands.proofs.check_lemmas.Simulating.{is_obligation_text, obligation_text}
use Rattle.aig_check_commands.proofs.checks.simulated.print_claim.Goals as goal

pub returns-in-Ok : goal.returns-in-Ok
returns-in-Ok g c =
    let a = c.args in
    let o = c.in-Ok.asked in
    let told = c.write_obligation.ensures in
    rw c.after_writing.ensures (text_printed c.write_obligation.result
    (obligation_text a.condition a.optimize a.sum a.beside o told.lists)
    (is_obligation_text a.condition a.optimize a.limit (question_in a.condition a.claim.now) a.sum
    a.beside o told.lists told.has told.formula c.in-Ok.ensures.makes) told.writes)

pub returns-in-Err : goal.returns-in-Err
returns-in-Err g c =
    error_printed _ (c.in-Err.error, refl, c.in-Err.ensures.makes) refl
