use Rattle.aig_check_commands.proofs.Words.{Err, Ok, lists_circuit, pair_title, refl}
use Rattle.aig_check_commands.proofs.check_lemmas.Outcomes.{error_printed, text_printed}
use Rattle.aig_check_commands.proofs.check_lemmas.Pairing.{joint_refused, obligations_text, obliged_text}
use Rattle.aig_check_commands.proofs.checks.pairs.print_joint.Goals as goal

pub returns-in-Ok : goal.returns-in-Ok
returns-in-Ok g c =
    let a = c.args in
    let o = c.in-Ok.asked in
    let told = c.write_obligations.ensures in
    let text = obliged_text (pair_title a.optimize a.sum a.beside) o told.base told.step in
    let is = obligations_text a.optimize (lists_circuit a.joint) a.sum a.beside o told.base told.step
    c.in-Ok.ensures.1 told.base_has told.step_has told.base_formula told.step_formula in
    rw c.after_writing.ensures (text_printed c.write_obligations.result text
    (Ok text, refl, (c.in-Ok.ensures.0, is)) told.writes)

pub returns-in-Err : goal.returns-in-Err
returns-in-Err g c =
    let a = c.args in
    let e = c.in-Err.fault in
    rw c.certified_error.ensures (error_printed _ (
      Err e,
      refl,
      joint_refused a.limit a.optimize (lists_circuit a.joint) a.sum a.beside e c.in-Err.ensures,
    ) refl)
