use Rattle.aig_base.proofs.Words.{arith, err_from_is_err_and}
use Rattle.aig_check_commands.proofs.Words.{refl}
use Rattle.aig_check_commands.specs.Simulating.{simulated_line}
use Rattle.aig_check_commands.specs.declared.error.CheckError.TheVariants as errors
use Rattle.aig_check_commands.proofs.check_lemmas.Outcomes.{error_printed, text_printed}
use Rattle.aig_check_commands.proofs.check_lemmas.Simulating.{simulated_answered, simulated_refused}
use Rattle.aig_check_commands.proofs.checks.simulated.print_simulated.Goals as goal

pub returns-in_err-check_simulated : goal.returns-in_err-check_simulated
returns-in_err-check_simulated g c =
    let p = err_from_is_err_and c.from_residual.result c.from_residual.ensures.1 in
    let a = c.args in
    let told = c.in_err-check_simulated.ensures in
    let e = c.in_err-check_simulated.field-0.0 in
    rw (p.1, p.2) (error_printed (errors.Simulation e) (simulated_refused g.R.Source.left
    g.R.Source.failed g.S.Source.left g.S.Source.failed g.P.Source.left g.P.Source.failed a.limit
    a.own a.optimize _ _ _ _ _ _ e told.reads told.unread told.stream) refl)

pub write_file-requires : goal.write_file-requires
write_file-requires g c = omega arith

pub returns : goal.returns
returns g c =
    let a = c.args in
    rw c.after_writing.ensures (text_printed c.write_file.result (simulated_line a.own)
    (simulated_answered g.R.Source.left g.R.Source.failed g.S.Source.left g.S.Source.failed
    g.P.Source.left g.P.Source.failed a.limit a.own a.optimize _ _ _ _ _ _
    c.in_ok-check_simulated.ensures.reads) c.write_file.ensures)
