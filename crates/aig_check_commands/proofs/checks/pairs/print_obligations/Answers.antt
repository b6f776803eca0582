use Rattle.aig_check_commands.proofs.Words.{Err, refl}
use Rattle.aig_answers.specs.declared.goals.error.GoalFault.TheVariants as faults
use Rattle.aig_check_commands.proofs.check_lemmas.Outcomes.{error_printed, printed_on}
use Rattle.aig_check_commands.proofs.check_lemmas.Pairing.{joint_told, joint_unmade}
use Rattle.aig_check_commands.proofs.checks.pairs.print_obligations.Goals as goal

pub returns : goal.returns
returns g c =
    let a = c.args in
    let read = c.in-Ok.ensures.reads in (
      read.0,
      read.1,
      printed_on (λ x told. record {
        made = told.0;
        reads = joint_told g.S.Source.left g.S.Source.failed a.limit a.own a.optimize a.file
            a.certificate _ c.in-Ok.read.0 c.in-Ok.read.1 c.in-Ok.read.2 read.2 told.0 told.2;
        told = told.1;
      }) (λ x ends. ends) c.print_joint.ensures,
    )

pub returns-in-Err : goal.returns-in-Err
returns-in-Err g c =
    let a = c.args in
    let read = c.in-Err.ensures.reads in
    rw c.certified_error.ensures (
      read.0,
      read.1,
      error_printed _ (record {
        made = Err (faults.Subject c.in-Err.error);
        reads = joint_unmade g.S.Source.left g.S.Source.failed a.limit a.own a.optimize a.file
            a.certificate _ c.in-Err.error read.2;
        told = refl;
      }) refl,
    )
