use Rattle.aig_base.proofs.Words.{map, string_bytes}
use Rattle.aig_check_commands.proofs.Calling.{no_property}
use Rattle.aig_check_commands.proofs.file_subjects.property_first.Goals as goal

pub returns-in_err-number-clause-none : goal.returns-in_err-number-clause-none
returns-in_err-number-clause-none c =
    rw c.from_residual.ensures (no_property (map string_bytes c.args.words.now)
    c.in_err-number.ensures.none)
