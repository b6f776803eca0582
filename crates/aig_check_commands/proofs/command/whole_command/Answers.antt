use Rattle.aig_base.proofs.Words.{map, string_bytes}
use Rattle.aig_check_commands.proofs.Calling.{whole_none}
use Rattle.aig_check_commands.proofs.command.whole_command.Goals as goal

pub returns-in_err-action-clause-none : goal.returns-in_err-action-clause-none
returns-in_err-action-clause-none c =
    rw c.from_residual.ensures (whole_none (map string_bytes c.args.words.now)
    c.in_err-action.ensures.none)
