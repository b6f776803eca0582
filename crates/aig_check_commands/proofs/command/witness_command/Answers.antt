use Rattle.aig_base.proofs.Words.{map, string_bytes}
use Rattle.aig_check_commands.proofs.Calling.{unnamed_none}
use Rattle.aig_check_commands.proofs.command.witness_command.Goals as goal

pub returns-in_err-condition-in-Obligations-clause-none :
    goal.returns-in_err-condition-in-Obligations-clause-none
returns-in_err-condition-in-Obligations-clause-none c =
    rw c.from_residual-in_err-condition-in-Obligations.ensures
    (unnamed_none (map string_bytes c.args.words.now) _
    (rw c.in-Obligations.is at c.in_ok-action.ensures.some)
    c.in_err-condition-in-Obligations.ensures.none)
