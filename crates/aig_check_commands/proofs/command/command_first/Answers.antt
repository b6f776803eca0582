use Rattle.aig_base.proofs.Words.{map, string_bytes}
use Rattle.aig_check_commands.proofs.Calling.{neither_if}
use Rattle.aig_check_commands.proofs.command.command_first.Goals as goal

pub returns-in-None-clause-none : goal.returns-in-None-clause-none
returns-in-None-clause-none c =
    neither_if (map string_bytes c.args.words.now) c.in_default.ensures.none c.in-None.ensures.none
    c.witness_command.result c.witness_command.ensures.none
