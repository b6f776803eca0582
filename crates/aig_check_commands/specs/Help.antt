-- Part of what is promised.
-- What the program tells of itself.
use Rattle.std.specs.Prelude.{ℕ, List}
use Rattle.aig_command_line.specs.declared.help.Help.{Help}
use Rattle.aig_command_line.specs.declared.help.Help.TheVariants.{Usage, Version}
use Rattle.aig_check_commands.specs.declared.acting.TheConstants.{VERSION}
use Rattle.aig_check_commands.specs.declared.command.TheConstants.{USAGE}

-- the answer to a question
abbrev pub answer_of : Help → List ℕ
answer_of Usage = USAGE.now
answer_of Version = VERSION.now
