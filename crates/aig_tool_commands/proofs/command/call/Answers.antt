use Rattle.aig_base.proofs.Words.{map, string_bytes}
use Rattle.aig_command_line.specs.Arguments.{Arguments, GivesArguments}
use Rattle.aig_tool_commands.specs.CommandWords.{form_of, name_of}
use Rattle.aig_tool_commands.proofs.Calling.{each}
use Rattle.aig_tool_commands.proofs.command.call.Goals as goal

pub returns-in_err-action-clause-none : goal.returns-in_err-action-clause-none
returns-in_err-action-clause-none c =
    let none = c.in_err-action.ensures.none in
    rw c.from_residual.ensures
    (λ d paths g. each
    (λ a. (x : Arguments)
    → ¬ GivesArguments (name_of a) (form_of a) (map string_bytes c.args.words.now) x) none g.action
    g.arguments g.gives)
