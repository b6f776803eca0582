use Rattle.aig_base.proofs.Words.{map, string_bytes}
use Rattle.aig_tool_commands.proofs.Calling.{gives_exactly}
use Rattle.aig_tool_commands.proofs.command.parse.Goals as goal

pub returns-in_err-command : goal.returns-in_err-command
returns-in_err-command c =
    rw c.from_residual.ensures
    (record { exact = λ d. (λ is. cc, λ h. absurd (c.in_err-command.ensures.none d h.0 h.1)) })

pub returns : goal.returns
returns c =
    record {
      exact = gives_exactly (map string_bytes c.args.words.now) _ _
          c.in_ok-command.ensures.some;
    }
