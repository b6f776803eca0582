use Rattle.aig_base.proofs.Words.{map, string_bytes}
use Rattle.aig_check_commands.proofs.Calling.{gives_exactly}
use Rattle.aig_check_commands.proofs.command.parse.Goals as goal

pub returns-in_err-call_of-clause-exact : goal.returns-in_err-call_of-clause-exact
returns-in_err-call_of-clause-exact c =
    rw c.from_residual.ensures
    (λ d. (λ is. cc, λ h. absurd (c.in_err-call_of.ensures.none h.0 d h.1 h.2 h.3)))

pub returns-clause-exact : goal.returns-clause-exact
returns-clause-exact c =
    gives_exactly (map string_bytes c.args.words.now) _ _ _ _ c.in_ok-call_of.ensures.some
