use Rattle.aig_edit_commands.proofs.command.Action.command.Goals as goal

pub returns-in_err-counted-in-Rounds-clause-none :
    goal.returns-in_err-counted-in-Rounds-clause-none
returns-in_err-counted-in-Rounds-clause-none c =
    rw (c.from_residual.ensures, c.in-Rounds.is)
    (λ d g. c.in_err-counted-in-Rounds.ensures.none g.0 g.1)
