use Rattle.aig_base.proofs.Words.{length}
use Rattle.aig_live.specs.Names.{rounds_names}
use Rattle.aig_live.proofs.Extended.{IsCircuit-extended, IsClosed-extended, constant_starts}
use Rattle.aig_live.proofs.rounding.rounds_circuits_are_circuits.Goals as goal

pub returns-clause-circuit : goal.returns-clause-circuit
returns-clause-circuit c = λ edges count circuit new is live.
    IsCircuit-extended 0 live.nexts live.bad
    (rounds_names (length edges) count) circuit new is live.extended

pub returns-clause-closed : goal.returns-clause-closed
returns-clause-closed c = λ edges count circuit new is live.
    IsClosed-extended 0 live.nexts live.bad
    (rounds_names (length edges) count) circuit new is live.extended

pub returns-clause-starts : goal.returns-clause-starts
returns-clause-starts c = λ edges count circuit new is live.
    constant_starts 0 live.nexts live.bad
    (rounds_names (length edges) count) circuit new is live.extended
