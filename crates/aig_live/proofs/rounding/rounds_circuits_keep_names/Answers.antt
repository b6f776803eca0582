use Rattle.aig_base.proofs.Words.{arith, length}
use Rattle.aig_live.specs.Names.{rounds_names}
use Rattle.aig_live.proofs.Extended.{added_named, old_named}
use Rattle.aig_live.proofs.rounding.rounds_circuits_keep_names.Goals as goal

pub returns-clause-old : goal.returns-clause-old
returns-clause-old c = λ edges count circuit new n is live.
    old_named 0 live.nexts live.bad (rounds_names (length edges) count) circuit new is
    live.extended n

pub returns-clause-added : goal.returns-clause-added
returns-clause-added c = λ edges count circuit new k d is live low.
    added_named 0 live.nexts live.bad (rounds_names (length edges) count) circuit new is
    live.extended k d (omega (arith, low, live.extended.named, live.nexts_count))
