use Rattle.aig_base.proofs.Words.{◌∷◌, ◌++◌, arith, length}
use Rattle.aig_live.specs.Names.{live_names}
use Rattle.aig_live.proofs.Circuits.{live_extended, names_long}
use Rattle.aig_live.proofs.Extended.{added_named, old_named}
use Rattle.aig_live.proofs.laws.live_circuits_keep_names.Goals as goal

pub returns-clause-old : goal.returns-clause-old
returns-clause-old c = λ edges circuit new n is live.
    old_named 1 (live.active ∷ live.starts ++ live.seen) live.bad
    (live_names circuit (length edges)) circuit new is (live_extended edges circuit new live) n

pub returns-clause-added : goal.returns-clause-added
returns-clause-added c = λ edges circuit new k d is live low.
    added_named 1 (live.active ∷ live.starts ++ live.seen) live.bad
    (live_names circuit (length edges)) circuit new is (live_extended edges circuit new live) k d
    (omega (arith, low, names_long edges circuit new live))
