use Rattle.aig_witness_circuits.specs.Questions.{Holds}
use Rattle.aig_witness_circuits.proofs.AskedCircuits.{safe_where_holds}
use Rattle.aig_witness_circuits.proofs.conditions_hold_where_questions_are_safe.Goals as goal

pub returns : goal.returns
returns c = λ condition shared model witness q asks.
    safe_where_holds (Holds condition shared model witness) q asks
