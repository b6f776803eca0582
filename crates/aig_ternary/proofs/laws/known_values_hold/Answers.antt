use Rattle.aig_ternary.proofs.Known.{known_values}
use Rattle.aig_ternary.proofs.laws.known_values_hold.Goals as goal

pub returns : goal.returns
returns c = λ circuit e state steps is there. known_values circuit is e there state steps
