use Rattle.aig_unroll.proofs.Exactly.{counted}
use Rattle.aig_unroll.proofs.laws.adds_exactly.Goals as goal

pub returns : goal.returns
returns c = counted
