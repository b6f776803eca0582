use Rattle.aig_witness_circuits.proofs.Alike.{shared_alike}
use Rattle.aig_witness_circuits.proofs.sharing.laws.shared_leaves_are_one.Goals as goal

pub returns : goal.returns
returns c = shared_alike
