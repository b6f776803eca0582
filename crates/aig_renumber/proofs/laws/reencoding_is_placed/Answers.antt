use Rattle.aig_renumber.proofs.Placed.{IsReencoded-reencoded}
use Rattle.aig_renumber.proofs.laws.reencoding_is_placed.Goals as goal

pub returns : goal.returns
returns c = λ a is closed. IsReencoded-reencoded a is closed
