use Rattle.aig_join.proofs.OneMiter.{one_miter}
use Rattle.aig_join.proofs.laws.miters_are_one.Goals as goal

pub returns : goal.returns
returns c = one_miter
