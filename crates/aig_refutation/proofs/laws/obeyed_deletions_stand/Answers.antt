use Rattle.aig_refutation.proofs.Dropping.{stand_too}
use Rattle.aig_refutation.proofs.laws.obeyed_deletions_stand.Goals as goal

pub returns : goal.returns
returns c = stand_too
