use Rattle.aig_change.proofs.Merged.{merged-only_false}
use Rattle.aig_change.proofs.laws.merging_with_false.Goals as goal

pub returns : goal.returns
returns c = merged-only_false
