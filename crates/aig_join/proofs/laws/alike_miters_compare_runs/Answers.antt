use Rattle.aig_join.proofs.AlikeRuns.{safe-is_equal_alike}
use Rattle.aig_join.proofs.laws.alike_miters_compare_runs.Goals as goal

pub returns : goal.returns
returns c = safe-is_equal_alike
