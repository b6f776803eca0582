use Rattle.aig_renumber.proofs.Placed.{KeepsRuns-reencoded}
use Rattle.aig_renumber.proofs.laws.reencoding_keeps_runs.Goals as goal

pub returns : goal.returns
returns c = λ a is closed. KeepsRuns-reencoded a is closed
