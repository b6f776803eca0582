use Rattle.aig_steps.proofs.Runs.{asks_for_runs}
use Rattle.aig_steps.proofs.laws.steps_ask_for_runs.Goals as goal

pub returns : goal.returns
returns c = λ circuit unrolled k. asks_for_runs circuit unrolled k
