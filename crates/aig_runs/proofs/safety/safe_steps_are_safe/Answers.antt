use Rattle.aig_runs.proofs.SafeSteps.{safe_is}
use Rattle.aig_runs.proofs.safety.safe_steps_are_safe.Goals as goal

pub returns : goal.returns
returns c = λ f n. (safe_is f n).0
