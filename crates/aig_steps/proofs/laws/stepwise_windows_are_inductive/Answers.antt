use Rattle.aig_steps.proofs.Windows.{windows_are_inductive, windows_inductive}
use Rattle.aig_steps.proofs.laws.stepwise_windows_are_inductive.Goals as goal

pub returns-clause-circuits : goal.returns-clause-circuits
returns-clause-circuits c = windows_inductive

pub returns-clause-files : goal.returns-clause-files
returns-clause-files c = windows_are_inductive
