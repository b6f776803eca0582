use Rattle.aig_steps.proofs.Induction.{inductive_are_safe}
use Rattle.aig_steps.proofs.laws.inductive_circuits_are_safe.Goals as goal

pub returns : goal.returns
returns c = inductive_are_safe
