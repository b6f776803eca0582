use Rattle.aig_edit_laws.proofs.Alone.{reduced_alone}
use Rattle.aig_edit_laws.proofs.reduction.reductions_are_alone.Goals as goal

pub returns : goal.returns
returns c = reduced_alone
