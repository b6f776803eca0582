use Rattle.aig_edit_laws.proofs.AskedCones.{IsCircuit-asked}
use Rattle.aig_edit_laws.proofs.reduction.asked_circuits_are_circuits.Goals as goal

pub returns : goal.returns
returns c = IsCircuit-asked
