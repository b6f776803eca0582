use Rattle.aig_edit_laws.proofs.Reduced.{reduced_writable}
use Rattle.aig_edit_laws.proofs.plain.reductions_are_writable.Goals as goal

pub returns : goal.returns
returns c = reduced_writable c.asked_circuits_are_circuits.ensures c.refining_is_circuit.ensures
