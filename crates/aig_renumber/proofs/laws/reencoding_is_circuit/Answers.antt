use Rattle.aig_renumber.proofs.Placed.{AreAsLong-reencoded, IsCircuit-reencoded, IsClosed-reencoded}
use Rattle.aig_renumber.proofs.laws.reencoding_is_circuit.Goals as goal

pub returns-clause-circuit : goal.returns-clause-circuit
returns-clause-circuit c = λ a is closed. IsCircuit-reencoded a is closed

pub returns-clause-closed : goal.returns-clause-closed
returns-clause-closed c = λ a is closed. IsClosed-reencoded a is closed

pub returns-clause-long : goal.returns-clause-long
returns-clause-long c = λ a is closed. AreAsLong-reencoded a is closed
