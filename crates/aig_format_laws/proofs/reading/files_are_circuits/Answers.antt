use Rattle.aig_format.proofs.Circuits.{IsCircuit-of_file}
use Rattle.aig_format.proofs.Nodes.{few_nodes}
use Rattle.aig_format.proofs.Numbers.{used_known}
use Rattle.aig_format_laws.proofs.Closed.{IsClosed-of_file}
use Rattle.aig_format_laws.proofs.Writable.{IsWritable-of_file, names_are_texts}
use Rattle.aig_format_laws.proofs.reading.files_are_circuits.Goals as goal

pub returns-clause-circuit : goal.returns-clause-circuit
returns-clause-circuit c = IsCircuit-of_file

pub returns-clause-closed : goal.returns-clause-closed
returns-clause-closed c = IsClosed-of_file

pub returns-clause-within : goal.returns-clause-within
returns-clause-within c = few_nodes

pub returns-clause-known : goal.returns-clause-known
returns-clause-known c = used_known

pub returns-clause-texts : goal.returns-clause-texts
returns-clause-texts c = names_are_texts

pub returns-clause-writable : goal.returns-clause-writable
returns-clause-writable c = IsWritable-of_file
