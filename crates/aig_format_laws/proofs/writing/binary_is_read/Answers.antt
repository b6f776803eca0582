use Rattle.aig_format_laws.proofs.Reencoded.{IsWritable-reencoded, binary_is_read_again}
use Rattle.aig_format_laws.proofs.writing.binary_is_read.Goals as goal

pub returns-clause-writable : goal.returns-clause-writable
returns-clause-writable c = IsWritable-reencoded

pub returns-clause-again : goal.returns-clause-again
returns-clause-again c = binary_is_read_again
