use Rattle.aig_format_laws.proofs.Written.{is_read_again}
use Rattle.aig_format_laws.proofs.writing.written_is_read.Goals as goal

pub returns : goal.returns
returns c = is_read_again
