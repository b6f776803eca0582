use Rattle.std.proofs.Common.{rules}
use Rattle.aig_output.proofs.Writing.{one_piece}
use Rattle.aig_output.proofs.formatter.FormatterTextOut.write_bytes.Goals as goal

pub returns-in-Ok : goal.returns-in-Ok
returns-in-Ok g c = one_piece _ (search rules) (search rules)

pub returns-in-Err : goal.returns-in-Err
returns-in-Err g c = one_piece _ tt tt
