use Rattle.std.proofs.Common.{rules}
use Rattle.aig_output.proofs.Writing.{one_piece}
use Rattle.aig_output.proofs.sink.BufferedSinkTextOut.write_front.Goals as goal

pub returns : goal.returns
returns g c = one_piece _ (search rules) (search rules)
