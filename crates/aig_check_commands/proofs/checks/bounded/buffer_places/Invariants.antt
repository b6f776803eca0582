use Rattle.aig_check_commands.proofs.Words.{length, take, flat_map, zip, Buffers, place_line}
use Rattle.aig_check_commands.proofs.checks.bounded.buffer_places.Given as goal

abbrev pub invariant-loop-n : goal.invariant-loop-n
invariant-loop-n g l = Buffers l.fn.buffer (g.W.Sink.held l.fn.w) l.buffer (g.W.Sink.held l.w) (flat_map place_line (take (length l.yielded) (zip l.inputs l.named)))
