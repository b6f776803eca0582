use Rattle.aig_check_commands.proofs.Words.{take, enumerate_from, flat_map, Buffers, bad_line}
use Rattle.aig_check_commands.proofs.lines.comments.buffer_bads.Given as goal

abbrev pub invariant-loop-i : goal.invariant-loop-i
invariant-loop-i g l = Buffers l.fn.buffer (g.W.Sink.held l.fn.w) l.buffer (g.W.Sink.held l.w) (flat_map (bad_line l.k) (take l.i (enumerate_from 0 l.bads)))
