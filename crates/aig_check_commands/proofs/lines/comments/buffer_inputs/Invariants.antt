use Rattle.aig_check_commands.proofs.Words.{take, enumerate_from, flat_map, Buffers, input_line}
use Rattle.aig_check_commands.proofs.lines.comments.buffer_inputs.Given as goal

abbrev pub invariant-loop-i : goal.invariant-loop-i
invariant-loop-i g l = Buffers l.fn.buffer (g.W.Sink.held l.fn.w) l.buffer (g.W.Sink.held l.w) (flat_map (input_line l.asked.circuit l.asked.unrolled l.t) (take l.i (enumerate_from 0 l.inputs)))
