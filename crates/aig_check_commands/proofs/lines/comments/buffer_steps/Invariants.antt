use Rattle.aig_check_commands.proofs.Words.{◌+◌, take, flat_map, range_with_len, Buffers}
use Rattle.aig_check_commands.specs.Comments.{input_lines}
use Rattle.aig_check_commands.proofs.lines.comments.buffer_steps.Given as goal

abbrev pub invariant-loop-t : goal.invariant-loop-t
invariant-loop-t g l = Buffers l.fn.buffer (g.W.Sink.held l.fn.w) l.buffer (g.W.Sink.held l.w) (flat_map (input_lines l.asked.circuit l.asked.unrolled) (take l.t (range_with_len 0 (l.asked.steps + 1))))
