use Rattle.aig_base.proofs.Words.{take, flat_map}
use Rattle.aig_output.specs.Sinks.{Buffers}
use Rattle.aig_witness.proofs.Pieces.{value_text}
use Rattle.aig_witness.proofs.writing.write_row.Given as goal

abbrev pub invariant-loop-value : goal.invariant-loop-value
invariant-loop-value g l = Buffers l.fn.buffer (g.W.Sink.held l.fn.w) l.buffer (g.W.Sink.held l.w) (flat_map value_text (take l.value-index l.values))
