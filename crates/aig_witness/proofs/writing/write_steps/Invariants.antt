use Rattle.aig_base.proofs.Words.{take, flat_map}
use Rattle.aig_output.specs.Sinks.{Buffers}
use Rattle.aig_witness.proofs.Pieces.{list_text}
use Rattle.aig_witness.proofs.writing.write_steps.Given as goal

abbrev pub invariant-loop-step : goal.invariant-loop-step
invariant-loop-step g l = Buffers l.fn.buffer (g.W.Sink.held l.fn.w) l.buffer (g.W.Sink.held l.w) (flat_map list_text (take l.step-index l.steps))
