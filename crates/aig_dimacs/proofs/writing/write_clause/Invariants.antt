use Rattle.aig_base.proofs.Words.{take, flat_map}
use Rattle.aig_output.specs.Sinks.{Buffers}
use Rattle.aig_dimacs.specs.Text.{literal_text}
use Rattle.aig_dimacs.proofs.writing.write_clause.Given as goal

abbrev pub invariant-loop-lit : goal.invariant-loop-lit
invariant-loop-lit g l = Buffers l.fn.buffer (g.W.Sink.held l.fn.w) l.buffer (g.W.Sink.held l.w) (flat_map literal_text (take l.lit-index l.lits))
