use Rattle.aig_base.proofs.Words.{take, flat_map}
use Rattle.aig_output.specs.Sinks.{Buffers}
use Rattle.aig_dimacs.specs.Text.{clause_line}
use Rattle.aig_dimacs.proofs.writing.write_lists.Given as goal

abbrev pub invariant-loop-v : goal.invariant-loop-v
invariant-loop-v g l = Buffers l.fn.buffer (g.W.Sink.held l.fn.w) l.buffer (g.W.Sink.held l.w) (flat_map (flat_map clause_line) (take l.v l.clauses))
