use Rattle.aig_base.proofs.Words.{take, flat_map}
use Rattle.aig_output.specs.Sinks.{Buffers}
use Rattle.aig_dimacs.specs.Text.{clause_line}
use Rattle.aig_dimacs.proofs.writing.write_list.Given as goal

abbrev pub invariant-loop-i : goal.invariant-loop-i
invariant-loop-i g l = Buffers l.fn.buffer (g.W.Sink.held l.fn.w) l.buffer (g.W.Sink.held l.w) (flat_map clause_line (take l.i l.clauses))
