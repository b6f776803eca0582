use Rattle.aig_base.proofs.Words.{◌≤◌, List, take, flat_map}
use Rattle.aig_base.specs.declared.logic.literal.Lit.{Lit}
use Rattle.aig_output.specs.Sinks.{Buffers}
use Rattle.aig_dimacs.specs.Circuit.{AreByMarks}
use Rattle.aig_dimacs.specs.Text.{clause_line}
use Rattle.aig_dimacs.proofs.circuit.write_gates.Given as goal

abbrev pub invariant-loop-id : goal.invariant-loop-id
invariant-loop-id g l = record {
  low : 1 ≤ l.id;
  so_far : (lists : List (List (List Lit))) → AreByMarks l.nodes l.optimize l.marks lists
      → Buffers l.fn.buffer (g.W.Sink.held l.fn.w) l.buffer (g.W.Sink.held l.w) (flat_map (flat_map clause_line) (take l.id lists));
}
