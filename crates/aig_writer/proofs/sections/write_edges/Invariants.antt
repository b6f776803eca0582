use Rattle.aig_base.proofs.Words.{take, WritesInCalls, flat_map}
use Rattle.aig_writer.specs.Numbering.{written_number}
use Rattle.aig_circuit.specs.Renumber.{renumbered_edge}
use Rattle.aig_writer.proofs.Items.{edge_line}
use Rattle.aig_writer.proofs.sections.write_edges.Given as goal

abbrev pub invariant-loop-e : goal.invariant-loop-e
invariant-loop-e g l = WritesInCalls g.O.TextOut.wrote l.fn.out (flat_map (λ e. edge_line (renumbered_edge (written_number l.numbers) e)) (take l.e-index l.edges)) l.out
