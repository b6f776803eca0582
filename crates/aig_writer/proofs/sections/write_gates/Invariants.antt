use Rattle.aig_base.proofs.Words.{take, WritesInCalls, flat_map}
use Rattle.aig_writer.specs.Numbering.{written_number, renumbered_node}
use Rattle.aig_writer.proofs.Items.{text_of_gate}
use Rattle.aig_writer.proofs.sections.write_gates.Given as goal

abbrev pub invariant-loop-node : goal.invariant-loop-node
invariant-loop-node g l = WritesInCalls g.O.TextOut.wrote l.fn.out (flat_map (λ node. text_of_gate l.kind (renumbered_node (written_number l.numbers) node)) (take l.node-index l.node-items)) l.out
