use Rattle.aig_base.proofs.Words.{take, WritesInCalls, flat_map}
use Rattle.aig_writer.specs.Numbering.{written_number}
use Rattle.aig_circuit.specs.Renumber.{renumbered_latch}
use Rattle.aig_writer.proofs.Items.{text_of_latch}
use Rattle.aig_writer.proofs.sections.write_latches.Given as goal

abbrev pub invariant-loop-latch : goal.invariant-loop-latch
invariant-loop-latch g l = WritesInCalls g.O.TextOut.wrote l.fn.out (flat_map (λ latch. text_of_latch l.kind (renumbered_latch (written_number l.numbers) latch)) (take l.latch-index l.latch-items)) l.out
