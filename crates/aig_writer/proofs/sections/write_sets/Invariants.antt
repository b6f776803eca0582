use Rattle.aig_base.proofs.Words.{take, WritesInCalls, flat_map}
use Rattle.aig_writer.specs.Numbering.{written_number}
use Rattle.aig_writer.proofs.Items.{numbered_set, size_line}
use Rattle.aig_writer.proofs.sections.write_sets.Given as goal

abbrev pub invariant-loop-set : goal.invariant-loop-set
invariant-loop-set g l = WritesInCalls g.O.TextOut.wrote l.fn.out (flat_map size_line (take l.set-index l.sets)) l.out

abbrev pub invariant-loop-set-2 : goal.invariant-loop-set-2
invariant-loop-set-2 g l = WritesInCalls g.O.TextOut.wrote l.initial.out (flat_map (numbered_set (written_number l.numbers)) (take l.set-index l.sets)) l.out
