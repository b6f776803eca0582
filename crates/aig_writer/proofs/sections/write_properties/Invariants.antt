use Rattle.aig_base.proofs.Words.{take, WritesInCalls, flat_map}
use Rattle.aig_writer.specs.Numbering.{written_number}
use Rattle.aig_writer.proofs.Texts.{first_lists, list_lines}
use Rattle.aig_writer.proofs.sections.write_properties.Given as goal

abbrev pub invariant-loop-list : goal.invariant-loop-list
invariant-loop-list g l = WritesInCalls g.O.TextOut.wrote l.fn.out (flat_map (list_lines (written_number l.numbers) l.circuit) (take l.list-index first_lists)) l.out
