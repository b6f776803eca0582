use Rattle.aig_base.proofs.Words.{take, WritesInCalls, flat_map}
use Rattle.aig_writer.specs.Numbering.{written_number}
use Rattle.aig_writer.proofs.Items.{input_line}
use Rattle.aig_writer.proofs.sections.write_inputs.Given as goal

abbrev pub invariant-loop-n : goal.invariant-loop-n
invariant-loop-n g l = WritesInCalls g.O.TextOut.wrote l.fn.out (flat_map (λ n. input_line (written_number l.numbers n)) (take l.n-index l.n-items)) l.out
