use Rattle.aig_calls.proofs.Given.{on}
use Rattle.aig_calls.proofs.witnesses.show_bad.Goals as goal

pub returns : goal.returns
returns c = (on c.new-source.result c.check_witness.new.r c.new-source.ensures.reader (on
    c.new-values.result c.check_witness.new.w c.new-values.ensures.reader (record {
      answer =
          c.check_witness.ensures.answer;
      verdict = c.check_witness.ensures.verdict;
      refusal =
          c.check_witness.ensures.refusal;
    })))
