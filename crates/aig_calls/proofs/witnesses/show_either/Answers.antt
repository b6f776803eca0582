use Rattle.aig_calls.proofs.Given.{on}
use Rattle.aig_calls.proofs.witnesses.show_either.Goals as goal

pub returns : goal.returns
returns c = (on c.new-source.result c.check_claim.new.r c.new-source.ensures.reader (on
    c.new-values.result c.check_claim.new.w c.new-values.ensures.reader (record {
      answer =
          c.check_claim.ensures.answer;
      verdict = c.check_claim.ensures.verdict;
      refusal =
          c.check_claim.ensures.refusal;
    })))
