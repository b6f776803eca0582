use Rattle.aig_bounded.proofs.Witnesses.{question_asks}
use Rattle.aig_bounded.proofs.laws.questions_ask_for_witnesses.Goals as goal

pub returns : goal.returns
returns c d asks k output places circuit is = question_asks d k asks output places circuit is
