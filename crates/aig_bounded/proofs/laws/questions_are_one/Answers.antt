use Rattle.aig_bounded.proofs.Single.{question_same}
use Rattle.aig_bounded.proofs.laws.questions_are_one.Goals as goal

pub returns : goal.returns
returns c d one other k output out places seats is are =
    question_same d one other k output out places seats is are
