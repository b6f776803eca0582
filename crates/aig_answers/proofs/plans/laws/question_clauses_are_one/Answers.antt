use Rattle.aig_answers.proofs.Planning.{one}
use Rattle.aig_answers.proofs.plans.laws.question_clauses_are_one.Goals as goal

pub returns : goal.returns
returns c =
    one c.clauses_are_one.ensures c.circuit_questions_are_one.ensures.clauses
    c.windows_are_one.ensures
