use Rattle.aig_witness_circuit_checks.proofs.Telling.{one_question}
use Rattle.aig_witness_circuit_checks.proofs.laws.condition_questions_are_one.Goals as goal

pub returns : goal.returns
returns c = λ condition node m w q other is also.
    one_question condition node m w q other c.shared_leaves_are_one.ensures is also
