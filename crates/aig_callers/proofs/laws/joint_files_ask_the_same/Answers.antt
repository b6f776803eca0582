use Rattle.aig_callers.proofs.JointFiles.{query_same, question_same, window_same}
use Rattle.aig_callers.proofs.laws.joint_files_ask_the_same.Goals as goal

pub returns-clause-query : goal.returns-clause-query
returns-clause-query c pairing f g h m limit k optimize one other joint accepts =
    query_same c.reads_exactly.ensures.one pairing f g h m limit k optimize joint accepts
    c.clauses_are_one.ensures one other

pub returns-clause-window : goal.returns-clause-window
returns-clause-window c pairing f g h m limit k form optimize lists others extra more joint accepts =
    window_same c.reads_exactly.ensures.one pairing f g h m limit k optimize joint accepts
    c.windows_are_one.ensures form lists others extra more

pub returns-clause-question : goal.returns-clause-question
returns-clause-question c pairing f g h m limit k optimize one other joint accepts =
    question_same c.reads_exactly.ensures.one pairing f g h m limit k optimize joint accepts
    c.circuit_questions_are_one.ensures.clauses one other
