use Rattle.aig_answers.proofs.Single.{clauses_same}
use Rattle.aig_answers.proofs.bounded_checks.laws.circuit_questions_are_one.Goals as goal

pub returns-clause-clauses : goal.returns-clause-clauses
returns-clause-clauses g c k optimize one other is are =
    let same = clauses_same c k optimize one other is are in
    (same.0, same.1)

pub returns-clause-places : goal.returns-clause-places
returns-clause-places g c k optimize one other is are =
    let same = clauses_same c k optimize one other is are in
    (same.2, same.3)
