use Rattle.aig_base.proofs.Words.{IfOk-weaker, length}
use Rattle.aig_answers.proofs.Words.{AreBelow, AsksOfBads, BoundedClauses, IsEncodedQuestion}
use Rattle.aig_answers.proofs.AskedFiles.{AreBelow-extra, asks_of}
use Rattle.aig_answers.proofs.plans.clauses.first_question.Goals as goal

pub returns-clause-asks : goal.returns-clause-asks
returns-clause-asks c =
    let a = c.args in
    IfOk-weaker c.ask_circuit.result (IsEncodedQuestion a.circuit.now a.k a.optimize)
    (AsksOfBads a.circuit.now a.k a.optimize) (asks_of a.circuit.now a.k a.optimize)
    c.ask_circuit.ensures.asks

pub returns-clause-below : goal.returns-clause-below
returns-clause-below c =
    let a = c.args in
    IfOk-weaker c.ask_circuit.result (IsEncodedQuestion a.circuit.now a.k a.optimize)
    (λ (made : BoundedClauses). AreBelow (length made.clauses) made.extra)
    (λ made asks. AreBelow-extra a.circuit.now a.k a.optimize made
    (asks_of a.circuit.now a.k a.optimize made asks)) c.ask_circuit.ensures.asks
