use Rattle.aig_answers.proofs.Words.{sym, subst, All, HasConstantInit, Circuit, IsClosed, IsEncodedQuestion}
use Rattle.aig_answers.proofs.bounded_checks.clauses.ask_lists.Goals as goal

pub ask_circuit-requires-clause-closed : goal.ask_circuit-requires-clause-closed
ask_circuit-requires-clause-closed c = subst IsClosed (sym c.new-circuit.ensures) c.requires.closed

pub ask_circuit-requires-clause-starts : goal.ask_circuit-requires-clause-starts
ask_circuit-requires-clause-starts c =
    subst (λ (d : Circuit). All HasConstantInit d.latchs) (sym c.new-circuit.ensures)
    c.requires.starts

pub returns-clause-asks : goal.returns-clause-asks
returns-clause-asks c =
    subst (λ (d : Circuit). IsEncodedQuestion d c.args.last c.args.optimize
    c.in_ok-ask_circuit.field-0) c.new-circuit.ensures c.in_ok-ask_circuit.ensures.asks
