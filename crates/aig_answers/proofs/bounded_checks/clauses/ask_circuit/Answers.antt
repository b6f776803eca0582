use Rattle.aig_answers.proofs.Words.{sym, subst, All, AllZip, Place, IsLeaf, IsNamed}
use Rattle.aig_answers.proofs.AskedFiles.{encoded_question}
use Rattle.aig_answers.proofs.bounded_checks.clauses.ask_circuit.Goals as goal

pub name_places-requires-clause-leaves : goal.name_places-requires-clause-leaves
name_places-requires-clause-leaves c =
    subst (All (λ (p : Place). IsLeaf c.args.circuit.now.nodes p.leaf)) (sym c.deref.ensures.value)
    (λ i d h. (c.in_ok-question.ensures.question.1.are_places i d h).leaf)

pub clauses_of-requires-clause-circuit : goal.clauses_of-requires-clause-circuit
clauses_of-requires-clause-circuit c = c.in_ok-question.ensures.question.1.circuit

pub returns-clause-asks : goal.returns-clause-asks
returns-clause-asks c =
    let circuit = c.args.circuit.now in
    let named = c.in_ok-named.named.items in
    encoded_question circuit c.args.last c.args.optimize c.in_ok-question.question
    c.in_ok-clauses_of.field-0 named c.in_ok-question.ensures.question
    (subst (λ ps. AllZip (IsNamed circuit) ps named) c.deref.ensures.value c.in_ok-named.ensures)
    c.in_ok-clauses_of.ensures
