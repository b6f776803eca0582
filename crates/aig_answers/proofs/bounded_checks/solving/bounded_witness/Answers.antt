use Rattle.aig_answers.proofs.Words.{Err, ap, err_from_is_err_and, Accepted}
use Rattle.aig_answers.specs.Asking.{verdict_of}
use Rattle.aig_answers.proofs.AskedFiles.{read_circuit, read_closed, read_starts, refusal_of, shown_of, size_of}
use Rattle.aig_answers.proofs.BoundedVerdicts.{judged, refused_own}
use Rattle.aig_answers.proofs.bounded_checks.solving.bounded_witness.Goals as goal

pub ask_lists-requires-clause-circuit : goal.ask_lists-requires-clause-circuit
ask_lists-requires-clause-circuit g c =
    read_circuit c.args.limit c.args.k c.args.optimize c.in_ok-lists.lists _ _
    c.in_ok-lists.ensures.circuit

pub ask_lists-requires-clause-closed : goal.ask_lists-requires-clause-closed
ask_lists-requires-clause-closed g c =
    read_closed c.args.limit c.args.k c.args.optimize c.in_ok-lists.lists _ _
    c.in_ok-lists.ensures.circuit

pub ask_lists-requires-clause-starts : goal.ask_lists-requires-clause-starts
ask_lists-requires-clause-starts g c =
    read_starts c.args.limit c.args.k c.args.optimize c.in_ok-lists.lists _ _
    c.in_ok-lists.ensures.circuit

pub solve-requires-clause-circuit : goal.solve-requires-clause-circuit
solve-requires-clause-circuit g c =
    read_circuit c.args.limit c.args.k c.args.optimize c.in_ok-lists.lists _ _
    c.in_ok-lists.ensures.circuit

pub solve-requires-clause-closed : goal.solve-requires-clause-closed
solve-requires-clause-closed g c =
    read_closed c.args.limit c.args.k c.args.optimize c.in_ok-lists.lists _ _
    c.in_ok-lists.ensures.circuit

pub solve-requires-clause-starts : goal.solve-requires-clause-starts
solve-requires-clause-starts g c =
    read_starts c.args.limit c.args.k c.args.optimize c.in_ok-lists.lists _ _
    c.in_ok-lists.ensures.circuit

pub solve-requires-clause-asks : goal.solve-requires-clause-asks
solve-requires-clause-asks g c = (c.args.optimize, c.in_ok-made.ensures.asks)

pub returns-in_err-made-clause-verdict : goal.returns-in_err-made-clause-verdict
returns-in_err-made-clause-verdict g c =
    let p = err_from_is_err_and c.from_residual-in_err-made.result
    c.from_residual-in_err-made.ensures.1 in
    rw (p.1, p.2) (judged c.args.limit _ _ _ c.in_ok-lists.lists (verdict_of
    c.in_err-made.field-0.0) c.in_ok-lists.ensures.circuit c.in_ok-lists.ensures.verdict
    c.in_err-made.ensures.said)

pub returns-in_err-made-clause-large : goal.returns-in_err-made-clause-large
returns-in_err-made-clause-large g c =
    let p = err_from_is_err_and c.from_residual-in_err-made.result
    c.from_residual-in_err-made.ensures.1 in
    rw (p.1, p.2) (size_of c.args.limit c.args.k c.args.optimize c.in_ok-lists.lists _ _
    c.in_ok-lists.ensures.circuit c.in_err-made.field-0.0 c.in_err-made.ensures.said (λ is.
    c.in_err-made.ensures.large (ap Err is)))

pub returns-in_err-witness-clause-verdict : goal.returns-in_err-witness-clause-verdict
returns-in_err-witness-clause-verdict g c =
    let p = err_from_is_err_and c.from_residual-in_err-witness.result
    c.from_residual-in_err-witness.ensures.1 in
    rw (p.1, p.2) (judged c.args.limit _ _ _ c.in_ok-lists.lists Accepted
    c.in_ok-lists.ensures.circuit c.in_ok-lists.ensures.verdict c.in_ok-made.ensures.said)

pub returns-in_err-witness-clause-own : goal.returns-in_err-witness-clause-own
returns-in_err-witness-clause-own g c =
    let p = err_from_is_err_and c.from_residual-in_err-witness.result
    c.from_residual-in_err-witness.ensures.1 in
    rw (p.1, p.2) (refused_own _ _ _ c.in_ok-made.made c.in_err-witness.field-0.0
    c.in_err-witness.ensures.refusal)

pub returns-in_err-witness-clause-refusal : goal.returns-in_err-witness-clause-refusal
returns-in_err-witness-clause-refusal g c =
    let p = err_from_is_err_and c.from_residual-in_err-witness.result
    c.from_residual-in_err-witness.ensures.1 in
    rw (p.1, p.2) (refusal_of c.args.limit c.args.k c.args.optimize c.in_ok-lists.lists _ _
    c.in_ok-lists.ensures.circuit (g.P.Source.left c.args.solution.now) (g.P.Source.failed
    c.solve.new.solution) c.in_ok-made.made c.in_err-witness.field-0.0
    c.in_ok-made.ensures.said c.in_ok-made.ensures.asks c.in_err-witness.ensures.refusal)

pub returns-clause-answer : goal.returns-clause-answer
returns-clause-answer g c =
    shown_of c.args.limit c.args.k c.args.optimize c.in_ok-lists.lists _ _
    c.in_ok-lists.ensures.circuit c.known_witnesses_show.ensures
    (g.P.Source.left c.args.solution.now) c.in_ok-made.made c.in_ok-witness.witness
    c.in_ok-made.ensures.said c.in_ok-made.ensures.asks c.in_ok-witness.ensures.known
    c.in_ok-witness.ensures.said

pub returns-clause-verdict : goal.returns-clause-verdict
returns-clause-verdict g c =
    judged c.args.limit _ _ _ c.in_ok-lists.lists Accepted c.in_ok-lists.ensures.circuit
    c.in_ok-lists.ensures.verdict c.in_ok-made.ensures.said
