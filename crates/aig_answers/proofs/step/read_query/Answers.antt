use Rattle.aig_answers.proofs.Words.{sym, ◌∙◌, arith, err_from_is_err_and, Accepted, Short, verdict_of}
use Rattle.aig_answers.proofs.Answering.{query_answers}
use Rattle.aig_answers.proofs.Verdicts.{asked_judged, asked_unread, asks_alike, circuit_said, read_unrolled}
use Rattle.aig_answers.proofs.step.read_query.Goals as goal

pub make_query-requires : goal.make_query-requires
make_query-requires g c =
    let a = c.args in
    let circuit = c.in_ok-circuit.circuit in
    let alike = asks_alike a.limit a.k circuit _ _ _ c.nodes.ensures.value c.latchs.ensures.value
    c.bads.ensures.value in
    let asked = read_unrolled a.limit a.k circuit Accepted (c.in_ok-check_asks.ensures.said ∙ alike) in
    omega (arith, c.requires.few, asked.0)

pub returns-in_err-circuit-clause-verdict : goal.returns-in_err-circuit-clause-verdict
returns-in_err-circuit-clause-verdict g c =
    let p = err_from_is_err_and c.from_residual.result c.from_residual.ensures.1 in
    rw (p.1, p.2) (asked_unread c.args.limit c.args.k _ _ _ c.in_err-circuit.field-0.0
    c.in_err-circuit.ensures.verdict)

pub returns-in_err-check_asks-clause-verdict : goal.returns-in_err-check_asks-clause-verdict
returns-in_err-check_asks-clause-verdict g c =
    let p = err_from_is_err_and c.from_residual-in_err-check_asks.result
    c.from_residual-in_err-check_asks.ensures.1 in
    let a = c.args in
    let read = c.in_ok-circuit.ensures in
    let circuit = c.in_ok-circuit.circuit in
    let alike = asks_alike a.limit a.k circuit _ _ _ c.nodes.ensures.value c.latchs.ensures.value
    c.bads.ensures.value in
    let v = verdict_of c.in_err-check_asks.field-0.0 in
    rw (p.1, p.2) (asked_judged a.limit a.k _ _ _ circuit v read.circuit read.verdict
    (circuit_said a.limit a.k circuit v (c.in_err-check_asks.ensures.said ∙ alike)))

pub returns-in_err-unrolled-clause-verdict : goal.returns-in_err-unrolled-clause-verdict
returns-in_err-unrolled-clause-verdict g c =
    let p = err_from_is_err_and c.from_residual-in_err-unrolled.result
    c.from_residual-in_err-unrolled.ensures.1 in
    let a = c.args in
    let read = c.in_ok-circuit.ensures in
    let circuit = c.in_ok-circuit.circuit in
    let alike = asks_alike a.limit a.k circuit _ _ _ c.nodes.ensures.value c.latchs.ensures.value
    c.bads.ensures.value in
    rw (p.1, p.2) (asked_judged a.limit a.k _ _ _ circuit Short read.circuit read.verdict
    (sym (c.in_ok-check_asks.ensures.said ∙ alike)))

pub returns-clause-verdict : goal.returns-clause-verdict
returns-clause-verdict g c =
    let a = c.args in
    let read = c.in_ok-circuit.ensures in
    let circuit = c.in_ok-circuit.circuit in
    let alike = asks_alike a.limit a.k circuit _ _ _ c.nodes.ensures.value c.latchs.ensures.value
    c.bads.ensures.value in
    asked_judged a.limit a.k _ _ _ circuit Accepted read.circuit read.verdict
    (c.in_ok-check_asks.ensures.said ∙ alike)

pub returns-clause-answer : goal.returns-clause-answer
returns-clause-answer g c =
    let a = c.args in
    let read = c.in_ok-circuit.ensures in
    let circuit = c.in_ok-circuit.circuit in
    let alike = asks_alike a.limit a.k circuit _ _ _ c.nodes.ensures.value c.latchs.ensures.value
    c.bads.ensures.value in
    query_answers a.limit a.k circuit _ _ read.circuit c.clauses_are_file_runs.ensures
    c.circuit_witnesses_are_file_witnesses.ensures.asks a.optimize _ c.in_ok-unrolled.ensures
    (c.in_ok-check_asks.ensures.said ∙ alike)
