use Rattle.aig_witness_circuit_checks.proofs.Words.{Err, Ok, err_from_is_err_and, query_with, lists_circuit, question_in}
use Rattle.aig_witness_circuit_checks.proofs.Telling.{query_asked}
use Rattle.aig_witness_circuit_checks.proofs.checking.refute_question.Goals as goal

pub returns-clause-holds : goal.returns-clause-holds
returns-clause-holds g c =
    let claim = c.args.claim.now in
    let condition = c.args.condition in
    let q = question_in condition claim in
    let asked = c.in_ok-asked.asked in
    let made = c.in_ok-made.made in
    let is = c.in_ok-asked.ensures in
    let query = query_asked c.args.limit c.args.optimize condition claim asked made is
    c.in_ok-made.ensures in
    (c.conditions_hold_where_questions_are_safe.ensures condition claim.shared.items
    (lists_circuit claim.model) (lists_circuit claim.witness) q is.asks).1
    (c.refuted_circuit_queries_have_no_witness.ensures q asked.unrolled 0 made.clauses made.extra
    query.asks c.in_ok-check_refutation.ensures.refuted)

pub returns-clause-tells : goal.returns-clause-tells
returns-clause-tells g c =
    let claim = c.args.claim.now in
    let condition = c.args.condition in
    let q = question_in condition claim in
    let asked = c.in_ok-asked.asked in
    let made = c.in_ok-made.made in
    let is = c.in_ok-asked.ensures in
    let query = query_asked c.args.limit c.args.optimize condition claim asked made is
    c.in_ok-made.ensures in (
      is.few,
      c.circuit_clauses_are_one.ensures.query q 0 c.args.optimize _ (Ok tt)
          (query_with asked.unrolled made) query c.in_ok-check_refutation.ensures.shown,
    )

pub returns-in_err-check_refutation-clause-tells : goal.returns-in_err-check_refutation-clause-tells
returns-in_err-check_refutation-clause-tells g c =
    let p = err_from_is_err_and c.from_residual-in_err-check_refutation.result
    c.from_residual-in_err-check_refutation.ensures.1 in
    let condition = c.args.condition in
    let claim = c.args.claim.now in
    let asked = c.in_ok-asked.asked in
    let made = c.in_ok-made.made in
    let is = c.in_ok-asked.ensures in
    let query = query_asked c.args.limit c.args.optimize condition claim asked made is
    c.in_ok-made.ensures in
    rw (p.1, p.2) (
      is.few,
      c.circuit_clauses_are_one.ensures.query (question_in condition claim) 0 c.args.optimize _
          (Err c.in_err-check_refutation.field-0.0)
          (query_with asked.unrolled made) query c.in_err-check_refutation.ensures.shown,
    )
