use Rattle.aig_answers.proofs.Words.{err_from_is_err_and, refl, lists_circuit}
use Rattle.aig_answers.proofs.Planning.{has_none}
use Rattle.aig_answers.proofs.plans.checking.check_last.Goals as goal

pub returns-in_err-clauses-clause-tells : goal.returns-in_err-clauses-clause-tells
returns-in_err-clauses-clause-tells g c =
    let p = err_from_is_err_and c.from_residual.result c.from_residual.ensures.1 in
    rw (p.1, p.2) (
      refl,
      has_none c.args.limit c.args.question.ask (lists_circuit c.args.circuit)
          c.in_err-clauses.field-0.0 c.in_err-clauses.ensures.large,
    )

pub returns-in_err-refute-clause-tells : goal.returns-in_err-refute-clause-tells
returns-in_err-refute-clause-tells g c =
    let p = err_from_is_err_and c.from_residual-in_err-refute.result
    c.from_residual-in_err-refute.ensures.1 in
    rw (p.1, p.2)
    (c.in_ok-clauses.clauses, c.in_ok-clauses.ensures.makes, c.in_err-refute.ensures.held)

pub returns-clause-holds : goal.returns-clause-holds
returns-clause-holds g c =
    c.refuted_asks_hold.ensures c.args.question.ask c.args.question.optimize
    (lists_circuit c.args.circuit) c.in_ok-clauses.clauses c.requires.circuit c.in_ok-clauses.ensures.makes
    c.in_ok-refute.ensures.refuted

pub returns-clause-tells : goal.returns-clause-tells
returns-clause-tells g c = (
  c.in_ok-clauses.clauses,
  c.in_ok-clauses.ensures.makes,
  c.in_ok-refute.ensures.refuted,
  c.in_ok-refute.ensures.held,
)
