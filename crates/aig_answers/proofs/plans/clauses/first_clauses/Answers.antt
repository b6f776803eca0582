use Rattle.aig_base.proofs.Words.{err_from_is_err_and, false≢true, refl, sym}
use Rattle.aig_answers.proofs.BoundedVerdicts.{other_value}
use Rattle.aig_answers.proofs.plans.clauses.first_clauses.Goals as goal

pub returns-in_err-made-clause-large : goal.returns-in_err-made-clause-large
returns-in_err-made-clause-large c =
    let p = err_from_is_err_and c.from_residual.result c.from_residual.ensures.1 in
    rw (p.1, p.2) (λ is. c.in_err-made.ensures.large (other_value c.in_err-made.field-0.0 _ is))

pub returns-then-is_settled-clause-makes : goal.returns-then-is_settled-clause-makes
returns-then-is_settled-clause-makes c =
    (c.in_ok-made.made, c.in_ok-made.ensures.asks, c.if-is_settled.ensures.0 refl)

pub returns-clause-makes : goal.returns-clause-makes
returns-clause-makes c = (
  c.in_ok-made.made,
  c.in_ok-made.ensures.asks,
  λ settled. false≢true (c.if-is_settled.ensures.1 settled),
  sym c.into_clauses.ensures,
)
