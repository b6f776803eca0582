use Rattle.aig_live.proofs.Back.{witness_of}
use Rattle.aig_live.proofs.Forth.{lasso_of}
use Rattle.aig_live.proofs.laws.bad_states_are_lassos.Goals as goal

pub returns-clause-step : goal.returns-clause-step
returns-clause-step c = λ edges old new k is live. (
  λ bad. let found = lasso_of edges old new is live k bad.0 bad.1 in (found.0, bad.0, found.1),
  λ has. witness_of edges old new is live has.0 k has.1 has.2,
)

pub returns-clause-run : goal.returns-clause-run
returns-clause-run c = λ edges old new k z is live witness. lasso_of edges old new is live k z
    witness
