use Rattle.aig_live.proofs.Ending.{run_of, witness_of_run}
use Rattle.aig_live.proofs.rounding.bad_states_are_rounds.Goals as goal

pub returns-clause-step : goal.returns-clause-step
returns-clause-step c = λ edges count circuit new k is live. (
  λ has. (has.0, run_of edges count circuit new is live k has.0 has.1),
  λ has. witness_of_run edges count circuit new is live k has.0 has.1,
)

pub returns-clause-run : goal.returns-clause-run
returns-clause-run c = λ edges count circuit new k z is live.
    run_of edges count circuit new is live k z
