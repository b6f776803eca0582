use Rattle.aig_steps.proofs.Runs.{queries_ask}
use Rattle.aig_steps.proofs.laws.stepwise_queries_ask.Goals as goal

pub returns-clause-asks : goal.returns-clause-asks
returns-clause-asks c = queries_ask

pub returns-clause-safe : goal.returns-clause-safe
returns-clause-safe c circuit unrolled k is is_unrolled to refuted witness =
    refuted ((queries_ask circuit unrolled k is is_unrolled to).1 witness)
