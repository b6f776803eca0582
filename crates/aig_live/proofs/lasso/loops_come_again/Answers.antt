use Rattle.aig_live.proofs.Turning.{turn_again, turn_within}
use Rattle.aig_live.proofs.lasso.loops_come_again.Goals as goal

pub returns-clause-within : goal.returns-clause-within
returns-clause-within c = λ l k t order. turn_within l k order t

pub returns-clause-again : goal.returns-clause-again
returns-clause-again c = λ l k t s order low high. turn_again l k order t s low high
