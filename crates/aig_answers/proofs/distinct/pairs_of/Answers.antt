use Rattle.std.proofs.Common.{arith}
use Rattle.aig_answers.proofs.Pairs.{pairs_even, pairs_odd}
use Rattle.aig_answers.proofs.distinct.pairs_of.Goals as goal

pub returns-then-steps-eq0 : goal.returns-then-steps-eq0
returns-then-steps-eq0 c = pairs_even c.args.steps c.requires.some (omega arith)

pub returns-else-steps-eq0 : goal.returns-else-steps-eq0
returns-else-steps-eq0 c = pairs_odd c.args.steps (omega arith)
