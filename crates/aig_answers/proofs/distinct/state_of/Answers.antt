use Rattle.std.proofs.Common.{length, ap, ◌∙◌}
use Rattle.aig_answers.proofs.Asking.{cut_row, row_length}
use Rattle.aig_answers.proofs.distinct.state_of.Goals as goal

pub returns-clause-state : goal.returns-clause-state
returns-clause-state c = cut_row c.args.edges.now c.args.latchs c.args.t

pub returns-clause-count : goal.returns-clause-count
returns-clause-count c = ap length (cut_row c.args.edges.now c.args.latchs c.args.t) ∙ row_length c.args.edges.now c.args.latchs c.args.t c.requires
