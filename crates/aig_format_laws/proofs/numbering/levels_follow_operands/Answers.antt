use Rattle.aig_format.proofs.Levels.{level_of-above, level_of-leaf}
use Rattle.aig_format_laws.proofs.numbering.levels_follow_operands.Goals as goal

pub returns-clause-leaf : goal.returns-clause-leaf
returns-clause-leaf c = level_of-leaf

pub returns-clause-gate : goal.returns-clause-gate
returns-clause-gate c = level_of-above
