use Rattle.aig_writer.proofs.Differences.{Grouped-end, Grouped-start}
use Rattle.aig_writer.proofs.line.put_difference.Goals as goal

pub loop-rest-init : goal.loop-rest-init
loop-rest-init c = Grouped-start c.args.d _ c.args.at c.requires.small c.requires.room

pub returns-clause-text : goal.returns-clause-text
returns-clause-text c = Grouped-end _ _ _ _ _ _ c.loop-rest.invariant c.loop-rest-test.false
