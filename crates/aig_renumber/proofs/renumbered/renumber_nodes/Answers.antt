use Rattle.aig_base.proofs.Words.{arith, common_steps, map_over_more}
use Rattle.aig_renumber.proofs.renumbered.renumber_nodes.Goals as goal

pub loop-n-preserved : goal.loop-n-preserved
loop-n-preserved g c = grind (arith, common_steps, map_over_more (g.N.Numbering.number_of c.args.numbers.now))
