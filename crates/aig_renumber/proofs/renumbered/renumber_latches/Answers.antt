use Rattle.aig_base.proofs.Words.{arith, common_steps, map_over_more}
use Rattle.aig_circuit.specs.Renumber.{renumbered_latch}
use Rattle.aig_renumber.proofs.renumbered.renumber_latches.Goals as goal

pub loop-latch-preserved : goal.loop-latch-preserved
loop-latch-preserved g c = grind (arith, common_steps, map_over_more (renumbered_latch (g.N.Numbering.number_of c.args.numbers.now)))
