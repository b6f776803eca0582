use Rattle.aig_base.proofs.Words.{arith, common_steps, map_over_more}
use Rattle.aig_change.specs.Changes.{with_constant_start}
use Rattle.aig_change.proofs.inits.make_plain.Goals as goal

pub loop-latch-preserved : goal.loop-latch-preserved
loop-latch-preserved c = grind (arith, common_steps, map_over_more with_constant_start)
