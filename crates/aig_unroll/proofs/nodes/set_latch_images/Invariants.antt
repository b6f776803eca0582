use Rattle.aig_unroll.specs.Step.{HasLatchImages}
use Rattle.aig_unroll.proofs.nodes.set_latch_images.Given as goal

abbrev pub invariant-loop-i : goal.invariant-loop-i
invariant-loop-i l = HasLatchImages l.latchs l.current l.i l.unset l.images
