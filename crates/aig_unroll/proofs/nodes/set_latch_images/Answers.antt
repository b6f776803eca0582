use Rattle.std.proofs.Common.{arith}
use Rattle.aig_unroll.proofs.Table.{HasLatchImages-more, no_latch}
use Rattle.aig_unroll.proofs.nodes.set_latch_images.Goals as goal

pub loop-i-preserved : goal.loop-i-preserved
loop-i-preserved c =
    let i = c.loop-i.i in
    let more = HasLatchImages-more c.args.latchs.now c.args.current.now i c.args.unset c.loop-i.images no_latch no_latch c.loop-i-test.true (omega arith) (omega (arith, c.requires.leaves i no_latch c.loop-i-test.true)) c.requires.distinct c.loop-i.invariant in
    rw (c.input.ensures, c.next.ensures) more
