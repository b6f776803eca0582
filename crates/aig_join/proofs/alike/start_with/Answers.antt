use Rattle.aig_base.proofs.Words.{None, ap, set, ◌∙◌}
use Rattle.aig_join.proofs.Started.{started-end, started-more}
use Rattle.aig_join.proofs.alike.start_with.Goals as goal

pub loop-i-preserved : goal.loop-i-preserved
loop-i-preserved c = ap (set c.loop-i.latchs c.loop-i.i) c.started.ensures
    ∙ started-more c.args.places.now c.args.latchs.now c.loop-i.latchs c.loop-i.i None _ c.requires
    c.loop-i-test.true c.loop-i.invariant

pub returns : goal.returns
returns c =
    started-end c.args.places.now c.args.latchs.now c.loop-i.latchs c.loop-i.i
    c.loop-i-test.false c.loop-i.invariant
