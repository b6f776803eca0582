use Rattle.aig_base.proofs.Words.{Contains, Contains-get_or, get_or, subst, sym}
use Rattle.aig_bounded.proofs.Lowered.{lowers_one_more}
use Rattle.aig_bounded.proofs.Stepped.{no_latch}
use Rattle.aig_bounded.proofs.depths.lower_next.Goals as goal

pub loop-latch-preserved : goal.loop-latch-preserved
loop-latch-preserved c = record {
  lowers = lowers_one_more c.args.latchs.now c.loop-latch.latch-index no_latch c.args.last c.args.depths.now c.loop-latch.depths c.lower_latch-lowered.new.depths c.loop-latch.lowered c.lower_latch-lowered.result c.loop-latch-test.true c.loop-latch.invariant.lowers c.lower_latch-lowered.ensures.lowers;
  read = λ d same read.
      let latchs = c.args.latchs.now in
      let latch = get_or latchs c.loop-latch.latch-index no_latch in
      c.lower_latch-lowered.ensures.read d (subst (λ ls. Contains ls latch) (sym same) (Contains-get_or latchs c.loop-latch.latch-index no_latch c.loop-latch-test.true)) (c.loop-latch.invariant.read d same read);
}
