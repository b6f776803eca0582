use Rattle.aig_base.proofs.Words.{nat_cmp, get-empty}
use Rattle.aig_cone.proofs.Numbers.{get-more}
use Rattle.aig_cone.proofs.refine.old_numbers.Goals as goal

pub loop-i-init : goal.loop-i-init
loop-i-init c n = rw c.new-map.ensures (get-empty nat_cmp n)

pub loop-i-preserved : goal.loop-i-preserved
loop-i-preserved c n =
    rw (c.in_ok-insert.ensures.ok, c.new.ensures, c.new-in-loop-i.ensures) (get-more c.args.kept.now c.loop-i.i c.loop-i.map c.loop-i-test.true c.loop-i.invariant n)
