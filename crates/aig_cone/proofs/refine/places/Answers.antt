use Rattle.std.proofs.Common.{◌<◌, arith, get_or, length, length-set, subst, sym, ◌∙◌}
use Rattle.aig_base.proofs.Words.{All}
use Rattle.aig_cone.proofs.Numbers.{places-put, within-none, within-put}
use Rattle.aig_cone.proofs.refine.places.Goals as goal

pub loop-i-init : goal.loop-i-init
loop-i-init c = record {
  count = sym c.in_ok-numbers.numbers.ok.0 ∙ c.in_ok-numbers.ensures.len;
  within = subst (All (λ n. n < length c.args.kept.now)) (sym (c.in_ok-numbers.ensures.items_if_clones_equal (λ y e. e))) (within-none c.args.kept.now c.args.count c.requires.some);
  places = λ k h. absurd (omega arith);
}

pub index_mut-requires : goal.index_mut-requires
index_mut-requires c = rw (c.loop-i.numbers.ok.0, c.loop-i.invariant.count) (c.requires.there c.loop-i.i 0 c.loop-i-test.true)

pub loop-i-preserved : goal.loop-i-preserved
loop-i-preserved c = record {
  count = length-set c.loop-i.numbers.items (get_or c.args.kept.now c.loop-i.i 0) c.loop-i.i ∙ c.loop-i.invariant.count;
  within = within-put c.args.kept.now c.loop-i.numbers.items (get_or c.args.kept.now c.loop-i.i 0) c.loop-i.i c.loop-i-test.true c.loop-i.invariant.within;
  places = places-put c.args.kept.now c.loop-i.numbers.items c.loop-i.i c.requires.rising (rw c.loop-i.invariant.count c.requires.there) c.loop-i-test.true c.loop-i.invariant.places;
}

pub returns : goal.returns
returns c = record {
  count = c.loop-i.invariant.count;
  within = c.loop-i.invariant.within;
  places = λ k h. c.loop-i.invariant.places k (omega (arith, c.loop-i-test.false));
}
