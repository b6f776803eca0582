use Rattle.std.proofs.Common.{◌++◌, ◌∷◌, [], ◌∙◌, ap, append-nil, arith, sym}
use Rattle.aig_circuit.specs.Renumber.{renumbered_latch}
use Rattle.aig_change.specs.Merge.{shifted}
use Rattle.aig_circuit.proofs.Lists.{mapped_more}
use Rattle.aig_change.proofs.Lists.{mapped_all}
use Rattle.aig_change.proofs.append.latchs.Goals as goal

pub loop-l-init : goal.loop-l-init
loop-l-init c = record { items = sym (append-nil c.args.all.now.items); len = omega arith; capacity = omega arith }

pub renumbered_latch-requires : goal.renumbered_latch-requires
renumbered_latch-requires c = c.requires.below c.loop-l.l-index _ c.loop-l-test.true

pub push_reserved-requires : goal.push_reserved-requires
push_reserved-requires c = omega (arith, c.requires.room, c.loop-l.invariant.len, c.loop-l.invariant.capacity, c.loop-l-test.true)

pub loop-l-preserved : goal.loop-l-preserved
loop-l-preserved c = record {
  items =
      mapped_more (renumbered_latch (shifted c.args.numbers.now.count)) c.args.added.now c.loop-l.l-index _ c.args.all.now.items c.loop-l.all.items c.push_reserved.new.self.items c.loop-l-test.true c.loop-l.invariant.items
      (c.push_reserved.ensures.items ∙ ap (λ made. c.loop-l.all.items ++ made ∷ []) c.renumbered_latch.ensures);
  len = omega (arith, c.loop-l.invariant.len, c.push_reserved.ensures.len);
  capacity = omega (arith, c.loop-l.invariant.capacity, c.push_reserved.ensures.capacity);
}

pub returns : goal.returns
returns c = mapped_all (renumbered_latch (shifted c.args.numbers.now.count)) c.args.added.now c.loop-l.l-index c.args.all.now.items c.loop-l.all.items c.loop-l-test.false c.loop-l.invariant.items
