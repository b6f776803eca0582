use Rattle.std.proofs.Common.{◌++◌, ◌∷◌, [], ◌∙◌, ap, append-nil, arith, sym}
use Rattle.aig_change.specs.Merge.{shifted}
use Rattle.aig_circuit.proofs.Lists.{mapped_more}
use Rattle.aig_change.proofs.Lists.{mapped_all}
use Rattle.aig_change.proofs.append.inputs.Goals as goal

pub loop-input-init : goal.loop-input-init
loop-input-init c = record { items = sym (append-nil c.args.all.now.items); len = omega arith; capacity = omega arith }

pub number-requires : goal.number-requires
number-requires c = c.requires.below c.loop-input.input-index _ c.loop-input-test.true

pub push_reserved-requires : goal.push_reserved-requires
push_reserved-requires c = omega (arith, c.requires.room, c.loop-input.invariant.len, c.loop-input.invariant.capacity, c.loop-input-test.true)

pub loop-input-preserved : goal.loop-input-preserved
loop-input-preserved c = record {
  items =
      mapped_more (shifted c.args.numbers.now.count) c.args.added.now c.loop-input.input-index _ c.args.all.now.items c.loop-input.all.items c.push_reserved.new.self.items c.loop-input-test.true c.loop-input.invariant.items
      (c.push_reserved.ensures.items ∙ ap (λ made. c.loop-input.all.items ++ made ∷ []) c.number.ensures);
  len = omega (arith, c.loop-input.invariant.len, c.push_reserved.ensures.len);
  capacity = omega (arith, c.loop-input.invariant.capacity, c.push_reserved.ensures.capacity);
}

pub returns : goal.returns
returns c = mapped_all (shifted c.args.numbers.now.count) c.args.added.now c.loop-input.input-index c.args.all.now.items c.loop-input.all.items c.loop-input-test.false c.loop-input.invariant.items
