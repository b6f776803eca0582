use Rattle.std.proofs.Common.{◌++◌, ◌∷◌, [], ◌∙◌, ap, append-nil, arith, sym}
use Rattle.aig_circuit.specs.Renumber.{renumbered_edge}
use Rattle.aig_change.specs.Merge.{shifted}
use Rattle.aig_circuit.proofs.Lists.{mapped_more}
use Rattle.aig_change.proofs.Lists.{mapped_all}
use Rattle.aig_change.proofs.append.edges.Goals as goal

pub loop-e-init : goal.loop-e-init
loop-e-init c = record { items = sym (append-nil c.args.all.now.items); len = omega arith; capacity = omega arith }

pub renumbered_edge-requires : goal.renumbered_edge-requires
renumbered_edge-requires c = c.requires.below c.loop-e.e-index _ c.loop-e-test.true

pub push_reserved-requires : goal.push_reserved-requires
push_reserved-requires c = omega (arith, c.requires.room, c.loop-e.invariant.len, c.loop-e.invariant.capacity, c.loop-e-test.true)

pub loop-e-preserved : goal.loop-e-preserved
loop-e-preserved c = record {
  items =
      mapped_more (renumbered_edge (shifted c.args.numbers.now.count)) c.args.added.now c.loop-e.e-index _ c.args.all.now.items c.loop-e.all.items c.push_reserved.new.self.items c.loop-e-test.true c.loop-e.invariant.items
      (c.push_reserved.ensures.items ∙ ap (λ made. c.loop-e.all.items ++ made ∷ []) c.renumbered_edge.ensures);
  len = omega (arith, c.loop-e.invariant.len, c.push_reserved.ensures.len);
  capacity = omega (arith, c.loop-e.invariant.capacity, c.push_reserved.ensures.capacity);
}

pub returns : goal.returns
returns c = mapped_all (renumbered_edge (shifted c.args.numbers.now.count)) c.args.added.now c.loop-e.e-index c.args.all.now.items c.loop-e.all.items c.loop-e-test.false c.loop-e.invariant.items
