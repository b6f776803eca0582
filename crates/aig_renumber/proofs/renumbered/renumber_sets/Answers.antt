use Rattle.aig_base.proofs.Words.{map, get_or, length, subst, sym, ap, arith, ◌∙◌, ◌≡◌, All, with_items_is}
use Rattle.std.specs.Vec.{with_items}
use Rattle.aig_circuit.specs.Renumber.{renumbered_edge}
use Rattle.aig_renumber.specs.Numbers.{IsEdgeIn}
use Rattle.aig_renumber.proofs.Sets.{edges_of, set_read, sets-more}
use Rattle.aig_renumber.proofs.renumbered.renumber_sets.Goals as goal

pub renumber_edges-requires : goal.renumber_edges-requires
renumber_edges-requires g c =
    let f = map (renumbered_edge (g.N.Numbering.number_of c.args.numbers.now)) in
    let Have = All (IsEdgeIn (g.N.Numbering.has c.args.numbers.now)) in
    subst Have (sym (c.deref_mut.ensures.value ∙ ap edges_of (sym c.set-item.is)))
    (set_read f c.args.sets.now c.loop-set.sets c.loop-set.set-index c.set-item.result c.loop-set-test.true c.loop-set.auto.sets c.loop-set.invariant c.set-item.is Have c.requires)

pub loop-set-preserved : goal.loop-set-preserved
loop-set-preserved g c =
    let f = map (renumbered_edge (g.N.Numbering.number_of c.args.numbers.now)) in
    let set = get_or c.loop-set.sets c.loop-set.set-index c.set-item.result in
    let new = c.renumber_edges.new.edges in
    let count : length new ≡ set.len = omega (arith, c.renumber_edges.auto.edges, c.deref_mut.ensures.len, set.ok.0) in
    sets-more f c.args.sets.now c.loop-set.sets c.loop-set.set-index c.set-item.result c.loop-set-test.true c.loop-set.auto.sets c.loop-set.invariant c.set-item.is (with_items set new)
    (with_items_is set new count ∙ c.renumber_edges.ensures ∙ ap f (c.deref_mut.ensures.value ∙ ap edges_of (sym c.set-item.is)))
