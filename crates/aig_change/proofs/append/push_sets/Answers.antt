use Rattle.aig_base.proofs.Words.{Vec, Global, List, ◌<◌, ◌++◌, ◌∙◌, ap, append-nil, map, sym, All, take_all}
use Rattle.aig_circuit.specs.declared.edge.AigEdge.{AigEdge}
use Rattle.aig_circuit.specs.Renumber.{renumbered_edge}
use Rattle.aig_renumber.specs.Numbers.{IsEdgeIn}
use Rattle.aig_renumber.proofs.Sets.{set_among}
use Rattle.aig_change.specs.Merge.{shifted}
use Rattle.aig_change.proofs.Lists.{pushed_set}
use Rattle.aig_change.proofs.append.push_sets.Goals as goal

pub moved_set-requires : goal.moved_set-requires
moved_set-requires c = set_among (All (IsEdgeIn (λ n. n < c.args.numbers.now.size))) c.args.added.now c.loop-set.set-index c.set-item.result c.deref.result.now c.loop-set-test.true c.set-item.is c.deref.ensures.value c.requires

pub loop-set-init : goal.loop-set-init
loop-set-init c = sym (append-nil (map (λ (set : Vec AigEdge Global). set.items) c.args.all.now.items))

pub loop-set-preserved : goal.loop-set-preserved
loop-set-preserved c =
    let items = λ (set : Vec AigEdge Global). set.items in
    let moved = map (renumbered_edge (shifted c.args.numbers.now.count)) in
    pushed_set moved c.args.added.now c.loop-set.set-index c.set-item.result c.in_ok-moved.moved c.args.all.now.items c.loop-set.all.items c.push.new.self.items c.loop-set-test.true c.loop-set.invariant
    (c.in_ok-moved.ensures ∙ ap moved (c.deref.ensures.value ∙ ap items c.set-item.is)) c.in_ok-push.ensures.items

pub returns : goal.returns
returns c =
    let items = λ (set : Vec AigEdge Global). set.items in
    c.loop-set.invariant ∙ ap (λ (sets : List (Vec AigEdge Global)). map items c.args.all.now.items ++ map (map (renumbered_edge (shifted c.args.numbers.now.count))) (map items sets)) (take_all c.loop-set.set-index c.args.added.now c.loop-set-test.false)
