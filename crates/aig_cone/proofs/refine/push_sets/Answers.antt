use Rattle.aig_base.proofs.Words.{ℕ, Vec, Global, ◌++◌, ◌∙◌, List, ap, append-nil, map, sym, flat_map, take_all}
use Rattle.aig_circuit.specs.declared.edge.AigEdge.{AigEdge}
use Rattle.aig_cone.proofs.Keeping.{appended_more, set_nodes-push}
use Rattle.aig_cone.proofs.refine.push_sets.Goals as goal

abbrev nodes : List (Vec AigEdge Global) → List ℕ
nodes sets = map (λ (e : AigEdge). e.node_id) (flat_map (λ (set : Vec AigEdge Global). set.items) sets)

pub loop-set-init : goal.loop-set-init
loop-set-init c = sym (append-nil c.args.roots.now.items)

pub loop-set-preserved : goal.loop-set-preserved
loop-set-preserved c =
    let node = λ (e : AigEdge). e.node_id in
    appended_more nodes (λ (set : Vec AigEdge Global). map node set.items) set_nodes-push c.args.sets.now c.loop-set.set-index c.set-item.result c.args.roots.now.items c.loop-set.roots.items c.push_nodes.new.roots.items c.loop-set-test.true c.loop-set.invariant
    (c.in_ok-push_nodes.ensures ∙ ap (λ (es : List AigEdge). c.loop-set.roots.items ++ map node es) (c.deref.ensures.value ∙ ap (λ (set : Vec AigEdge Global). set.items) c.set-item.is))

pub returns : goal.returns
returns c = c.loop-set.invariant ∙ ap (λ sets. c.args.roots.now.items ++ nodes sets) (take_all c.loop-set.set-index c.args.sets.now c.loop-set-test.false)
