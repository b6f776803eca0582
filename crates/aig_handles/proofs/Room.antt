-- How many nodes there are once edges are joined.
use Rattle.aig_base.proofs.Words.{◌≡◌, ℕ, ◌+◌, ◌-◌, ◌<◌, ◌≤◌, ◌^◌, List, [], ◌∷◌, length, map, ap, sym, subst, ◌∙◌, inl, inr, arith, length-append, length-map}
use Rattle.aig_circuit.specs.declared.edge.AigEdge.{AigEdge}
use Rattle.aig_circuit.specs.declared.node.AigNode.{AigNode}
use Rattle.aig_circuit.proofs.Words.{Circuit, and_of, inverse}
use Rattle.aig_circuit.specs.Build.{AddsGate, FoldsOrAdds, FoldsOrAddsAll, FoldsOrAddsEq, JoinsFromLeft}
use Rattle.aig_handles.specs.declared.connectives.Connective.{Connective}
use Rattle.aig_handles.specs.declared.connectives.Connective.TheVariants as two
use Rattle.aig_handles.specs.declared.connectives.ListConnective.{ListConnective}
use Rattle.aig_handles.specs.declared.connectives.ListConnective.TheVariants as many
use Rattle.aig_handles.specs.Connectives.{Adds, AddsAll, Joins, JoinsAll, gates}

gate_more : (old new : List AigNode) (a b e : AigEdge) → AddsGate old new a b e
    → length new ≤ length old + 1
gate_more old new a b e adds =
    let long : length new ≡ length old + 1 =
    ap length adds.gate ∙ length-append old
    (record { node_id = length old; typ = and_of a b } ∷ []) in
    omega (arith, long)

fold_more : (old new : List AigNode) (a b e : AigEdge) → FoldsOrAdds old new a b e
    → length new ≤ length old + 1
fold_more old new a b e (inl folds) = omega (arith, ap length folds.1)
fold_more old new a b e (inr adds) = gate_more old new a b e adds.1

adds_few : (by : Connective) (old new : List AigNode) (a b e : AigEdge) → Adds by old new a b e
    → length new ≤ length old + gates by
adds_few two.TrivialAnd old new a b e adds = gate_more old new a b e adds
adds_few two.And old new a b e adds = fold_more old new a b e adds
adds_few two.TrivialOr old new a b e adds =
    gate_more old new (inverse a) (inverse b) (inverse e) adds
adds_few two.Or old new a b e adds = fold_more old new (inverse a) (inverse b) (inverse e) adds
adds_few two.Imply old new a b e adds = fold_more old new a (inverse b) (inverse e) adds
adds_few two.Equal old new a b e made =
    omega (
      arith,
      fold_more old made.one a b made.both made.is_both,
      fold_more made.one made.two (inverse a) (inverse b) made.neither made.is_neither,
      fold_more made.two new (inverse made.both) (inverse made.neither) (inverse e) made.is_either,
    )

-- where there is room, the edge has a literal
pub joined_below : (by : Connective) (old new : Circuit) (a b e : AigEdge) → Joins by old new a b e
    → length old.nodes + gates by ≤ 2 ^ 31 → e.node_id < 2 ^ 31
joined_below by old new a b e joins room =
    omega (arith, room, joins.gives.there, adds_few by old.nodes new.nodes a b e joins.adds)

-- ---- lists

left_more : (es : List AigEdge) (old new : List AigNode) (all e : AigEdge)
    → JoinsFromLeft FoldsOrAdds old all es new e → length new ≤ length old + length es
left_more [] old new all e made = omega (arith, ap length made.0)
left_more (f ∷ fs) old new all e made =
    omega (arith, fold_more old made.0 all f made.1 made.2, left_more fs made.0 new made.1 e made.3)

inverses_more : (es : List AigEdge) (old new : List AigNode) (e : AigEdge)
    → FoldsOrAddsAll old (map inverse es) new e → length new ≤ length old + length es
inverses_more es old new e made =
    let long = length-map es inverse in
    let more = left_more (map inverse es) old new _ e made in omega (arith, long, more)

adds_all_few : (by : ListConnective) (old new : List AigNode) (es : List AigEdge) (e : AigEdge)
    → AddsAll by old new es e → length new ≤ length old + length es
adds_all_few many.TrivialAnds old new es e adds = omega (arith, adds.1)
adds_all_few many.Ands old new es e adds = left_more es old new _ e adds
adds_all_few many.TrivialOrs old new es e adds = omega (arith, adds.1)
adds_all_few many.Ors old new es e adds = inverses_more es old new (inverse e) adds

-- where there is room, the edge has a literal
pub all_joined_below : (by : ListConnective) (old new : Circuit) (es : List AigEdge) (e : AigEdge)
    → JoinsAll by old new es e → length old.nodes + length es ≤ 2 ^ 31 → e.node_id < 2 ^ 31
all_joined_below many.TrivialAnds old new es e joins room =
    omega (arith, room, joins.joins.gives.there, adds_all_few many.TrivialAnds old.nodes new.nodes es e joins.adds)
all_joined_below many.Ands old new es e joins room =
    omega (arith, room, joins.joins.gives.there, adds_all_few many.Ands old.nodes new.nodes es e joins.adds)
all_joined_below many.TrivialOrs old new es e joins room =
    omega (arith, room, joins.joins.gives.there, adds_all_few many.TrivialOrs old.nodes new.nodes es e joins.adds)
all_joined_below many.Ors old new es e joins room =
    omega (arith, room, joins.joins.gives.there, adds_all_few many.Ors old.nodes new.nodes es e joins.adds)
