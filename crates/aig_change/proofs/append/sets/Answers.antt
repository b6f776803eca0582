use Rattle.aig_base.proofs.Words.{Vec, Global, List, ◌++◌, ◌∙◌, ap, map, map-append}
use Rattle.aig_circuit.specs.declared.edge.AigEdge.{AigEdge}
use Rattle.aig_circuit.specs.Renumber.{renumbered_edge}
use Rattle.aig_change.specs.Merge.{shifted}
use Rattle.aig_change.proofs.append.sets.Goals as goal

pub push_sets-requires : goal.push_sets-requires
push_sets-requires c = c.requires

pub returns-clause-ok : goal.returns-clause-ok
returns-clause-ok c =
    let items = λ (set : Vec AigEdge Global). set.items in
    let moved = map (map (renumbered_edge (shifted c.args.numbers.now.count))) (map items c.args.added.now) in
    let made = c.in_ok-push_sets.ensures ∙ ap (λ (start : List (Vec AigEdge Global)). map items start ++ moved) c.in_ok-moved.ensures.items in
    ap (map items) c.in_ok-append.ensures.items ∙ map-append items c.args.all.now.items c.push_sets.new.all.items ∙ ap (λ sets. map items c.args.all.now.items ++ sets) made
