-- What list builders take of a list.
use Rattle.aig_base.proofs.Words.{◌≡◌, ◌<◌, ◌^◌, List, Vec, Global, sym, ap, subst, ◌∙◌}
use Rattle.std.specs.Iterator.Runs.{EveryRun, ItemsAre}
use Rattle.std.specs.Vec.{vec_len}
use Rattle.std.specs.Vec.Iter.{into_iter_items, into_iter_len, into_iter_steps}
use Rattle.aig.specs.Items.{TakesItems}
use Rattle.aig_circuit.specs.declared.edge.AigEdge.{AigEdge}

-- all of a list is taken
pub taken : (v : Vec AigEdge Global) (P : List AigEdge → Type 0)
    → TakesItems (λ v r. (into_iter_items r ≡ v.items) × (into_iter_len r ≡ vec_len v)
    × (into_iter_len r < 2 ^ 64)
    × EveryRun (into_iter_steps {X = AigEdge} {Z = Global}) (λ p. ItemsAre p (into_iter_items p.from)))
    (into_iter_steps {X = AigEdge} {Z = Global}) v P → P v.items
taken v P took =
    let run = took.2 in let p = run.0 in
    subst P ((took.1.3 p p.seen).4 run.2 ∙ ap into_iter_items run.1 ∙ took.1.0) run.3
