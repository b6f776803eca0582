use Rattle.aig_base.proofs.Words.{◌≡◌, ℕ, ◌+◌, ◌<◌, ◌++◌, List, [], ◌∷◌, false, length, map, take, get_or, sym, ap, ◌∙◌, map-append, take_all, take_more}
use Rattle.aig_circuit.specs.declared.edge.AigEdge.{AigEdge}
use Rattle.aig_circuit.specs.Edge.{edge_to, inverse}
use Rattle.aig_build.proofs.build.inverses_of.Goals as goal

-- one edge more
one_more : (edges inverses : List AigEdge) (i : ℕ) (e : AigEdge) → i < length edges
    → inverses ≡ map inverse (take i edges) → e ≡ inverse (get_or edges i (edge_to 0 false))
    → inverses ++ (e ∷ []) ≡ map inverse (take (i + 1) edges)
one_more edges inverses i e within so_far is =
    ap (λ l. l ++ (e ∷ [])) so_far ∙ ap (λ (f : AigEdge). map inverse (take i edges) ++ (f ∷ [])) is
    ∙ sym (ap (map inverse) (take_more edges i (edge_to 0 false) within) ∙ map-append inverse (take i edges) (get_or edges i (edge_to 0 false) ∷ []))

pub loop-e-init : goal.loop-e-init
loop-e-init c = c.in_ok-inverses.ensures.items

pub loop-e-preserved : goal.loop-e-preserved
loop-e-preserved c = c.in_ok-push.ensures.items ∙ one_more c.args.edges.now c.loop-e.inverses.items c.loop-e.e-index c.not.result c.loop-e-test.true c.loop-e.invariant c.not.ensures

pub returns : goal.returns
returns c = c.loop-e.invariant ∙ ap (map inverse) (take_all c.loop-e.e-index c.args.edges.now c.loop-e-test.false)
