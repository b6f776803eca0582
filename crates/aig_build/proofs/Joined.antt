-- What the proofs of several builders share.
use Rattle.std.proofs.Common.{◌≡◌, ℕ, Bool, true, false, not, ◌&&◌, ◌||◌, List, length, take, refl, ap, ◌∙◌, arith}
use Rattle.aig_circuit.specs.declared.edge.AigEdge.{AigEdge}
use Rattle.aig_circuit.specs.declared.node.AigNode.{AigNode}
use Rattle.aig_circuit.proofs.Words.{inverse, edge_value, GivesEdge, Grows, IsInRange}
use Rattle.aig_circuit.proofs.Building.{take-Grows}
use Rattle.aig_circuit.proofs.Joining.{GivesEdge-inverse, GivesEdge-same, edge_value-inverse}

-- nodes that have grown, and are cut back to so many as there were, are the old ones
pub cut_back : (old mid new : List AigNode) (count : ℕ) → Grows old mid → count ≡ length old
    → new ≡ take count mid → new ≡ old
cut_back old mid new count grows before cut = cut ∙ ap (λ n. take n mid) before ∙ take-Grows old mid grows

-- an edge of the old nodes is one of the new ones
pub still_there : (old new : List AigNode) (e : AigEdge) → Grows old new → IsInRange old e
    → IsInRange new e
still_there old new e grows there = let longer = grows.longer in omega arith

-- not both inverses is either
either : (a b : Bool) → not (not a && not b) ≡ (a || b)
either true b = refl
either false true = refl
either false false = refl

-- the inverse of the and of inverses is the or
pub GivesEdge-or : (old new : List AigNode) (a b first second e f : AigEdge) → first ≡ inverse a → second ≡ inverse b → f ≡ inverse e
    → GivesEdge new (λ x. edge_value old x first && edge_value old x second) e
    → GivesEdge new (λ x. edge_value old x a || edge_value old x b) f
GivesEdge-or old new a b first second e f p q r gives =
    rw r (GivesEdge-same new (inverse e) (λ x.
    ap not (ap (λ (u : AigEdge). edge_value old x u && edge_value old x second) p ∙ ap (λ (u : AigEdge). edge_value old x (inverse a) && edge_value old x u) q)
    ∙ ap (λ v. not (v && edge_value old x (inverse b))) (edge_value-inverse old x a)
    ∙ ap (λ v. not (not (edge_value old x a) && v)) (edge_value-inverse old x b)
    ∙ either (edge_value old x a) (edge_value old x b)) (GivesEdge-inverse new e gives))
