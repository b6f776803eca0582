-- The first edge of a list joined with another.
use Rattle.aig_base.proofs.Words.{◌≡◌, ◌<◌, ◌&&◌, List, [], ◌∷◌, length, get_or, suc, set, refl, subst, ◌∙◌, arith, All, All-cons, same_Some}
use Rattle.aig_circuit.specs.declared.edge.AigEdge.{AigEdge}
use Rattle.aig_circuit.specs.declared.node.AigNode.{AigNode}
use Rattle.aig_circuit.proofs.Words.{edge_value, IsInRange, FoldsOrAdds, GivesEdge}
use Rattle.aig_change.specs.Joining.{JoinsFirst}

-- the and takes the place of the first edge
pub JoinsFirst-set : (old new : List AigNode) (next made first : AigEdge) (edges : List AigEdge) → 0 < length edges → first ≡ get_or edges 0 first → All (IsInRange new) edges
    → FoldsOrAdds old new first next made → GivesEdge new (λ x. edge_value old x first && edge_value old x next) made → JoinsFirst old new next edges (set edges 0 made)
JoinsFirst-set old new next made first [] h is there rule gives = absurd (omega arith)
JoinsFirst-set old new next made first (e ∷ es) h is there rule gives = record {
  others = refl;
  count = refl;
  there = All-cons (IsInRange new) made es gives.there (λ k d l. there (suc k) d (omega arith));
  none = λ none. cc;
  rule = λ d f is_d is_f. subst (λ g. FoldsOrAdds old new g next f) (is ∙ same_Some _ _ is_d) (subst (FoldsOrAdds old new first next) (same_Some _ _ is_f) rule);
  gives = λ d f is_d is_f. subst (λ g. GivesEdge new (λ x. edge_value old x g && edge_value old x next) f) (is ∙ same_Some _ _ is_d)
      (subst (GivesEdge new (λ x. edge_value old x first && edge_value old x next)) (same_Some _ _ is_f) gives);
}
