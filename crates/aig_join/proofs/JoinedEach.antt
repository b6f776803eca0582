-- The and of each edge of a list with one edge.
use Rattle.aig_base.proofs.Words.{◌≡◌, ℕ, suc, ◌+◌, ◌<◌, Bool, ◌&&◌, List, [], ◌∷◌, ◌++◌, length, take, get_or, refl, sym, ap, subst, ◌∙◌, arith, All, AllZip, take_more, All-cons, All-head, All-nil, All-tail}
use Rattle.aig_circuit.specs.declared.edge.AigEdge.{AigEdge}
use Rattle.aig_circuit.specs.declared.node.AigNode.{AigNode}
use Rattle.aig_circuit.proofs.Words.{AddsGates, FoldsOrAdds, GivesEdge, Grows, AreNodes, IsInRange, edge_value}
use Rattle.aig_circuit.proofs.Building.{AddsGates-itself, AddsGates-then, Grows-then}
use Rattle.aig_join.specs.Constraints.{AreJoined, IsJoined}

-- gates alone are added
pub AreJoined-gates : (old : List AigNode) (all : AigEdge) (es ds : List AigEdge)
    (new : List AigNode) → AreNodes old → AreJoined old all es ds new → AddsGates old new
AreJoined-gates old all [] [] new are joins = subst (AddsGates old) (sym joins)
    (AddsGates-itself old are)
AreJoined-gates old all [] (d ∷ ds) new are joins = absurd joins
AreJoined-gates old all (e ∷ es) [] new are joins = absurd joins
AreJoined-gates old all (e ∷ es) (d ∷ ds) new are joins = AddsGates-then old joins.0 new
    joins.1.gates (AreJoined-gates joins.0 all es ds new joins.1.gates.grows.sound joins.2)

-- there is an edge for each
pub AreJoined-count : (old : List AigNode) (all : AigEdge) (es ds : List AigEdge)
    (new : List AigNode) → AreJoined old all es ds new → length ds ≡ length es
AreJoined-count old all [] [] new joins = refl
AreJoined-count old all [] (d ∷ ds) new joins = absurd joins
AreJoined-count old all (e ∷ es) [] new joins = absurd joins
AreJoined-count old all (e ∷ es) (d ∷ ds) new joins = ap suc
    (AreJoined-count joins.0 all es ds new joins.2)

-- each is one of the new nodes
pub AreJoined-there : (old : List AigNode) (all : AigEdge) (es ds : List AigEdge)
    (new : List AigNode) → AreJoined old all es ds new → All (IsInRange new) ds
AreJoined-there old all [] [] new joins = All-nil (IsInRange new)
AreJoined-there old all [] (d ∷ ds) new joins = absurd joins
AreJoined-there old all (e ∷ es) [] new joins = absurd joins
AreJoined-there old all (e ∷ es) (d ∷ ds) new joins =
    let longer = (AreJoined-gates joins.0 all es ds new joins.1.gates.grows.sound
    joins.2).grows.longer in
    let low = joins.1.gives.there in
    All-cons (IsInRange new) d ds (omega arith) (AreJoined-there joins.0 all es ds new joins.2)

-- one edge more
AreJoined-push : (old : List AigNode) (all : AigEdge) (es ds : List AigEdge)
    (mid new : List AigNode) (e d : AigEdge) → AreJoined old all es ds mid
    → IsJoined mid new all e d → AreJoined old all (es ++ e ∷ []) (ds ++ d ∷ []) new
AreJoined-push old all [] [] mid new e d joins more =
    (new, subst (λ nodes. IsJoined nodes new all e d) joins more, refl)
AreJoined-push old all [] (d' ∷ ds) mid new e d joins more = absurd joins
AreJoined-push old all (e' ∷ es) [] mid new e d joins more = absurd joins
AreJoined-push old all (e' ∷ es) (d' ∷ ds) mid new e d joins more =
    (joins.0, joins.1, AreJoined-push joins.0 all es ds mid new e d joins.2 more)

-- one edge more of a list
pub AreJoined-more : (old : List AigNode) (all : AigEdge) (es ds after : List AigEdge)
    (mid new : List AigNode) (d : AigEdge) (i : ℕ) (c : AigEdge) → i < length es
    → AreJoined old all (take i es) ds mid → AddsGates mid new
    → FoldsOrAdds mid new (get_or es i c) all d
    → GivesEdge new (λ x. edge_value mid x (get_or es i c) && edge_value mid x all) d
    → after ≡ ds ++ d ∷ [] → AreJoined old all (take (i + 1) es) after new
AreJoined-more old all es ds after mid new d i c h so_far gates rule gives pushed =
    let e = get_or es i c in
    let one = AreJoined-push old all (take i es) ds mid new e d so_far
    (record { gates = gates; rule = rule; gives = gives }) in
    subst (λ (l : List AigEdge). AreJoined old all (take (i + 1) es) l new) (sym pushed)
    (subst (λ (l : List AigEdge). AreJoined old all l (ds ++ d ∷ []) new)
    (sym (take_more es i c h)) one)

-- each has the value of its edge and of the one edge, also over nodes that grow on
pub AreJoined-values : (old : List AigNode) (all : AigEdge) (es ds : List AigEdge)
    (new end : List AigNode) → AreNodes old → AreJoined old all es ds new → Grows new end
    → IsInRange old all → All (IsInRange old) es → (x : ℕ → Bool) (f : AigEdge → Bool) (p : Bool)
    → edge_value old x all ≡ p → All (λ e. edge_value old x e ≡ f e) es
    → AllZip (λ e d. edge_value end x d ≡ (f e && p)) es ds
AreJoined-values old all [] [] new end are joins grows low range x f p all_is values = tt
AreJoined-values old all [] (d ∷ ds) new end are joins grows low range x f p all_is values =
    absurd joins
AreJoined-values old all (e ∷ es) [] new end are joins grows low range x f p all_is values =
    absurd joins
AreJoined-values old all (e ∷ es) (d ∷ ds) new end are joins grows low range x f p all_is values =
    let mid = joins.0 in
    let first = joins.1 in
    let more = first.gates.grows in
    let longer = more.longer in
    let rest = AreJoined-gates mid all es ds new more.sound joins.2 in
    let to_end = Grows-then mid new end rest.grows grows in
    let others = All-tail (IsInRange old) e es range in
    let here : edge_value end x d ≡ (f e && p) =
    to_end.values x d first.gives.there ∙ first.gives.value x
    ∙ ap (λ v. edge_value old x e && v) all_is
    ∙ ap (λ v. v && p) (All-head (λ e. edge_value old x e ≡ f e) e es values) in
    let wide : All (IsInRange mid) es = λ k d h. let l = others k d h in omega arith in
    let kept : All (λ e. edge_value mid x e ≡ f e) es = λ k d h.
    more.values x (get_or es k d) (others k d h)
    ∙ All-tail (λ e. edge_value old x e ≡ f e) e es values k d h in (
      here,
      AreJoined-values mid all es ds new end more.sound joins.2 grows (omega arith) wide x f p
          (more.values x all low ∙ all_is) kept,
    )
