-- Marks of the nodes that edges name.
use Rattle.aig_base.proofs.Words.{◌≡◌, ℕ, ◌+◌, ◌<◌, ◌⊎◌, ◌↔◌, Bool, true, List, [], ◌∷◌, ◌++◌, length, map, take, drop, get_or, set, get_or-set_other, get_or-set_same, sym, ap, subst, ◌∙◌, arith, inl, inr, take-append_seam, All, Contains, flat_map, cases_eq, Contains-append_left, Contains-append_right, Contains-append_cases, Contains-push, Contains-push_cases, All-contains, All-map}
use Rattle.std.proofs.lemmas.List.{take_more, flat_map_more, map-append, get_or-map, length-map}
use Rattle.aig_circuit.specs.declared.edge.AigEdge.{AigEdge}
use Rattle.aig_circuit.proofs.Words.{ReferTo, IsMarked, AddsEdgeMarks}

-- what holds of the node of each edge holds of each node that they name
pub named_has : (P : ℕ → Type 0) (es : List AigEdge) (n : ℕ) → All (λ e. P e.node_id) es → ReferTo es n → P n
named_has P es n all named = All-contains P (map (λ (e : AigEdge). e.node_id) es) n (All-map P (λ (e : AigEdge). e.node_id) es all) named

pub each_named : (P : ℕ → Type 0) (es : List AigEdge) → ((n : ℕ) → ReferTo es n → P n) → All (λ e. P e.node_id) es
each_named P es each k d h =
    let within : k < length (map (λ (e : AigEdge). e.node_id) es) = rw length-map h in
    each (get_or es k d).node_id (k, within, get_or-map (λ (e : AigEdge). e.node_id) es k d (get_or es k d).node_id h)

none_named : (n : ℕ) → ¬ ReferTo [] n
none_named n (k, h, e) = absurd (omega arith)

named_append : (es fs : List AigEdge) (n : ℕ) → ReferTo (es ++ fs) n ↔ (ReferTo es n ⊎ ReferTo fs n)
named_append es fs n =
    let numbers = map (λ (e : AigEdge). e.node_id) in
    let both : numbers (es ++ fs) ≡ numbers es ++ numbers fs = map-append (λ (e : AigEdge). e.node_id) es fs in (
      λ h. Contains-append_cases (numbers es) (numbers fs) n (subst (λ ns. Contains ns n) both h),
      λ h. subst (λ ns. Contains ns n) (sym both) (elim h [ inl l ↦ Contains-append_left (numbers es) (numbers fs) n l | inr r ↦ Contains-append_right (numbers es) (numbers fs) n r ]),
    )

named_one : (e : AigEdge) (n : ℕ) → ReferTo (e ∷ []) n ↔ (e.node_id ≡ n)
named_one e n = (
  λ h. elim (Contains-push_cases [] e.node_id n h) [ inl l ↦ absurd (none_named n l) | inr r ↦ r ],
  λ h. subst (Contains (e.node_id ∷ [])) h (Contains-push [] e.node_id),
)

-- a mark that is set, and the others as they were
marked_set : (marks : List Bool) (i n : ℕ) → i < length marks → IsMarked (set marks i true) n ↔ (IsMarked marks n ⊎ (i ≡ n))
marked_set marks i n h = elim (cases_eq n i) [
  | inl e ↦ (λ m. inr (sym e), λ m. rw (e, get_or-set_same))
  | inr ne ↦ (λ m. inl (rw get_or-set_other at m), λ m. elim m [ inl old ↦ rw get_or-set_other old | inr e ↦ absurd (ne (sym e)) ])
]

pub AddsEdgeMarks-then : (a b c : List Bool) (es fs : List AigEdge) → AddsEdgeMarks a b es → AddsEdgeMarks b c fs → AddsEdgeMarks a c (es ++ fs)
AddsEdgeMarks-then a b c es fs p q n = (
  λ m. elim ((q n).0 m) [
    | inl in_b ↦ elim ((p n).0 in_b) [ inl in_a ↦ inl in_a | inr h ↦ inr ((named_append es fs n).1 (inl h)) ]
    | inr h ↦ inr ((named_append es fs n).1 (inr h))
  ],
  λ m. elim m [
    | inl in_a ↦ (q n).1 (inl ((p n).1 (inl in_a)))
    | inr h ↦ elim ((named_append es fs n).0 h) [ inl l ↦ (q n).1 (inl ((p n).1 (inr l))) | inr r ↦ (q n).1 (inr r) ]
  ],
)

pub AddsEdgeMarks-set : (marks : List Bool) (e : AigEdge) → e.node_id < length marks → AddsEdgeMarks marks (set marks e.node_id true) (e ∷ [])
AddsEdgeMarks-set marks e h n =
    let written = marked_set marks e.node_id n h in (
      λ m. elim (written.0 m) [ inl was ↦ inl was | inr here ↦ inr ((named_one e n).1 here) ],
      λ m. elim m [ inl was ↦ written.1 (inl was) | inr named ↦ written.1 (inr ((named_one e n).0 named)) ],
    )

-- one more edge
pub AddsEdgeMarks-more : (es : List AigEdge) (i : ℕ) (d : AigEdge) (a b c : List Bool) → i < length es → AddsEdgeMarks a b (take i es) → AddsEdgeMarks b c (get_or es i d ∷ []) → AddsEdgeMarks a c (take (i + 1) es)
AddsEdgeMarks-more es i d a b c h p q = subst (AddsEdgeMarks a c) (sym (take_more es i d h)) (AddsEdgeMarks-then a b c (take i es) (get_or es i d ∷ []) p q)

-- the edges of one element more
pub AddsEdgeMarks-more_of : {X : Type 0} (edges : X → List AigEdge) (xs : List X) (i : ℕ) (d : X) (a b c : List Bool) → i < length xs → AddsEdgeMarks a b (flat_map edges (take i xs)) → AddsEdgeMarks b c (edges (get_or xs i d)) → AddsEdgeMarks a c (flat_map edges (take (i + 1) xs))
AddsEdgeMarks-more_of edges xs i d a b c h p q =
    let more : flat_map edges (take (i + 1) xs) ≡ flat_map edges (take i xs) ++ edges (get_or xs i d) =
    ap (flat_map edges) (take_more xs i d h) ∙ sym (flat_map_more edges [] (take i xs) (get_or xs i d)) in
    subst (AddsEdgeMarks a c) (sym more) (AddsEdgeMarks-then a b c (flat_map edges (take i xs)) (edges (get_or xs i d)) p q)

-- the marks that are held are those that were lent
pub whole : (marks lent : List Bool) → length lent ≡ length marks → take (length marks) (lent ++ drop (length lent) marks) ≡ lent
whole marks lent same = rw (sym same) (take-append_seam lent (drop (length lent) marks))
