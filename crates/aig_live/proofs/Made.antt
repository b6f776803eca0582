-- Edges that are made one after another.
use Rattle.aig_base.proofs.Words.{◌≡◌, ◌⊎◌, ℕ, ◌+◌, ◌-◌, ◌*◌, ◌<◌, ◌≤◌, ◌&&◌, ◌||◌, Bool, true, false, cond, not, List, [], ◌∷◌, ◌++◌, length, get_or, refl, sym, ap, subst, ◌∙◌, inl, inr, arith, length-append, get_or_append_left, get_or-append-add, cases_lt}
use Rattle.aig_circuit.specs.declared.edge.AigEdge.{AigEdge}
use Rattle.aig_circuit.specs.declared.node.AigNode.{AigNode}
use Rattle.aig_circuit.specs.declared.node.AigNodeType.TheVariants.{Leaf}
use Rattle.aig_circuit.proofs.Words.{AddsGates, AreNodes, GivesEdge, Grows, IsInRange, IsLeaf, edge_value, inverse, with_node}
use Rattle.aig_circuit.proofs.Building.{AddsGates-itself, AddsGates-then, Grows-itself, Grows-kept, Grows-longer, Grows-then, edge_value-Grows}
use Rattle.aig_circuit.proofs.Joining.{adds_none-true, edge_value-inverse}
use Rattle.aig_circuit.specs.Node.{and_of}
use Rattle.aig_circuit.specs.Build.{FoldsOrAdds, FoldsOrAddsAll, FoldsOrAddsEq, JoinsFromLeft}
use Rattle.aig_circuit.proofs.Trees.{kind_at-last}
use Rattle.std.specs.Bool.{beq}
use Rattle.aig_live.specs.Making.{AddsLeaves, GivesEach, choice_of}

-- ---- leaves

pub AddsLeaves-none : (old : List AigNode) → AreNodes old → AddsLeaves 0 old old
AddsLeaves-none old are = record {
  grows = Grows-itself old are;
  long = omega arith;
  leaves = λ n h l. absurd (omega (arith, h, l));
}

pub AddsLeaves-more : (count : ℕ) (old mid new : List AigNode) → AddsLeaves count old mid
    → new ≡ with_node mid Leaf → Grows mid new → AddsLeaves (count + 1) old new
AddsLeaves-more count old mid new before is grows =
    let long : length new ≡ length mid + 1 = ap length is
    ∙ length-append mid (record { node_id = length mid; typ = Leaf } ∷ []) in
    record {
      grows = Grows-then old mid new before.grows grows;
      long = omega (arith, long, before.long);
      leaves = λ n h l. by n h l (cases_lt n (length mid));
    }
  where
    last : IsLeaf new (length mid)
    last = subst (λ nodes. IsLeaf nodes (length mid)) (sym is) (kind_at-last mid
        (record { node_id = length mid; typ = Leaf }))

    by : (n : ℕ) → length old ≤ n → n < length new → (n < length mid) ⊎ (length mid ≤ n)
        → IsLeaf new n
    by n h l (inl low) = Grows-kept mid new grows n low ∙ before.leaves n h low
    by n h l (inr high) =
        let long : length new ≡ length mid + 1 = ap length is
        ∙ length-append mid (record { node_id = length mid; typ = Leaf } ∷ []) in
        let same : length mid ≡ n = omega (arith, long, l, high) in
        subst (IsLeaf new) same last

-- ---- how many gates

-- what is folded or added is at most one gate
pub fold_few : (old new : List AigNode) (a b e : AigEdge) → FoldsOrAdds old new a b e
    → length new ≤ length old + 1
fold_few old new a b e (inl folds) = omega (arith, ap length folds.1)
fold_few old new a b e (inr adds) =
    let long : length new ≡ length old + 1 =
    ap length adds.1.gate ∙ length-append old
    (record { node_id = length old; typ = and_of a b } ∷ []) in
    omega (arith, long)

pub eq_few : (old new : List AigNode) (a b e : AigEdge) → FoldsOrAddsEq old new a b e
    → length new ≤ length old + 3
eq_few old new a b e made =
    omega (
      arith,
      fold_few old made.one a b made.both made.is_both,
      fold_few made.one made.two (inverse a) (inverse b) made.neither made.is_neither,
      fold_few made.two new (inverse made.both) (inverse made.neither) (inverse e) made.is_either,
    )

join_few : (es : List AigEdge) (old new : List AigNode) (all e : AigEdge)
    → JoinsFromLeft FoldsOrAdds old all es new e → length new ≤ length old + length es
join_few [] old new all e made = omega (arith, ap length made.0)
join_few (f ∷ fs) old new all e made =
    omega (arith, fold_few old made.0 all f made.1 made.2, join_few fs made.0 new made.1 e made.3)

-- the first edge is joined with true, and so folds
pub ands_few : (es : List AigEdge) (old new : List AigNode) (e : AigEdge)
    → FoldsOrAddsAll old es new e → length new ≤ length old + (length es - 1)
ands_few [] old new e made = omega (arith, ap length made.0)
ands_few (f ∷ fs) old new e made =
    omega (
      arith,
      ap length (adds_none-true old made.0 f made.1 made.2).1,
      join_few fs made.0 new
          made.1 e made.3,
    )

-- ---- lists of edges

pub GivesEach-none : (most : ℕ) (old : List AigNode) (wanted : ℕ → (ℕ → Bool) → Bool) → AreNodes old
    → GivesEach most old old wanted 0 []
GivesEach-none most old wanted are = record {
  gates = AddsGates-itself old are;
  few = omega arith;
  long = refl;
  each = λ i e h. absurd (omega (arith, h));
}

-- an edge has its value still where nodes grow
pub GivesEdge-grown : (mid new : List AigNode) (wanted : (ℕ → Bool) → Bool) (e : AigEdge)
    → AreNodes mid
    → Grows mid new → GivesEdge mid wanted e → GivesEdge new wanted e
GivesEdge-grown mid new wanted e are grows gives = record {
  there = omega (arith, gives.there, Grows-longer mid new grows);
  value = λ x. edge_value-Grows mid new are grows x e gives.there ∙ gives.value x;
}

pub GivesEach-more : (most : ℕ) (old mid new : List AigNode) (wanted : ℕ → (ℕ → Bool)
    → Bool) (count : ℕ)
    (es made : List AigEdge) (e : AigEdge) → GivesEach most old mid wanted count es
    → AddsGates mid new
    → length new ≤ length mid + most
    → GivesEdge new (wanted count) e → made ≡ es ++ e ∷ []
    → GivesEach most old new wanted (count + 1) made
GivesEach-more most old mid new wanted count es made e before gates few gives is = record {
  gates = AddsGates-then old mid new before.gates gates;
  few = let all : most * (count + 1) ≡ most * count + most = grind arith in omega
      (arith, all, before.few, few);
  long = ap length is ∙ length-append es (e ∷ []) ∙ ap (λ n. n + 1) before.long;
  each = λ i d h. subst (λ list. GivesEdge new (wanted i) (get_or list i d)) (sym is) (by i d h
      (cases_lt i count));
}
  where
    by : (i : ℕ) (d : AigEdge) → i < count + 1 → (i < count) ⊎ (count ≤ i)
        → GivesEdge new (wanted i) (get_or (es ++ e ∷ []) i d)
    by i d h (inl low) =
        subst (GivesEdge new (wanted i)) (sym (get_or_append_left es (e ∷ []) d i (omega
        (arith, low, before.long))))
        (GivesEdge-grown mid new (wanted i) (get_or es i d) before.gates.grows.sound gates.grows
        (before.each i d low))
    by i d h (inr high) =
        let same : count ≡ i = omega (arith, h, high) in
        let place : length es + 0 ≡ i = omega (arith, same, before.long) in
        subst (λ k. GivesEdge new (wanted i) (get_or (es ++ e ∷ []) k d)) place
        (subst (GivesEdge new (wanted i)) (sym (get_or-append-add es (e ∷ []) 0 d))
        (subst (λ k. GivesEdge new (wanted k) e) same gives))

-- ---- a choice

pub choice_gives : (old one two new : List AigNode) (which then_edge other left right e : AigEdge)
    → AreNodes old → IsInRange old which → IsInRange old other
    → AddsGates old one
    → GivesEdge one (λ x. edge_value old x which && edge_value old x then_edge) left
    → AddsGates one two
    → GivesEdge two (λ x. edge_value one x (inverse which) && edge_value one x other) right
    → GivesEdge new (λ x. edge_value two x left || edge_value two x right) e
    → GivesEdge new (choice_of old which then_edge other) e
choice_gives old one two new which then_edge other left right e are in_which in_other first is_left
    second is_right is = record {
      there = is.there;
      value = λ x.
          is.value x
          ∙ ap (λ b. b || edge_value two x right)
          (edge_value-Grows one two first.grows.sound second.grows x left is_left.there
          ∙ is_left.value x)
          ∙ ap (λ b. (edge_value old x which && edge_value old x then_edge) || b) (is_right.value x
          ∙ ap (λ b. b && edge_value one x other) (edge_value-inverse one x which
          ∙ ap not (edge_value-Grows old one are first.grows x which in_which))
          ∙ ap (λ b. not (edge_value old x which) && b)
          (edge_value-Grows old one are first.grows x other in_other))
          ∙ by (edge_value old x which) (edge_value old x then_edge) (edge_value old x other);
    }
  where
    by : (c t o : Bool) → ((c && t) || (not c && o)) ≡ cond c t o
    by true true o = refl
    by true false o = refl
    by false t o = refl

-- what is chosen of edges of old nodes is the same over grown ones
pub choice_old : (old mid new : List AigNode) (which then_edge other e : AigEdge) → AreNodes old
    → Grows old mid → IsInRange old which → IsInRange old then_edge → IsInRange old other
    → GivesEdge new (choice_of mid which then_edge other) e
    → GivesEdge new (choice_of old which then_edge other) e
choice_old old mid new which then_edge other e are grows a b c gives = record {
  there = gives.there;
  value = λ x.
      gives.value x
      ∙ ap (λ v. cond v (edge_value mid x then_edge) (edge_value mid x other))
      (edge_value-Grows old mid are grows x which a)
      ∙ ap (λ v. cond (edge_value old x which) v (edge_value mid x other))
      (edge_value-Grows old mid are grows x then_edge b)
      ∙ ap (λ v. cond (edge_value old x which) (edge_value old x then_edge) v)
      (edge_value-Grows old mid are grows x other c);
}

-- an edge that was true or is
pub seen_gives : (old one new : List AigNode) (own active e now made : AigEdge) → AreNodes old
    → IsInRange old own → AddsGates old one
    → GivesEdge one (λ x. edge_value old x active && edge_value old x e) now
    → GivesEdge new (λ x. edge_value one x own || edge_value one x now) made
    → GivesEdge new (λ x. edge_value old x own ||
    (edge_value old x active && edge_value old x e)) made
seen_gives old one new own active e now made are in_own first is_now is = record {
  there = is.there;
  value = λ x.
      is.value x
      ∙ ap (λ v. v || edge_value one x now) (edge_value-Grows old one are first.grows x own in_own)
      ∙ ap (λ v. edge_value old x own || v) (is_now.value x);
}

pub seen_old : (old mid new : List AigNode) (own active e made : AigEdge) → AreNodes old
    → Grows old mid → IsInRange old own → IsInRange old active → IsInRange old e
    → GivesEdge new (λ x. edge_value mid x own ||
    (edge_value mid x active && edge_value mid x e)) made
    → GivesEdge new (λ x. edge_value old x own ||
    (edge_value old x active && edge_value old x e)) made
seen_old old mid new own active e made are grows a b c gives = record {
  there = gives.there;
  value = λ x.
      gives.value x
      ∙ ap (λ v. v || (edge_value mid x active && edge_value mid x e))
      (edge_value-Grows old mid are grows x own a)
      ∙ ap (λ v. edge_value old x own || (v && edge_value mid x e))
      (edge_value-Grows old mid are grows x active b)
      ∙ ap (λ v. edge_value old x own || (edge_value old x active && v))
      (edge_value-Grows old mid are grows x e c);
}

pub same_old : (old mid new : List AigNode) (a b made : AigEdge) → AreNodes old → Grows old mid
    → IsInRange old a → IsInRange old b
    → GivesEdge new (λ x. beq (edge_value mid x a) (edge_value mid x b)) made
    → GivesEdge new (λ x. beq (edge_value old x a) (edge_value old x b)) made
same_old old mid new a b made are grows in_a in_b gives = record {
  there = gives.there;
  value = λ x.
      gives.value x
      ∙ ap (λ v. beq v (edge_value mid x b)) (edge_value-Grows old mid are grows x a in_a)
      ∙ ap (λ v. beq (edge_value old x a) v) (edge_value-Grows old mid are grows x b in_b);
}
