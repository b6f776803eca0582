-- Visits of nodes, and the search that follows what they have on the stack.
use Rattle.std.proofs.Common.{◌≡◌, ◌≢◌, ℕ, zero, suc, ◌+◌, ◌<◌, ◌⊎◌, ◌↔◌, Bool, true, false, cond, Option, Some, None, List, [], ◌∷◌, ◌++◌, length, replicate, take, get_or, set, get_or-set_other, get_or-set_same, refl, sym, ap, subst, ◌∙◌, arith, inl, inr, length-append, length-set}
use Rattle.aig_base.proofs.Words.{All, AllPairs, Contains, option_map, cases_eq, get_or-map, get_or-take, length-map, length-replicate, length-take, take_more, sum_by-set, Contains-append_left, Contains-push, Contains-push_cases, same_Some, slice_get-get_or}
use Rattle.aig_circuit.specs.declared.edge.AigEdge.{AigEdge}
use Rattle.aig_circuit.specs.declared.node.AigNodeType.{AigNodeType}
use Rattle.aig_circuit.specs.declared.node.AigNodeType.TheVariants.{Leaf, And}
use Rattle.aig_circuit.specs.declared.node.AigNode.{AigNode}
use Rattle.aig_circuit.specs.declared.node.AigLatch.{AigLatch}
use Rattle.aig_circuit.proofs.Words.{kind_at, Circuit, IsCircuit, IsLatch, latch_leaves, IsMarked}
use Rattle.aig_circuit.specs.Reach.{DependsOn, IsInCone, IsLatchNext, IsFanin, IsReached, root, step}
use Rattle.aig_circuit.proofs.Trees.{kind_at-within}
use Rattle.aig_cone.specs.Marks.{AreNextStates, Visits}
use Rattle.aig_cone.proofs.Marking.{AddsMarks-none, AddsMarks-same, AddsMarks-set, AddsMarks-then, operands_of}

-- ---- visits

-- a node that wasn't marked
pub Visits-set : (marks : List Bool) (stack stacked : List ℕ) (i : ℕ) → i < length marks
    → get_or marks i false ≡ false → stacked ≡ stack ++ i ∷ []
    → Visits marks (set marks i true) stack stacked (λ n. n ≡ i)
Visits-set marks stack stacked i h was put = record {
  marks = AddsMarks-set marks i h;
  kept = λ n had. rw put (Contains-append_left stack (i ∷ []) n had);
  put = λ n m. elim ((AddsMarks-set marks i h n).0 m) [ inl old ↦ inl old | inr e ↦ inr (rw (put, e) (Contains-push stack i)) ];
  only = λ n has. elim (Contains-push_cases stack i n (subst (λ s. Contains s n) put has)) [ inl had ↦ inl had | inr e ↦ inr (sym e) ];
  once =
      let f : Bool → ℕ = λ marked. cond marked 0 1 in
      let one : f (get_or marks i false) ≡ 1 = ap f was in
      let less = sum_by-set f marks i true false h in
      let long : length stacked ≡ length stack + 1 = ap length put ∙ length-append stack (i ∷ []) in
      omega (arith, less, one, long);
}

pub Visits-none : (P : ℕ → Type 0) (marks : List Bool) (stack : List ℕ) → ((n : ℕ) → ¬ P n)
    → Visits marks marks stack stack P
Visits-none P marks stack none = record {
  marks = AddsMarks-none P marks none;
  kept = λ n had. had;
  put = λ n m. inl m;
  only = λ n has. inl has;
  once = refl;
}

pub Visits-then : (P Q : ℕ → Type 0) (a b c : List Bool) (s t u : List ℕ) → Visits a b s t P
    → Visits b c t u Q → Visits a c s u (λ n. P n ⊎ Q n)
Visits-then P Q a b c s t u p q = record {
  marks = AddsMarks-then P Q a b c p.marks q.marks;
  kept = λ n had. q.kept n (p.kept n had);
  put = λ n m. elim (q.put n m) [
    | inl in_b ↦ elim (p.put n in_b) [ inl in_a ↦ inl in_a | inr on_t ↦ inr (q.kept n on_t) ]
    | inr on_u ↦ inr on_u
  ];
  only = λ n has. elim (q.only n has) [
    | inl on_t ↦ elim (p.only n on_t) [ inl on_s ↦ inl on_s | inr h ↦ inr (inl h) ]
    | inr h ↦ inr (inr h)
  ];
  once = q.once ∙ p.once;
}

pub Visits-same : (P Q : ℕ → Type 0) (a b : List Bool) (s t : List ℕ) → ((n : ℕ) → P n ↔ Q n)
    → Visits a b s t P → Visits a b s t Q
Visits-same P Q a b s t same p = record {
  marks = AddsMarks-same P Q a b same p.marks;
  kept = p.kept;
  put = p.put;
  only = λ n has. elim (p.only n has) [ inl had ↦ inl had | inr h ↦ inr ((same n).0 h) ];
  once = p.once;
}

-- the operands of a gate
pub Visits-operands : (nodes : List AigNode) (n : ℕ) (a b : AigEdge) (m0 m1 m2 : List Bool)
    (s0 s1 s2 : List ℕ) → kind_at nodes n ≡ Some (And a b)
    → Visits m0 m1 s0 s1 (λ k. k ≡ a.node_id) → Visits m1 m2 s1 s2 (λ k. k ≡ b.node_id)
    → Visits m0 m2 s0 s2 (IsFanin nodes n)
Visits-operands nodes n a b m0 m1 m2 s0 s1 s2 gate first second =
    Visits-same (λ k. (k ≡ a.node_id) ⊎ (k ≡ b.node_id)) (IsFanin nodes n) m0 m2 s0 s2 (operands_of nodes n a b gate)
    (Visits-then (λ k. k ≡ a.node_id) (λ k. k ≡ b.node_id) m0 m1 m2 s0 s1 s2 first second)

-- what isn't a gate has no operands
pub Visits-no_operands : (nodes : List AigNode) (n : ℕ) (marks : List Bool) (stack : List ℕ)
    → ((a b : AigEdge) → kind_at nodes n ≢ Some (And a b))
    → Visits marks marks stack stack (IsFanin nodes n)
Visits-no_operands nodes n marks stack none = Visits-none (IsFanin nodes n) marks stack (λ m (a, b, kind, which). none a b kind)

-- the node that the table gives
pub Visits-given : (table : List (Option ℕ)) (n next : ℕ) (old new : List Bool)
    (stack stacked : List ℕ) → get_or table n None ≡ Some next
    → Visits old new stack stacked (λ k. k ≡ next)
    → Visits old new stack stacked (λ m. get_or table n None ≡ Some m)
Visits-given table n next old new stack stacked given v =
    Visits-same (λ k. k ≡ next) (λ m. get_or table n None ≡ Some m) old new stack stacked (λ m. ((λ e. given ∙ ap Some (sym e)), λ e. same_Some _ _ (sym e ∙ given))) v

-- ---- the search

-- all that is marked is reached, and what comes before a marked node is marked unless that node is still on the stack
pub record Following (c : Circuit) (roots : List ℕ) (marks : List Bool) (stack : List ℕ) : Type 0 where
  pub only : (n : ℕ) → IsMarked marks n → IsReached (DependsOn c) roots n
  pub roots_marked : (n : ℕ) → Contains roots n → IsMarked marks n
  pub stacked : (n : ℕ) → Contains stack n → IsMarked marks n
  pub closed : (n m : ℕ) → IsMarked marks n → DependsOn c n m → Contains stack n ⊎ IsMarked marks m

pub Following-start : (c : Circuit) (roots : List ℕ) (marks : List Bool)
    → ((n : ℕ) → IsMarked marks n ↔ Contains roots n) → Following c roots marks roots
Following-start c roots marks same = record {
  only = λ n m. root ((same n).0 m);
  roots_marked = λ n h. (same n).1 h;
  stacked = λ n h. (same n).1 h;
  closed = λ n m is before. inl ((same n).0 is);
}

-- the node on top is followed
pub Following-step : (c : Circuit) (roots : List ℕ) (old new : List Bool)
    (stack popped stacked : List ℕ) (id : ℕ) → Following c roots old stack
    → stack ≡ popped ++ id ∷ [] → Visits old new popped stacked (DependsOn c id)
    → Following c roots new stacked
Following-step c roots old new stack popped stacked id f top v = record {
  only = λ n m. elim ((v.marks n).0 m) [ inl was ↦ f.only n was | inr before ↦ step (f.only id top_marked) before ];
  roots_marked = λ n h. (v.marks n).1 (inl (f.roots_marked n h));
  stacked = λ n has. elim (v.only n has) [ inl had ↦ (v.marks n).1 (inl (below n had)) | inr before ↦ (v.marks n).1 (inr before) ];
  closed = λ n m is before. elim (v.put n is) [
    | inr on ↦ inl on
    | inl was ↦ elim (f.closed n m was before) [
      | inr marked ↦ inr ((v.marks m).1 (inl marked))
      | inl had ↦ elim (Contains-push_cases popped id n (subst (λ s. Contains s n) top had)) [
        | inl left ↦ inl (v.kept n left)
        | inr e ↦ inr ((v.marks m).1 (inr (subst (λ k. DependsOn c k m) (sym e) before)))
      ]
    ]
  ];
}
  where
    top_marked : IsMarked old id
    top_marked = f.stacked id (rw top (Contains-push popped id))

    below : (n : ℕ) → Contains popped n → IsMarked old n
    below n had = f.stacked n (rw top (Contains-append_left popped (id ∷ []) n had))

pub kind-of : (nodes : List AigNode) (n : ℕ) (d : AigNode) (kind : AigNodeType) → n < length nodes
    → (get_or nodes n d).typ ≡ kind → kind_at nodes n ≡ Some kind
kind-of nodes n d kind h is = ap (option_map (λ (x : AigNode). x.typ)) (slice_get-get_or nodes n d h) ∙ ap Some is

-- with nothing on the stack all that is reached is marked
pub Following-end : (c : Circuit) (roots : List ℕ) (marks : List Bool) (stack : List ℕ)
    → Following c roots marks stack → stack ≡ [] → (n : ℕ)
    → IsMarked marks n ↔ IsReached (DependsOn c) roots n
Following-end c roots marks stack f none n = (f.only n, all n)
  where
    all : (n : ℕ) → IsReached (DependsOn c) roots n → IsMarked marks n
    all n (root h) = f.roots_marked n h
    all n (step {n = k} reached before) = elim (f.closed k n (all k reached) before) [
      | inl has ↦ absurd (let empty = subst (λ s. Contains s k) none has in omega (arith, empty.1))
      | inr marked ↦ marked
    ]

-- ---- the cone of 0 and the roots

-- nothing comes before 0
none_before_0 : (c : Circuit) → IsCircuit c → (m : ℕ) → ¬ DependsOn c 0 m
none_before_0 c is m (inl (a, b, kind, which)) = let same = same_Some _ _ (sym is.nodes.false_first ∙ kind) in cc
none_before_0 c is m (inr (latch, has, from, to)) =
    let leaf = subst (λ (l : AigLatch). IsLatch c.nodes l) has.2 (is.latchs has.0 latch has.1) in
    let same = same_Some _ _ (sym is.nodes.false_first ∙ subst (λ k. kind_at c.nodes k ≡ Some Leaf) (sym from) leaf.leaf) in
    cc

-- what is reached from 0 and the roots is the cone of the roots
pub IsInCone-reached : (c : Circuit) (roots all : List ℕ) → IsCircuit c
    → ((n : ℕ) → Contains all n ↔ ((n ≡ 0) ⊎ Contains roots n)) → (n : ℕ)
    → IsReached (DependsOn c) all n ↔ IsInCone c roots n
IsInCone-reached c roots all is same n = (forth n, back n)
  where
    forth : (n : ℕ) → IsReached (DependsOn c) all n → IsInCone c roots n
    forth n (root h) = elim ((same n).0 h) [ inl e ↦ inl e | inr has ↦ inr (root has) ]
    forth n (step {n = k} reached before) = elim (forth k reached) [
      | inl e ↦ absurd (none_before_0 c is n (subst (λ j. DependsOn c j n) e before))
      | inr there ↦ inr (step there before)
    ]

    from_roots : (n : ℕ) → IsReached (DependsOn c) roots n → IsReached (DependsOn c) all n
    from_roots n (root h) = root ((same n).1 (inr h))
    from_roots n (step {n = k} reached before) = step (from_roots k reached) before

    back : (n : ℕ) → IsInCone c roots n → IsReached (DependsOn c) all n
    back n (inl e) = root ((same n).1 (inl e))
    back n (inr reached) = from_roots n reached

-- ---- next states

-- at the place of each leaf of these latches stands the node of its next edge, and elsewhere nothing
pub record HoldNext (nodes : List AigNode) (latchs : List AigLatch) (table : List (Option ℕ)) : Type 0 where
  pub count : length table ≡ length nodes
  pub exactly : (n m : ℕ) → (get_or table n None ≡ Some m) ↔ IsLatchNext latchs n m

abbrev the_none : Option ℕ
the_none = None

none_there : (count n : ℕ) → get_or (replicate count None) n None ≡ the_none
none_there zero n = refl
none_there (suc count) zero = refl
none_there (suc count) (suc n) = none_there count n

pub none_alone : (C : Option ℕ → Type 0) → ((n : ℕ) → ¬ C (Some n)) → (o : Option ℕ) → C o
    → o ≡ None
none_alone C not_some None h = refl
none_alone C not_some (Some n) h = absurd (not_some n h)

pub HoldNext-start : (nodes : List AigNode) (table : List (Option ℕ))
    → table ≡ replicate (length nodes) None → HoldNext nodes [] table
HoldNext-start nodes table nothing = record {
  count = ap length nothing ∙ length-replicate (length nodes) None;
  exactly = λ n m. (
    λ h. absurd (let e = sym (none_there (length nodes) n) ∙ subst (λ t. get_or t n None ≡ Some m) nothing h in not_some m e),
    λ (latch, has, from, to). absurd (omega (arith, has.1)),
  );
}
  where
    not_some : (m : ℕ) → the_none ≡ Some m → ⊥
    not_some m e = cc

-- the table of one latch more
module _ (nodes : List AigNode) (latchs : List AigLatch) (i : ℕ) (d : AigLatch) (table : List (Option ℕ)) (distinct : AllPairs (λ m n. m ≢ n) (latch_leaves latchs)) (h : i < length latchs) (there : (get_or latchs i d).input < length table)
    (so_far : HoldNext nodes (take i latchs) table) where
  abbrev latch : AigLatch
  latch = get_or latchs i d

  abbrev now : List (Option ℕ)
  now = set table latch.input (Some latch.next.node_id)

  more : take (i + 1) latchs ≡ take i latchs ++ latch ∷ []
  more = take_more latchs i d h

  -- no latch before it has its leaf
  apart : (other : AigLatch) → Contains (take i latchs) other → other.input ≢ latch.input
  apart other (k, low, is) same =
      let low_i : k < i = omega (arith, length-take i latchs) in
      let within : k < length latchs = omega arith in
      let at : get_or latchs k other ≡ other = sym (get_or-take i latchs k other low_i) ∙ is in
      let input = λ (l : AigLatch). l.input in
      let second : i < length (latch_leaves latchs) = rw length-map h in
      let first : get_or (latch_leaves latchs) k 0 ≡ other.input = get_or-map input latchs k other 0 within ∙ ap input at in
      let last : get_or (latch_leaves latchs) i 0 ≡ latch.input = get_or-map input latchs i d 0 h in
      distinct k i 0 low_i second (first ∙ same ∙ sym last)

  forth_here : (n m : ℕ) → n ≡ latch.input → get_or now n None ≡ Some m
      → IsLatchNext (take (i + 1) latchs) n m
  forth_here n m e is =
      let set_to : get_or now n None ≡ Some latch.next.node_id = rw (e, get_or-set_same) refl in
      let same : latch.next.node_id ≡ m = same_Some _ _ (sym set_to ∙ is) in
      (latch, rw more (Contains-push (take i latchs) latch), e, sym same)

  back_here : (n m : ℕ) → n ≡ latch.input → IsLatchNext (take (i + 1) latchs) n m
      → get_or now n None ≡ Some m
  back_here n m e (other, has, from, to) =
      let set_to : get_or now n None ≡ Some latch.next.node_id = rw (e, get_or-set_same) refl in
      elim (Contains-push_cases (take i latchs) latch other (subst (λ ls. Contains ls other) more has)) [
        | inl earlier ↦ absurd (apart other earlier (sym from ∙ e))
        | inr is ↦ set_to ∙ ap (λ (l : AigLatch). Some l.next.node_id) is ∙ ap Some (sym to)
      ]

  forth_other : (n m : ℕ) → n ≢ latch.input → get_or now n None ≡ Some m
      → IsLatchNext (take (i + 1) latchs) n m
  forth_other n m ne is =
      let old : get_or table n None ≡ Some m = rw get_or-set_other at is in
      let r = (so_far.exactly n m).0 old in
      (r.0, rw more (Contains-append_left (take i latchs) (latch ∷ []) r.0 r.1), r.2, r.3)

  back_other : (n m : ℕ) → n ≢ latch.input → IsLatchNext (take (i + 1) latchs) n m
      → get_or now n None ≡ Some m
  back_other n m ne (other, has, from, to) =
      elim (Contains-push_cases (take i latchs) latch other (subst (λ ls. Contains ls other) more has)) [
        | inl earlier ↦ rw get_or-set_other ((so_far.exactly n m).1 (other, earlier, from, to))
        | inr is ↦ absurd (ne (from ∙ ap (λ (l : AigLatch). l.input) (sym is)))
      ]

  pub HoldNext-step : HoldNext nodes (take (i + 1) latchs)
      (set table (get_or latchs i d).input (Some (get_or latchs i d).next.node_id))
  HoldNext-step = record {
    count = length-set table latch.input (Some latch.next.node_id) ∙ so_far.count;
    exactly = λ n m. elim (cases_eq n latch.input) [ inl e ↦ (forth_here n m e, back_here n m e) | inr ne ↦ (forth_other n m ne, back_other n m ne) ];
  }

-- what stands in the table is a node
pub next_within : (c : Circuit) (table : List (Option ℕ)) → IsCircuit c → AreNextStates c table
    → (n m : ℕ) → get_or table n None ≡ Some m → m < length c.nodes
next_within c table is are n m h =
    let r = (are.exactly n m).0 h in
    let latch = subst (λ (l : AigLatch). IsLatch c.nodes l) r.1.2 (is.latchs r.1.0 r.0 r.1.1) in
    let next = latch.next in
    omega (arith, r.3)

-- what comes before a node
pub Visits-before : (c : Circuit) (table : List (Option ℕ)) → AreNextStates c table
    → (n : ℕ) (m0 m1 m2 : List Bool) (s0 s1 s2 : List ℕ) → Visits m0 m1 s0 s1 (IsFanin c.nodes n)
    → Visits m1 m2 s1 s2 (λ m. get_or table n None ≡ Some m) → Visits m0 m2 s0 s2 (DependsOn c n)
Visits-before c table are n m0 m1 m2 s0 s1 s2 operands next =
    Visits-same (λ m. IsFanin c.nodes n m ⊎ (get_or table n None ≡ Some m)) (DependsOn c n) m0 m2 s0 s2 (λ m. (
      λ h. elim h [ inl operand ↦ inl operand | inr given ↦ inr ((are.exactly n m).0 given) ],
      λ h. elim h [ inl operand ↦ inl operand | inr given ↦ inr ((are.exactly n m).1 given) ],
    ))
    (Visits-then (IsFanin c.nodes n) (λ m. get_or table n None ≡ Some m) m0 m1 m2 s0 s1 s2 operands next)

-- what is on the stack after 0 and the roots are visited
pub stacked-start : (old first marks : List Bool) (stack second : List ℕ) (roots : List ℕ) → ((n : ℕ) → ¬ IsMarked old n) → Visits old first [] stack (λ n. n ≡ 0) → Visits first marks stack second (Contains roots)
    → (n : ℕ) → (IsMarked marks n ↔ Contains second n) × (Contains second n ↔ ((n ≡ 0) ⊎ Contains roots n))
stacked-start old first marks stack second roots none zero_visited all_visited n =
    let v = Visits-then (λ n. n ≡ 0) (Contains roots) old first marks [] stack second zero_visited all_visited in
    let on : IsMarked marks n ↔ Contains second n = (
      λ m. elim (v.put n m) [ inl was ↦ absurd (none n was) | inr has ↦ has ],
      λ h. elim (v.only n h) [ inl had ↦ absurd (omega (arith, had.1)) | inr there ↦ (v.marks n).1 (inr there) ],
    ) in (
      on,
      (
        λ h. elim (v.only n h) [ inl had ↦ absurd (omega (arith, had.1)) | inr there ↦ there ],
        λ there. elim (v.put n ((v.marks n).1 (inr there))) [ inl was ↦ absurd (none n was) | inr has ↦ has ],
      ),
    )

-- a latch's leaf is there
pub leaf_within : (nodes : List AigNode) (latchs : List AigLatch) (i : ℕ) (d : AigLatch)
    → i < length latchs → All (IsLatch nodes) latchs → (get_or latchs i d).input < length nodes
leaf_within nodes latchs i d h all = let latch = all i d h in kind_at-within nodes (get_or latchs i d).input Leaf latch.leaf

pub nothing_on : (stack : List ℕ) → length stack ≡ 0 → stack ≡ []
nothing_on [] none = refl
nothing_on (n ∷ ns) none = absurd (omega arith)
