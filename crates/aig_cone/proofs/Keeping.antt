-- What is kept is closed under operands and next edges, and holds all that the lists of the circuit speak of.
use Rattle.aig_base.proofs.Words.{◌≡◌, ℕ, zero, suc, ◌+◌, ◌<◌, ◌≤◌, ◌↔◌, Bool, true, false, cond, Option, Some, None, List, [], ◌∷◌, ◌++◌, length, map, take, get_or, refl, sym, ap, subst, ◌∙◌, arith, append_assoc, append-nil, Vec, Global, inl, inr, All, Contains, IfSome, option_to_list, ◌==◌, AllByRecursion, flat_map, cases_lt, eqb-true, map-append, take_more, flat_map-append, All-append, All-contains, All-contains_itself, All-from_recursion, All-map, All-weaker, Contains-append_left, Contains-append_right, Contains-get_or, recursion_from_All, same_Some}
use Rattle.aig_circuit.specs.declared.edge.AigEdge.{AigEdge}
use Rattle.aig_circuit.specs.declared.node.AigNodeType.TheVariants.{False, Leaf, And}
use Rattle.aig_circuit.specs.declared.node.AigLatch.{AigLatch}
use Rattle.aig_circuit.proofs.Words.{kind_at, Circuit, IsCircuit, IsInRange, IsLatch, latch_leaves, position_of, DependsOn, IsInCone, IsReached, root, step, IsMarked, initial_edges, property_edges}
use Rattle.aig_circuit.proofs.Listed.{All-entries_of}
use Rattle.aig_circuit.proofs.Trees.{kind_at-within}
use Rattle.aig_renumber.specs.Numbers.{IsEdgeIn, IsLatchIn}
use Rattle.aig_renumber.proofs.NodesInOrder.{Numbers}
use Rattle.aig_renumber.proofs.Places.{Contains-map, get_or-position_of, position_of-within, places-rise, rising-place, rising_from}
use Rattle.aig_cone.specs.Marks.{AreMarked}
use Rattle.aig_cone.specs.Refine.{AreKept, refining_roots, variable_nodes}

-- what holds of the roots and goes on along steps holds of all that is reached
pub reached_within : {Step : ℕ → ℕ → Type 0} {roots : List ℕ} (P : ℕ → Type 0)
    → ((n : ℕ) → Contains roots n → P n) → ((n m : ℕ) → P n → Step n m → P m) → (n : ℕ)
    → IsReached Step roots n → P n
reached_within P at_roots along n (root {n = k} h) = at_roots k h
reached_within P at_roots along n (step {n = k} {m = m} h s) = along k m (reached_within P at_roots along k h) s

-- an entry of one of the lists is an entry of all
flat_has : {X Y : Type 0} (f : X → List Y) (xs : List X) (P : Y → Type 0)
    → AllByRecursion P (flat_map f xs) → AllByRecursion (λ x. AllByRecursion P (f x)) xs
flat_has f [] P all = tt
flat_has f (x ∷ xs) P all = let r = parts (f x) (flat_map f xs) all in (r.0, flat_has f xs P r.1)
  where
    parts : (ys zs : List _) → AllByRecursion P (ys ++ zs)
        → AllByRecursion P ys × AllByRecursion P zs
    parts [] zs all = (tt, all)
    parts (y ∷ ys) zs all = let r = parts ys zs all.1 in ((all.0, r.0), r.1)

-- the nodes of all properties
abbrev properties : Circuit → List ℕ
properties c = map (λ (e : AigEdge). e.node_id) (property_edges c)

-- the nodes of the initial edges that aren't constant
abbrev starts : Circuit → List ℕ
starts c = variable_nodes (initial_edges c.latchs)

-- ---- roots are nodes

module _ (c : Circuit) (is : IsCircuit c) where
  abbrev pub Within : ℕ → Type 0
  Within n = n < length c.nodes

  latch_at : (latch : AigLatch) → Contains c.latchs latch → IsLatch c.nodes latch
  latch_at latch has = subst (IsLatch c.nodes) has.2 (is.latchs has.0 latch has.1)

  pub along : (n m : ℕ) → Within n → DependsOn c n m → Within m
  along n m h (inl (a, b, kind, inl to)) = let low = is.nodes.ordered.first_before n a b kind in omega arith
  along n m h (inl (a, b, kind, inr to)) = let low = is.nodes.ordered.second_before n a b kind in omega arith
  along n m h (inr (latch, has, from, to)) = let there = (latch_at latch has).next in omega arith

  starts_within : (ls : List AigLatch) → All (IsLatch c.nodes) ls
      → AllByRecursion Within
      (flat_map (λ (e : AigEdge). cond (e.node_id == 0) [] (e.node_id ∷ [])) (initial_edges ls))
  starts_within [] all = tt
  starts_within (l ∷ ls) all = at l.init (all 0 l (omega arith)).init (starts_within ls (λ k d h. all (suc k) d (omega arith)))
    where
      one : (b : Bool) (n : ℕ) (rest : List ℕ) → Within n → AllByRecursion Within rest
          → AllByRecursion Within (cond b [] (n ∷ []) ++ rest)
      one true n rest h all = all
      one false n rest h all = (h, all)

      at : (o : Option AigEdge) → IfSome o (IsInRange c.nodes) → AllByRecursion Within (flat_map (λ (e : AigEdge). cond (e.node_id == 0) [] (e.node_id ∷ [])) (initial_edges ls))
          → AllByRecursion Within (flat_map (λ (e : AigEdge). cond (e.node_id == 0) [] (e.node_id ∷ [])) (option_to_list o ++ initial_edges ls))
      at None h rest = rest
      at (Some e) h rest = one (e.node_id == 0) e.node_id _ h rest

  pub roots_within : (n : ℕ) → Contains (refining_roots c) n → Within n
  roots_within n has =
      let edges = All-entries_of (IsInRange c.nodes) c.properties is.properties in
      let leaves : All Within (latch_leaves c.latchs) = All-map Within (λ (latch : AigLatch). latch.input) c.latchs (All-weaker (IsLatch c.nodes) (λ latch. Within latch.input) (λ latch h. kind_at-within c.nodes latch.input Leaf h.leaf) c.latchs is.latchs) in
      All-contains Within (refining_roots c) n
      (All-append Within ((properties c) ++ latch_leaves c.latchs) (starts c) (All-append Within (properties c) (latch_leaves c.latchs) (All-map Within (λ (e : AigEdge). e.node_id) (property_edges c) edges) leaves)
      (All-from_recursion Within (starts c) (starts_within c.latchs is.latchs))) has

module _ (c : Circuit) (kept : List ℕ) (is : IsCircuit c) (are : AreKept c kept) where
  abbrev pub S : ℕ → Type 0
  S n = Contains kept n

  S-reached : (n : ℕ) → IsReached (DependsOn c) (refining_roots c) n → S n
  S-reached n h = (are.exactly n).1 (inr h)

  S-root : (n : ℕ) → Contains (refining_roots c) n → S n
  S-root n h = S-reached n (root h)

  pub S-0 : S 0
  S-0 = (are.exactly 0).1 (inl refl)

  pub S-operands : (n : ℕ) (a b : AigEdge) → S n → kind_at c.nodes n ≡ Some (And a b)
      → S a.node_id × S b.node_id
  S-operands n a b s kind = elim ((are.exactly n).0 s) [
    | inl zero_is ↦ absurd (not_both (same_Some _ _ (sym (subst (λ m. kind_at c.nodes m ≡ Some (And a b)) zero_is kind) ∙ is.nodes.false_first)))
    | inr h ↦ (S-reached a.node_id (step h (inl (a, b, kind, inl refl))), S-reached b.node_id (step h (inl (a, b, kind, inr refl))))
  ]
    where
      not_both : And a b ≡ False → ⊥
      not_both e = cc

  -- ---- the roots

  pub S-properties : All (IsEdgeIn S) (property_edges c)
  S-properties k d h =
      let e = get_or (property_edges c) k d in
      let has = Contains-map (λ (e : AigEdge). e.node_id) (property_edges c) e (Contains-get_or (property_edges c) k d h) in
      S-root e.node_id (Contains-append_left ((properties c) ++ latch_leaves c.latchs) (starts c) e.node_id (Contains-append_left (properties c) (latch_leaves c.latchs) e.node_id has))

  S-leaf : (n : ℕ) → Contains (latch_leaves c.latchs) n → S n
  S-leaf n has = S-root n (Contains-append_left ((properties c) ++ latch_leaves c.latchs) (starts c) n (Contains-append_right (properties c) (latch_leaves c.latchs) n has))

  pub S-starts : AllByRecursion (λ (e : AigEdge). IsEdgeIn S e) (initial_edges c.latchs)
  S-starts =
      let in_starts = recursion_from_All (Contains (starts c)) (starts c) (All-contains_itself (starts c)) in
      each (initial_edges c.latchs) (flat_has (λ (e : AigEdge). cond (e.node_id == 0) [] (e.node_id ∷ [])) (initial_edges c.latchs) (Contains (starts c)) in_starts)
    where
      one : (e : AigEdge) (b : Bool) → (e.node_id == 0) ≡ b
          → AllByRecursion (Contains (starts c)) (cond b [] (e.node_id ∷ [])) → IsEdgeIn S e
      one e true is_zero all = subst S (sym (eqb-true e.node_id 0 is_zero)) S-0
      one e false differs all = S-root e.node_id (Contains-append_right ((properties c) ++ latch_leaves c.latchs) (starts c) e.node_id all.0)

      each : (es : List AigEdge)
          → AllByRecursion
          (λ (e : AigEdge). AllByRecursion (Contains (starts c))
          (cond (e.node_id == 0) [] (e.node_id ∷ []))) es
          → AllByRecursion (λ (e : AigEdge). IsEdgeIn S e) es
      each [] all = tt
      each (e ∷ es) all = (one e (e.node_id == 0) refl all.0, each es all.1)

  pub S-latchs : All (IsLatchIn S) c.latchs
  S-latchs = All-from_recursion (IsLatchIn S) c.latchs (each c.latchs (recursion_from_All (Contains c.latchs) c.latchs (All-contains_itself c.latchs)) (flat_has (λ (latch : AigLatch). option_to_list latch.init) c.latchs (λ (e : AigEdge). IsEdgeIn S e) S-starts))
    where
      init_in : (o : Option AigEdge)
          → AllByRecursion (λ (e : AigEdge). IsEdgeIn S e) (option_to_list o)
          → IfSome o (IsEdgeIn S)
      init_in (Some e) all = all.0
      init_in None all = tt

      each : (ls : List AigLatch) → AllByRecursion (Contains c.latchs) ls
          → AllByRecursion
          (λ (latch : AigLatch). AllByRecursion (λ (e : AigEdge). IsEdgeIn S e)
          (option_to_list latch.init)) ls → AllByRecursion (IsLatchIn S) ls
      each [] has all = tt
      each (l ∷ ls) has all =
          let leaf = Contains-map (λ (latch : AigLatch). latch.input) c.latchs l has.0 in
          let reached = root (Contains-append_left ((properties c) ++ latch_leaves c.latchs) (starts c) l.input (Contains-append_right (properties c) (latch_leaves c.latchs) l.input leaf)) in
          (record { leaf = S-leaf l.input leaf; next = S-reached l.next.node_id (step reached (inr (l, has.0, refl, refl))); init = init_in l.init all.0 }, each ls has.1 all.1)

  -- ---- kept numbers are nodes

  pub S-there : (n : ℕ) → S n → n < length c.nodes
  S-there n s = elim ((are.exactly n).0 s) [
    | inl zero_is ↦ let first = kind_at-within c.nodes 0 False is.nodes.false_first in omega arith
    | inr h ↦ reached_within (Within c is) (roots_within c is) (along c is) n h
  ]

  -- ---- the numbering by places

  back : (n : ℕ) → S n → get_or kept (position_of kept n) 0 ≡ n
  back n s = get_or-position_of kept n s

  pub Numbers-kept : Numbers c.nodes S kept (position_of kept)
  Numbers-kept = record {
    within = λ n s. position_of-within kept n s;
    back = back;
    in_S = λ i h. Contains-get_or kept i 0 h;
    place = rising-place kept are.rising;
    false_in_S = S-0;
    false_first = zero_first (position_of kept 0) refl;
    there = S-there;
    operands = S-operands;
    first_before = λ n a b s kind. let in_S = S-operands n a b s kind in places-rise kept are.rising a.node_id n in_S.0 s (is.nodes.ordered.first_before n a b kind);
    second_before = λ n a b s kind. let in_S = S-operands n a b s kind in places-rise kept are.rising b.node_id n in_S.1 s (is.nodes.ordered.second_before n a b kind);
  }
    where
      zero_first : (p : ℕ) → position_of kept 0 ≡ p → p ≡ 0
      zero_first zero e = refl
      zero_first (suc p) e =
          let low : 0 < position_of kept 0 = omega arith in
          let less = are.rising 0 (position_of kept 0) 0 low (position_of-within kept 0 S-0) in
          absurd (omega (arith, back 0 S-0))

-- what one more element of a list appends
pub appended_more : {X Y : Type 0} (F : List X → List Y) (f : X → List Y)
    → ((xs : List X) (x : X) → F (xs ++ x ∷ []) ≡ F xs ++ f x)
    → (xs : List X) (i : ℕ) (d : X) (start before after : List Y) → i < length xs
    → before ≡ start ++ F (take i xs) → after ≡ before ++ f (get_or xs i d)
    → after ≡ start ++ F (take (i + 1) xs)
appended_more F f push xs i d start before after h so_far appended =
    appended ∙ ap (λ ys. ys ++ f (get_or xs i d)) so_far ∙ append_assoc start (F (take i xs)) (f (get_or xs i d))
    ∙ ap (λ ys. start ++ ys) (sym (push (take i xs) (get_or xs i d)) ∙ ap F (sym (take_more xs i d h)))

flat_map-push : {X Y : Type 0} (f : X → List Y) (xs : List X) (x : X)
    → flat_map f (xs ++ x ∷ []) ≡ flat_map f xs ++ f x
flat_map-push f xs x = flat_map-append f xs (x ∷ []) ∙ ap (λ ys. flat_map f xs ++ ys) (append-nil (f x))

-- the nodes of the edges of one set more
pub set_nodes-push : (sets : List (Vec AigEdge Global)) (set : Vec AigEdge Global)
    → map (λ (e : AigEdge). e.node_id)
    (flat_map (λ (s : Vec AigEdge Global). s.items) (sets ++ set ∷ []))
    ≡ map (λ (e : AigEdge). e.node_id) (flat_map (λ (s : Vec AigEdge Global). s.items) sets)
    ++ map (λ (e : AigEdge). e.node_id) set.items
set_nodes-push sets set = ap (map (λ (e : AigEdge). e.node_id)) (flat_map-push (λ (s : Vec AigEdge Global). s.items) sets set) ∙ map-append (λ (e : AigEdge). e.node_id) (flat_map (λ (s : Vec AigEdge Global). s.items) sets) set.items

-- the nodes of the initial edges of one latch more
pub starts-push : (latchs : List AigLatch) (latch : AigLatch)
    → variable_nodes (initial_edges (latchs ++ latch ∷ []))
    ≡ variable_nodes (initial_edges latchs) ++ variable_nodes (option_to_list latch.init)
starts-push latchs latch = ap variable_nodes (flat_map-push (λ (l : AigLatch). option_to_list l.init) latchs latch) ∙ flat_map-append _ (initial_edges latchs) (option_to_list latch.init)

-- list after list the roots are appended
pub refining_roots-pushed : (c : Circuit) (r0 r1 r2 r3 r4 r5 r6 r7 : List ℕ) → r1 ≡ r0 ++ map (λ (e : AigEdge). e.node_id) c.properties.outputs → r2 ≡ r1 ++ map (λ (e : AigEdge). e.node_id) c.properties.bads → r3 ≡ r2 ++ map (λ (e : AigEdge). e.node_id) c.properties.constraints
    → r4 ≡ r3 ++ map (λ (e : AigEdge). e.node_id) (flat_map (λ set. set) c.properties.justice) → r5 ≡ r4 ++ map (λ (e : AigEdge). e.node_id) c.properties.fairness → r6 ≡ r5 ++ latch_leaves c.latchs → r7 ≡ r6 ++ variable_nodes (initial_edges c.latchs) → r7 ≡ r0 ++ refining_roots c
refining_roots-pushed c r0 r1 r2 r3 r4 r5 r6 r7 e1 e2 e3 e4 e5 e6 e7 = rw (e7, e6, e5, e4, e3, e2, e1) (simp (map-append, append_assoc))

-- the marked numbers of the cone are what is kept
pub AreKept-marked : (c : Circuit) (marks : List Bool) (numbers : List ℕ) → AreMarked marks numbers
    → ((n : ℕ) → IsMarked marks n ↔ IsInCone c (refining_roots c) n) → AreKept c numbers
AreKept-marked c marks numbers are same = record {
  rising = are.rising;
  exactly = λ n. ((λ has. (same n).0 ((are.exactly n).0 has)), λ h. (are.exactly n).1 ((same n).1 h));
}

-- every root is a node
pub refining_roots_within : (c : Circuit) → IsCircuit c
    → All (λ n. n < length c.nodes) (refining_roots c)
refining_roots_within c is k d h = roots_within c is (get_or (refining_roots c) k d) (Contains-get_or (refining_roots c) k d h)

-- the kept are some, the first of them is 0, and they are no more than the nodes
pub kept-first : (c : Circuit) (kept : List ℕ) → IsCircuit c → AreKept c kept
    → (0 < length kept) × (get_or kept 0 0 ≡ 0)
kept-first c kept is are =
    let numbers = Numbers-kept c kept is are in
    let has = (are.exactly 0).1 (inl refl) in
    let place : position_of kept 0 ≡ 0 = numbers.false_first in
    (omega (arith, position_of-within kept 0 has), subst (λ i. get_or kept i 0 ≡ 0) place (get_or-position_of kept 0 has))

pub kept-there : (c : Circuit) (kept : List ℕ) → IsCircuit c → AreKept c kept
    → All (λ n. n < length c.nodes) kept
kept-there c kept is are k d h = S-there c kept is are (get_or kept k d) (Contains-get_or kept k d h)

pub kept-few : (c : Circuit) (kept : List ℕ) → IsCircuit c → AreKept c kept
    → length kept ≤ length c.nodes
kept-few c kept is are =
    elim (cases_lt (length c.nodes) (length kept)) [
      | inl more ↦ absurd (let high = rising_from 0 kept are.rising (λ k d h. omega arith) (length c.nodes) more in let low = kept-there c kept is are (length c.nodes) 0 more in omega (arith, high, low))
      | inr few ↦ few
    ]
