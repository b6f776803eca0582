use Rattle.aig_base.proofs.Words.{◌≡◌, ◌≢◌, ℕ, zero, suc, nat_cmp, ◌<◌, ◌≤◌, Option, Some, None, List, [], ◌∷◌, ◌++◌, length, length-append, get_or, refl, sym, ap, subst, ◌∙◌, arith, inl, inr, ◌-◌, FinMap, contains_key, get-empty, same_Some, cases_lt, false≢true, All-weaker, All-append, All-push, All-nil, All-map, All-contains, Contains-push_cases, Contains-get_or, all_pairs_push}
use Rattle.std.specs.Prelude.{IfSome, All, AllPairs, Contains, IsTrue, slice_get, is_some}
use Rattle.std.proofs.lemmas.List.{get_or-map, get_or_append_left, get_or-append_right}
use Rattle.aig_circuit.specs.declared.edge.AigEdge.{AigEdge}
use Rattle.aig_circuit.specs.declared.node.AigNodeType.TheVariants.{False, Leaf, And}
use Rattle.aig_circuit.specs.declared.node.AigNode.{AigNode}
use Rattle.aig_circuit.specs.declared.node.AigLatch.{AigLatch}
use Rattle.aig_circuit.proofs.Words.{kind_at, Grows, with_node}
use Rattle.aig_circuit.specs.Circuit.{Circuit, IsCircuit, AreLeaves, AreNodes, IsLeaf, IsInRange, IsLatch, IsFree, latch_leaves, only_false}
use Rattle.aig_circuit.proofs.Listed.{AllProperties-weaker, AllProperties-none}
use Rattle.aig_circuit.proofs.Building.{Grows-leaf, Grows-longer, Grows-kept}
use Rattle.aig_circuit.proofs.Trees.{kind_at-within, kind_at-last}

pub init_grown : (xs ys : List AigNode) (o : Option AigEdge) → length xs ≤ length ys → IfSome o (IsInRange xs) → IfSome o (IsInRange ys)
init_grown xs ys (Some e) l h = omega arith
init_grown xs ys None l h = h

-- a circuit stays one over other sound nodes that are as many and have its leaves
pub IsCircuit-over : (c : Circuit) (ys : List AigNode) → IsCircuit c → AreNodes ys → length c.nodes ≤ length ys → ((n : ℕ) → IsLeaf c.nodes n → IsLeaf ys n) → IsCircuit (record c { nodes = ys })
IsCircuit-over c ys is sound longer leaf =
    let edge : (e : AigEdge) → IsInRange c.nodes e → IsInRange ys e = λ e h. omega arith in
    record {
      nodes = sound;
      inputs = All-weaker (IsLeaf c.nodes) (IsLeaf ys) leaf c.inputs is.inputs;
      inputs_distinct = is.inputs_distinct;
      latchs = All-weaker (IsLatch c.nodes) (IsLatch ys) (λ l h. record { leaf = leaf l.input h.leaf; next = edge l.next h.next; init = init_grown c.nodes ys l.init longer h.init }) c.latchs is.latchs;
      latchs_distinct = is.latchs_distinct;
      apart = is.apart;
      properties = AllProperties-weaker (IsInRange c.nodes) (IsInRange ys) edge c.properties is.properties;
      named = λ n h. omega (arith, is.named n h);
    }

-- a circuit stays one when nodes are added that keep the old ones
pub IsCircuit-grown : (c : Circuit) (ys : List AigNode) → IsCircuit c → Grows c.nodes ys → IsCircuit (record c { nodes = ys })
IsCircuit-grown c ys is grows =
    IsCircuit-over c ys is grows.sound (Grows-longer c.nodes ys grows) (λ n h. Grows-kept c.nodes ys grows n (kind_at-within c.nodes n Leaf h) ∙ h)

-- a free leaf may become an input
pub IsCircuit-add_input : (c : Circuit) (n : ℕ) → IsCircuit c → IsLeaf c.nodes n → IsFree c.inputs c.latchs n → IsCircuit (record c { inputs = c.inputs ++ n ∷ [] })
IsCircuit-add_input c n is leaf free =
    let inputs = All-push (IsLeaf c.nodes) c.inputs n is.inputs leaf in
    let distinct = all_pairs_push (λ x y. x ≢ y) c.inputs n is.inputs_distinct (λ k d h e. free.no_input (subst (Contains c.inputs) e (Contains-get_or c.inputs k d h))) in
    let apart : All (λ m. ¬ Contains (c.inputs ++ n ∷ []) m) (latch_leaves c.latchs) = λ k d h has.
    elim (Contains-push_cases c.inputs n (get_or (latch_leaves c.latchs) k d) has) [
      | inl old ↦ is.apart k d h old
      | inr same ↦ free.no_latch (subst (Contains (latch_leaves c.latchs)) (sym same) (Contains-get_or (latch_leaves c.latchs) k d h))
    ]
    in
    assumption (is, inputs, distinct, apart)

-- the circuit of the false node alone is one
AreNodes-only_false : AreNodes only_false.nodes
AreNodes-only_false = record {
  false_first = refl;
  false_once = only_zero;
  numbered = only_numbered;
  ordered = record { first_before = λ n a b is. absurd (no_gate n a b is); second_before = λ n a b is. absurd (no_gate n a b is); in_order = λ n a b is. absurd (no_gate n a b is) };
}
  where
    only_zero : (n : ℕ) → kind_at only_false.nodes n ≡ Some False → n ≡ 0
    only_zero zero is = refl
    only_zero (suc n) is = cc

    only_numbered : (n : ℕ) (node : AigNode) → slice_get only_false.nodes n ≡ Some node → node.node_id ≡ n
    only_numbered zero node is = ap (λ (x : AigNode). x.node_id) (sym (same_Some _ _ is))
    only_numbered (suc n) node is = cc

    no_gate : (n : ℕ) (a b : AigEdge) → kind_at only_false.nodes n ≡ Some (And a b) → ⊥
    no_gate zero a b is = cc
    no_gate (suc n) a b is = cc

pub IsCircuit-only_false : IsCircuit only_false
IsCircuit-only_false = record {
  nodes = AreNodes-only_false;
  inputs = All-nil (IsLeaf only_false.nodes);
  inputs_distinct = λ i j d h l. absurd (omega arith);
  latchs = All-nil (IsLatch only_false.nodes);
  latchs_distinct = λ i j d h l. absurd (omega arith);
  apart = All-nil (λ n. ¬ Contains [] n);
  properties = AllProperties-none (IsInRange only_false.nodes);
  named = λ n h. absurd (nothing_named n h);
}
  where
    nothing_named : (n : ℕ) → IsTrue (contains_key only_false.names n) → ⊥
    nothing_named n h = absurd (false≢true (sym (ap is_some (get-empty nat_cmp n)) ∙ h))

-- the leaves of latches are leaves
pub latch_leaves-leaves : (c : Circuit) → IsCircuit c → All (IsLeaf c.nodes) (latch_leaves c.latchs)
latch_leaves-leaves c is = All-map (IsLeaf c.nodes) (λ (l : AigLatch). l.input) c.latchs (All-weaker (IsLatch c.nodes) (λ l. IsLeaf c.nodes l.input) (λ l h. h.leaf) c.latchs is.latchs)

-- a number past the nodes is neither an input nor a latch's leaf
pub IsFree-fresh : (c : Circuit) → IsCircuit c → IsFree c.inputs c.latchs (length c.nodes)
IsFree-fresh c is = record {
  no_input = λ has. let leaf = All-contains (IsLeaf c.nodes) c.inputs (length c.nodes) is.inputs has in absurd (omega (arith, kind_at-within c.nodes (length c.nodes) Leaf leaf));
  no_latch = λ has. let leaf = All-contains (IsLeaf c.nodes) (latch_leaves c.latchs) (length c.nodes) (latch_leaves-leaves c is) has in absurd (omega (arith, kind_at-within c.nodes (length c.nodes) Leaf leaf));
}

-- a new leaf may be an input
pub IsCircuit-new_input : (c : Circuit) → IsCircuit c → IsCircuit (record c { nodes = with_node c.nodes Leaf; inputs = c.inputs ++ length c.nodes ∷ [] })
IsCircuit-new_input c is =
    let free = IsFree-fresh c is in
    IsCircuit-add_input (record c { nodes = with_node c.nodes Leaf }) (length c.nodes) (IsCircuit-grown c (with_node c.nodes Leaf) is (Grows-leaf c.nodes is.nodes)) (kind_at-last c.nodes _) free

-- a circuit stays one under other names of its nodes
pub IsCircuit-named : (c : Circuit) (names : FinMap nat_cmp (List ℕ)) → IsCircuit c → ((n : ℕ) → IsTrue (contains_key names n) → n < length c.nodes) → IsCircuit (record c { names = names })
IsCircuit-named c names is named = assumption (is, named)

-- pairs of the first list, of the second, and of one entry each
pub AllPairs-append : {X : Type 0} (R : X → X → Type 0) (xs ys : List X) → AllPairs R xs → AllPairs R ys → All (λ x. All (R x) ys) xs → AllPairs R (xs ++ ys)
AllPairs-append R xs ys p q across i j d h l = elim (cases_lt j (length xs)) [
  | inl left ↦ (
      let first : i < length xs = omega arith in
      rw (get_or_append_left xs ys d i first, get_or_append_left xs ys d j left) (p i j d h left))
  | inr past ↦ (
      let second : j - length xs < length ys = omega (arith, length-append xs ys) in
      rw (get_or-append_right xs ys (length xs) j d refl past)
      (elim (cases_lt i (length xs)) [
        | inl left ↦ rw (get_or_append_left xs ys d i left) (across i d left (j - length xs) d second)
        | inr later ↦ rw (get_or-append_right xs ys (length xs) i d refl later) (q (i - length xs) (j - length xs) d (omega arith) second)
      ]))
]

pub AreLeaves-of_circuit : (c : Circuit) → IsCircuit c → AreLeaves c.nodes c.inputs c.latchs
AreLeaves-of_circuit c is = record {
  leaves = All-append (IsLeaf c.nodes) c.inputs (latch_leaves c.latchs) is.inputs (latch_leaves-leaves c is);
  distinct = AllPairs-append (λ m n. m ≢ n) c.inputs (latch_leaves c.latchs) is.inputs_distinct is.latchs_distinct
      (λ k d h i e l same. is.apart i e l (subst (Contains c.inputs) same (Contains-get_or c.inputs k d h)));
}

-- a latch's leaf, read off the leaves
pub leaf-read : (latchs : List AigLatch) (i : ℕ) (d : AigLatch) → i < length latchs → get_or (latch_leaves latchs) i 0 ≡ (get_or latchs i d).input
leaf-read latchs i d h = get_or-map (λ (latch : AigLatch). latch.input) latchs i d 0 h
