-- One more gate in the map: it is found by its operands' literals exactly where an earlier node has its tree.
use Rattle.std.proofs.Common.{◌≡◌, ℕ, ◌+◌, ◌*◌, ◌<◌, ◌≤◌, Bool, true, false, Option, Some, None, IsSome, List, length, take, map, refl, sym, ap, subst, ◌∙◌, arith, inl, inr}
use Rattle.aig_base.proofs.Words.{unwrap_or, slice_index, and_parts, and_from, cases_lt, eqb-true, eq-eqb, false≢true, get_or-map, get_or-take, length-map, length-take}
use Rattle.aig_circuit.specs.declared.edge.AigEdge.{AigEdge}
use Rattle.aig_circuit.specs.declared.node.AigNodeType.{AigNodeType}
use Rattle.aig_circuit.specs.declared.node.AigNodeType.TheVariants.{False, Leaf, And}
use Rattle.aig_circuit.specs.declared.node.AigNode.{AigNode}
use Rattle.aig_circuit.proofs.Words.{edge_to, and_of, kind_at, AreNodes, renumbered_edge, renumbered_kind, Tree, AndTree, tree_of}
use Rattle.aig_circuit.proofs.Trees.{kind_at-there, tree_of-false, tree_of-leaf, tree_of-and}
use Rattle.aig_strash.specs.Exchange.{HaveEqualTrees, IsGate, representative_of, image_of, kept_before, node_numbers}
use Rattle.aig_strash.specs.declared.numbers.Tables.{Tables}
use Rattle.aig_strash.specs.Numbering.{HasGates, HasSmallLiteral, gate_literals, operand_literals}
use Rattle.aig_strash.specs.Tables.{Gates, Literals, PutsIfAbsent, are_same, literal_limit, number_of_gate, number_table}
use Rattle.aig_strash.proofs.Equal.{Equal}
use Rattle.aig_strash.proofs.Firsts.{first-0, first-is, first-leaf, first-within, image-same, numbers-count, numbers-length}
use Rattle.aig_strash.proofs.Numbered.{equal-from_literals, image-before, image-kept, kept_before-few, literals-from_equal}

-- ---- literals

are_same-is : (p q : Literals) → are_same p q ≡ true → p ≡ q
are_same-is p q h =
    let parts = and_parts _ _ h in
    let first = eqb-true p.0 q.0 parts.0 in
    let second = eqb-true p.1 q.1 parts.1 in
    λ t. (first t, second t)

are_same-itself : (p : Literals) → are_same p p ≡ true
are_same-itself p = and_from _ _ (eq-eqb p.0 p.0 refl) (eq-eqb p.1 p.1 refl)

module _ (nodes : List AigNode) (are : AreNodes nodes) where
  -- a gate's tree is equal to a gate's alone
  IsGate-equal : (m n : ℕ) → m < length nodes → IsGate nodes n → HaveEqualTrees nodes m n → IsGate nodes m
  IsGate-equal m n h (a, b, is) same = by_kind (kind_at-there nodes m h).0 (kind_at-there nodes m h).1
    where
      gate : Tree
      gate = AndTree a.compl (tree_of nodes a.node_id) b.compl (tree_of nodes b.node_id)

      here : Equal (tree_of nodes m) gate
      here = subst (Equal (tree_of nodes m)) (tree_of-and nodes are.ordered n a b is) same

      by_kind : (k : AigNodeType) → kind_at nodes m ≡ Some k → IsGate nodes m
      by_kind False other = absurd (false≢true (subst (λ t. Equal t gate) (tree_of-false nodes m other) here))
      by_kind Leaf other = absurd (false≢true (subst (λ t. Equal t gate) (tree_of-leaf nodes m other) here))
      by_kind (And c d) other = (c, d, other)

  -- ---- numbers so far

  abbrev images_to : ℕ → List ℕ
  images_to n = map (image_of nodes) (take n (node_numbers nodes))

  images-length : (n : ℕ) → n ≤ length nodes → length (images_to n) ≡ n
  images-length n h = omega (arith, length-map (take n (node_numbers nodes)) (image_of nodes), length-take n (node_numbers nodes), numbers-length nodes are)

  images-at : (n m : ℕ) → n ≤ length nodes → m < n → slice_index (images_to n) m ≡ image_of nodes m
  images-at n m h low =
      let within : m < length (take n (node_numbers nodes)) = omega (arith, length-take n (node_numbers nodes), numbers-length nodes are) in
      get_or-map (image_of nodes) (take n (node_numbers nodes)) m 0 0 within
      ∙ ap (image_of nodes) (get_or-take n (node_numbers nodes) m 0 low ∙ omega (arith, numbers-count nodes are m 0 (omega (arith, numbers-length nodes are))))

  -- the tables have room for the literals of an edge to an earlier node
  pub small-literal : (n : ℕ) (e : AigEdge) (tables : Tables) → n ≤ length nodes → e.node_id < n → number_table tables ≡ images_to n → 2 * length nodes ≤ literal_limit tables → HasSmallLiteral tables e
  small-literal n e tables h low so_far limit = record {
    there = omega (arith, ap length so_far, images-length n h);
    small = (
        let below = image-before nodes are e.node_id n low h in
        let few = kept_before-few nodes are n h in
        let at : slice_index (number_table tables) e.node_id ≡ image_of nodes e.node_id = ap (λ (l : List ℕ). slice_index l e.node_id) so_far ∙ images-at n e.node_id h low in
        omega arith);
  }

  -- the literals that are made of the numbers so far are the gate's
  pub literals-of_gate : (n : ℕ) (a b : AigEdge) → n ≤ length nodes → kind_at nodes n ≡ Some (And a b) → operand_literals (and_of (renumbered_edge (slice_index (images_to n)) a) (renumbered_edge (slice_index (images_to n)) b)) ≡ gate_literals nodes n
  literals-of_gate n a b h is =
      let first = ap (λ m. edge_to m a.compl) (images-at n a.node_id h (are.ordered.first_before n a b is)) in
      let second = ap (λ m. edge_to m b.compl) (images-at n b.node_id h (are.ordered.second_before n a b is)) in
      ap (λ e. operand_literals (and_of e (renumbered_edge (slice_index (images_to n)) b))) first
      ∙ ap (λ e. operand_literals (and_of (renumbered_edge (image_of nodes) a) e)) second
      ∙ ap (λ o. operand_literals (renumbered_kind (image_of nodes) o)) (sym is)

  -- ---- the next node

  -- a node that is no gate is kept
  pub first-other : (n : ℕ) (k : AigNodeType) → kind_at nodes n ≡ Some k → (IsGate nodes n → ⊥) → representative_of nodes n ≡ n
  first-other n False is other = ap (representative_of nodes) (are.false_once n is) ∙ first-0 nodes are ∙ sym (are.false_once n is)
  first-other n Leaf is other = first-leaf nodes are n is
  first-other n (And a b) is other = absurd (other (a, b, is))

  pub number-other : (n : ℕ) (k : AigNodeType) → n < length nodes → kind_at nodes n ≡ Some k → (IsGate nodes n → ⊥) → kept_before nodes n ≡ image_of nodes n
  number-other n k h is other = sym (image-kept nodes are n h (first-other n k is other))

  pub gates-other : (n : ℕ) (gates : Gates) → (IsGate nodes n → ⊥) → HasGates nodes n gates → HasGates nodes (n + 1) gates
  gates-other n gates other has = record {
    each = λ m low gate. elim (cases_lt m n) [
      | inl less ↦ has.each m less gate
      | inr more ↦ (let same : m ≡ n = omega arith in absurd (other (subst (IsGate nodes) same gate)))
    ];
    no_more = λ q there. let found = has.no_more q there in (found.0, omega (arith, found.1), found.2, found.3);
  }

  module _ (n : ℕ) (h : n < length nodes) (gate : IsGate nodes n) (old new : Gates) (has : HasGates nodes n old) (found : ℕ) (puts : PutsIfAbsent are_same old new (gate_literals nodes n) (kept_before nodes n) found) where
    by_found : (o : Option ℕ) → number_of_gate old (gate_literals nodes n) ≡ o → unwrap_or o (kept_before nodes n) ≡ image_of nodes n
    by_found (Some v) is =
        let there = has.no_more (gate_literals nodes n) (subst IsSome (sym is) refl) in
        let low : there.0 < n = there.1 in
        let at = has.each there.0 there.1 there.2 in
        let same : Some v ≡ Some (image_of nodes there.0) = sym is ∙ ap (number_of_gate old) (sym there.3) ∙ at in
        let equal = equal-from_literals nodes are there.0 n there.2 gate there.3 in
        ap (λ o. unwrap_or o v) same ∙ image-same nodes are there.0 n (omega arith) h equal
    by_found None is = sym (image-kept nodes are n h (elim (cases_lt (representative_of nodes n) n) [
      | inl low ↦ (
          let first = first-is nodes are n h in
          let within = first-within nodes are n h in
          let at = has.each (representative_of nodes n) low (IsGate-equal (representative_of nodes n) n within gate first.equal) in
          let same : Some (image_of nodes (representative_of nodes n)) ≡ None = sym at ∙ ap (number_of_gate old) (literals-from_equal nodes are (representative_of nodes n) n within h first.equal) ∙ is in
          cc)
      | inr high ↦ (let low = (first-is nodes are n h).low in omega arith)
    ]))

    pub number-gate : found ≡ image_of nodes n
    number-gate = puts.value ∙ by_found (number_of_gate old (gate_literals nodes n)) refl

    each-gate : (m : ℕ) → IsGate nodes m → (b : Bool) → are_same (gate_literals nodes n) (gate_literals nodes m) ≡ b → (m < n + 1) → number_of_gate new (gate_literals nodes m) ≡ Some (image_of nodes m)
    each-gate m other true same low =
        let literals = are_same-is (gate_literals nodes n) (gate_literals nodes m) same in
        let equal = equal-from_literals nodes are n m gate other literals in
        ap (number_of_gate new) (sym literals) ∙ puts.here ∙ ap Some (number-gate ∙ image-same nodes are n m h (omega arith) equal)
    each-gate m other false apart low = elim (cases_lt m n) [
      | inl less ↦ puts.others (gate_literals nodes m) apart ∙ has.each m less other
      | inr more ↦ (
          let same : n ≡ m = omega arith in
          absurd (false≢true (sym apart ∙ ap (λ k. are_same (gate_literals nodes n) (gate_literals nodes k)) (sym same) ∙ are_same-itself (gate_literals nodes n))))
    ]

    no_more-gate : (q : Literals) → (b : Bool) → are_same (gate_literals nodes n) q ≡ b → IsSome (number_of_gate new q) → (m : ℕ) × (m < n + 1) × IsGate nodes m × (gate_literals nodes m ≡ q)
    no_more-gate q true same there = (n, omega arith, gate, are_same-is (gate_literals nodes n) q same)
    no_more-gate q false apart there =
        let before = has.no_more q (subst IsSome (puts.others q apart) there) in
        (before.0, omega (arith, before.1), before.2, before.3)

    pub gates-gate : HasGates nodes (n + 1) new
    gates-gate = record {
      each = λ m low other. each-gate m other (are_same (gate_literals nodes n) (gate_literals nodes m)) refl low;
      no_more = λ q there. no_more-gate q (are_same (gate_literals nodes n) q) refl there;
    }

  -- so does what was made of the numbers so far
  pub step-gate : (n : ℕ) → n < length nodes → (a b : AigEdge) → kind_at nodes n ≡ Some (And a b) → (list : List ℕ) → list ≡ images_to n
      → (literals : Literals) → literals ≡ operand_literals (and_of (renumbered_edge (slice_index list) a) (renumbered_edge (slice_index list) b))
      → (next : ℕ) → next ≡ kept_before nodes n → (old new : Gates) → HasGates nodes n old → (found : ℕ) → PutsIfAbsent are_same old new literals next found
      → (found ≡ image_of nodes n) × HasGates nodes (n + 1) new
  step-gate n h a b is list so_far literals made next count old new has found puts =
      let of_list = ap (λ (l : List ℕ). operand_literals (and_of (renumbered_edge (slice_index l) a) (renumbered_edge (slice_index l) b))) so_far in
      let same : literals ≡ gate_literals nodes n = made ∙ of_list ∙ literals-of_gate n a b (omega arith) is in
      let at = subst (λ m. PutsIfAbsent are_same old new (gate_literals nodes n) m found) count (subst (λ q. PutsIfAbsent are_same old new q next found) same puts) in
      (number-gate n h (a, b, is) old new has found at, gates-gate n h (a, b, is) old new has found at)
