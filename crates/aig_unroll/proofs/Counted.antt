-- All nodes have their images, and few nodes were made: none for false and for the latches' leaves.
use Rattle.aig_base.proofs.Words.{◌≡◌, ◌≢◌, ℕ, zero, suc, ◌+◌, ◌<◌, ◌≤◌, true, not, Some, List, [], ◌∷◌, length, map, get_or, refl, sym, ap, subst, ◌∙◌, arith, All, AllPairs, Contains, filter, option_map, Decides-eqb, same_Some, slice_get-get_or, length-map, take_all, All-cons, All-contains, All-nil, Contains-get_or, length-le_from_is_member, is_member-Decides, IsDistinct-from_AllPairs}
use Rattle.std.specs.Cmp.{nat_eq_equiv}
use Rattle.aig_circuit.specs.declared.edge.AigEdge.{AigEdge}
use Rattle.aig_circuit.specs.declared.node.AigNode.{AigNode}
use Rattle.aig_circuit.specs.declared.node.AigNodeType.{AigNodeType}
use Rattle.aig_circuit.specs.declared.node.AigNodeType.TheVariants.{False, Leaf}
use Rattle.aig_circuit.specs.declared.node.AigLatch.{AigLatch}
use Rattle.aig_circuit.proofs.Words.{kind_at, Circuit, IsCircuit, IsLeaf, latch_leaves, next_edges}
use Rattle.aig_circuit.proofs.Circuits.{AllPairs-append, latch_leaves-leaves}
use Rattle.aig_circuit.proofs.Trees.{kind_at-within}
use Rattle.aig_renumber.proofs.Kept.{is_in-there}
use Rattle.aig_unroll.specs.Frame.{next_of}
use Rattle.aig_unroll.proofs.Framed.{frame_of}
use Rattle.aig_unroll.specs.Step.{CopiesAll, CopiesBelow, IsState, image_at, others_among, takes_no_node}
use Rattle.aig_unroll.proofs.Added.{no_node, number_there}
use Rattle.aig_unroll.proofs.Copied.{map_same}
use Rattle.aig_unroll.proofs.Others.{kept_all, number_in}

module _ (from : Circuit) (circuit : IsCircuit from) where
  -- false and the latches' leaves
  abbrev bare : List ℕ
  bare = 0 ∷ latch_leaves from.latchs

  -- the numbers of the nodes for which none is made
  abbrev numbers : List ℕ
  numbers = map (λ (x : AigNode). x.node_id) (filter (takes_no_node from) from.nodes)

  -- a latch's leaf is not node 0
  not_false : All (λ n. 0 ≢ n) (latch_leaves from.latchs)
  not_false k d h q = differ (same_Some _ _ (sym circuit.nodes.false_first ∙ ap (kind_at from.nodes) q ∙ latch_leaves-leaves from circuit k d h))
    where
      differ : False ≡ Leaf → ⊥
      differ e = cc

  bare_distinct : AllPairs (λ m n. m ≢ n) bare
  bare_distinct =
      AllPairs-append (λ m n. m ≢ n) (0 ∷ []) (latch_leaves from.latchs) (λ i j d h l. absurd (omega arith)) circuit.latchs_distinct
      (All-cons (λ m. All (λ n. m ≢ n) (latch_leaves from.latchs)) 0 [] not_false (All-nil (λ m. All (λ n. m ≢ n) (latch_leaves from.latchs))))

  -- a node of such a kind is among them
  among : (n : ℕ) (k : AigNodeType) → kind_at from.nodes n ≡ Some k → takes_no_node from (record { node_id = n; typ = k }) ≡ true → Contains numbers n
  among n k is passes =
      let within = kind_at-within from.nodes n k is in
      let node = get_or from.nodes n no_node in
      let number : node.node_id ≡ n = number_there from.nodes circuit.nodes n no_node within in
      let kind : node.typ ≡ k = same_Some _ _ (sym (ap (option_map (λ (x : AigNode). x.typ)) (slice_get-get_or from.nodes n no_node within)) ∙ is) in
      let passes_here : takes_no_node from node ≡ true = ap (λ m. takes_no_node from (record { node_id = m; typ = node.typ })) number ∙ ap (λ t. takes_no_node from (record { node_id = n; typ = t })) kind ∙ passes in
      let at = Contains-get_or from.nodes n no_node within in
      subst (Contains numbers) number (number_in (filter (takes_no_node from) from.nodes) node (kept_all (takes_no_node from) from.nodes node at.0 at.1 at.2 passes_here))

  bare_among : (q : ℕ) → Contains bare q → Contains numbers q
  bare_among q (zero, h, is) = subst (Contains numbers) is (among 0 False circuit.nodes.false_first refl)
  bare_among q (suc k, h, is) =
      let short : k < length (latch_leaves from.latchs) = omega arith in
      let has : Contains (latch_leaves from.latchs) q = (k, short, is) in
      among q Leaf (All-contains (IsLeaf from.nodes) (latch_leaves from.latchs) q (latch_leaves-leaves from circuit) has) (ap (λ b. not (not b)) (is_in-there (latch_leaves from.latchs) q has))

  -- there are more of them than latches
  bare_many : 1 + length from.latchs ≤ length (filter (takes_no_node from) from.nodes)
  bare_many =
      let fewer : length bare ≤ length numbers =
      length-le_from_is_member nat_eq_equiv bare numbers (IsDistinct-from_AllPairs Decides-eqb bare bare_distinct)
      (λ q h. (is_member-Decides Decides-eqb numbers q).1 (bare_among q ((is_member-Decides Decides-eqb bare q).0 h))) in
      omega (arith, length-map from.latchs (λ (l : AigLatch). l.input), length-map (filter (takes_no_node from) from.nodes) (λ (x : AigNode). x.node_id))

  -- all nodes have their images
  pub all_copies : (latchs : List AigLatch) (old new : List AigNode) (before images : List AigEdge) → map (image_at before) (latch_leaves from.latchs) ≡ next_edges latchs → IsState from (length old) before (next_of latchs)
      → CopiesBelow from old new before images (length from.nodes) → CopiesAll from latchs old new images
  all_copies latchs old new before images latch_images state copies =
      let all = take_all (length from.nodes) from.nodes (omega arith) in
      record {
        grows = copies.grows;
        count = copies.count;
        there = copies.there;
        latches = map_same (image_at images) (image_at before) (latch_leaves from.latchs) (λ k d h. copies.latches (get_or (latch_leaves from.latchs) k d) (Contains-get_or (latch_leaves from.latchs) k d h)) ∙ latch_images;
        others = ap (λ l. map (image_at images) (others_among from l)) (sym all) ∙ copies.others;
        value = copies.value;
        size = let many = ap (λ l. length (filter (takes_no_node from) l)) all in omega (arith, copies.size, bare_many, many);
        exact = copies.exact (next_of latchs) state ∙ ap (frame_of new) (take_all (length from.nodes) images (omega (arith, copies.count)));
      }
