-- The refined circuit is a circuit, and its runs are the old ones, cut to the kept leaves.
use Rattle.aig_base.proofs.Words.{◌≡◌, ◌≢◌, ℕ, ◌+◌, ◌<◌, Bool, true, false, cond, Option, Some, None, List, length, map, get_or, refl, sym, ap, subst, ◌∙◌, IsTrue, All, Contains, IfSome, is_some, option_map, slice_index, contains_key, get, get-retain_keys, false≢true, exact_unsigned, All-filter, All-from_recursion, All-map, All-weaker, filter_passes, AllPairs-filter}
use Rattle.aig_circuit.specs.declared.edge.AigEdge.{AigEdge}
use Rattle.aig_circuit.specs.declared.node.AigNode.{AigNode}
use Rattle.aig_circuit.specs.declared.node.AigNodeType.TheVariants.{Leaf}
use Rattle.aig_circuit.specs.declared.node.AigLatch.{AigLatch}
use Rattle.aig_circuit.proofs.Words.{edge_value, Circuit, IsCircuit, IsLeaf, latch_leaves, HaveSameValues, next_edges, nodes_in_order, position_of, renumbered_edge, renumbered_latch, is_in, only_kept, initial_edges}
use Rattle.aig_circuit.proofs.Listed.{AllProperties-entries_of, AllProperties-weaker, AreProperties-map}
use Rattle.aig_circuit.proofs.Lists.{All-from_map, AllZip-map}
use Rattle.aig_circuit.proofs.Trees.{kind_at-within}
use Rattle.aig_renumber.specs.Numbers.{IsEdgeIn, IsLatchIn, SpeaksOf}
use Rattle.aig_renumber.proofs.Kept.{is_in-back}
use Rattle.aig_renumber.proofs.Circuits.{IsCircuit-renumbered, initial_edges-map, next_edges-map, runs-renumbered}
use Rattle.aig_renumber.proofs.NodesInOrder.{IsOrdered-made, Merges, Merges-numbers, Renumbers-made, length-nodes_in_order}
use Rattle.aig_renumber.proofs.Places.{filter-back}
use Rattle.aig_circuit.proofs.Values.{edge_value-renumbered}
use Rattle.aig_cone.specs.Refine.{AreKept, CutsRuns, cut_to, refined}
use Rattle.aig_cone.proofs.Keeping.{Numbers-kept, S, S-latchs, S-properties, S-starts}

module _ (c : Circuit) (kept : List ℕ) (is : IsCircuit c) (are : AreKept c kept) where
  abbrev pub In : ℕ → Type 0
  In = S c kept is are

  abbrev number : ℕ → ℕ
  number = position_of kept

  abbrev pub cut : Circuit
  cut = only_kept kept c

  abbrev new : List AigNode
  new = nodes_in_order c.nodes number 0 kept

  keys_kept : (n : ℕ) → IsTrue (contains_key cut.names n) → (is_in kept n ≡ true) × IsTrue (contains_key c.names n)
  keys_kept n has = by_test (is_in kept n) refl (subst (λ o. IsTrue (is_some o)) (get-retain_keys c.names (is_in kept) n (λ k e. let same : n ≡ k = exact_unsigned n k e in ap (is_in kept) (sym same))) has)
    where
      by_test : (b : Bool) → is_in kept n ≡ b → IsTrue (is_some (cond b (get c.names n) None)) → (is_in kept n ≡ true) × IsTrue (contains_key c.names n)
      by_test true e h = (e, h)
      by_test false e h = absurd (false≢true h)

  is_cut : IsCircuit cut
  is_cut = record {
    nodes = is.nodes;
    inputs = All-filter (is_in kept) (IsLeaf c.nodes) c.inputs is.inputs;
    inputs_distinct = AllPairs-filter (λ m n. m ≢ n) (is_in kept) c.inputs is.inputs_distinct;
    latchs = is.latchs;
    latchs_distinct = is.latchs_distinct;
    apart = All-weaker (λ n. ¬ Contains c.inputs n) (λ n. ¬ Contains cut.inputs n) (λ n none has. none (filter-back (is_in kept) c.inputs n has).0) (latch_leaves c.latchs) is.apart;
    properties = is.properties;
    named = λ n has. is.named n (keys_kept n has).1;
  }

  -- its lists speak of kept nodes alone
  pub speaks : SpeaksOf In cut
  speaks = record {
    inputs = All-weaker (λ n. is_in kept n ≡ true) In (λ n h. is_in-back kept n h) cut.inputs (filter_passes (is_in kept) c.inputs);
    latchs = S-latchs c kept is are;
    properties = AllProperties-entries_of (IsEdgeIn In) c.properties (S-properties c kept is are);
    named = λ n has. is_in-back kept n (keys_kept n has).0;
  }

  merges : Merges c.nodes In kept number
  merges = Merges-numbers c.nodes In kept number (Numbers-kept c kept is are)

  pub IsCircuit-refined : IsCircuit (refined kept c)
  IsCircuit-refined = IsCircuit-renumbered cut In kept number merges is_cut speaks

  -- ---- values and runs

  back : (n : ℕ) → In n → slice_index kept (number n) ≡ n
  back n s = (Numbers-kept c kept is are).back n s

  value : (x : ℕ → Bool) (e : AigEdge) → IsEdgeIn In e → edge_value new (cut_to kept x) (renumbered_edge number e) ≡ edge_value c.nodes x e
  value x e s =
      edge_value-renumbered c.nodes new In number is.nodes.ordered (IsOrdered-made c.nodes In kept number merges) (Renumbers-made c.nodes In kept number merges)
      x (cut_to kept x) (λ n s h. ap x (back n s)) e s

  values : (x : ℕ → Bool) (es : List AigEdge) → All (IsEdgeIn In) es → HaveSameValues c.nodes x es new (cut_to kept x) (map (renumbered_edge number) es)
  values x es all = AllZip-map (renumbered_edge number) (λ e f. edge_value c.nodes x e ≡ edge_value new (cut_to kept x) f) es (λ k d h. sym (value x (get_or es k d) (all k d h)))

  Begins : List AigNode → (ℕ → Bool) → AigLatch → Type 0
  Begins nodes x latch = IfSome latch.init (λ e. edge_value nodes x e ≡ x latch.input)

  start_forth : (x : ℕ → Bool) (n : ℕ) (o : Option AigEdge) → In n → IfSome o (IsEdgeIn In) → IfSome (option_map (renumbered_edge number) o) (λ e. edge_value new (cut_to kept x) e ≡ cut_to kept x (number n)) → IfSome o (λ e. edge_value c.nodes x e ≡ x n)
  start_forth x n (Some e) t s h = sym (value x e s) ∙ h ∙ ap x (back n t)
  start_forth x n None t s h = tt

  start_back : (x : ℕ → Bool) (n : ℕ) (o : Option AigEdge) → In n → IfSome o (IsEdgeIn In) → IfSome o (λ e. edge_value c.nodes x e ≡ x n) → IfSome (option_map (renumbered_edge number) o) (λ e. edge_value new (cut_to kept x) e ≡ cut_to kept x (number n))
  start_back x n (Some e) t s h = value x e s ∙ h ∙ sym (ap x (back n t))
  start_back x n None t s h = tt

  leaf_within : (n : ℕ) → IsLeaf new n → n < length kept
  leaf_within n leaf = subst (λ m. n < m) (length-nodes_in_order c.nodes number 0 kept) (kind_at-within new n Leaf leaf)

  pub CutsRuns-refined : CutsRuns c (refined kept c) kept
  CutsRuns-refined = record {
    cut = λ last x run t h. All-map (λ latch. cut_to kept (x (t + 1)) latch.input ≡ edge_value new (cut_to kept (x t)) latch.next) (renumbered_latch number) c.latchs (λ k d l.
        let s = speaks.latchs k d l in
        ap (x (t + 1)) (back (get_or c.latchs k d).input s.leaf) ∙ run t h k d l ∙ sym (value (x t) (get_or c.latchs k d).next s.next));
    each = λ last z run. (
      λ t n. z t (number n),
      (runs-renumbered cut In kept number merges is_cut speaks last z).0 run,
      λ t n leaf. ap (z t) ((Numbers-kept c kept is are).place n (leaf_within n leaf)),
    );
    starts = λ x. (
      λ start k d l.
          let latch = get_or c.latchs k d in
          let s = speaks.latchs k d l in
          start_forth x latch.input latch.init s.leaf s.init (All-from_map (renumbered_latch number) (λ latch. IfSome latch.init (λ e. edge_value new (cut_to kept x) e ≡ cut_to kept x latch.input)) c.latchs start k d l),
      λ start. All-map (λ latch. IfSome latch.init (λ e. edge_value new (cut_to kept x) e ≡ cut_to kept x latch.input)) (renumbered_latch number) c.latchs (λ k d l.
          let s = speaks.latchs k d l in
          start_back x (get_or c.latchs k d).input (get_or c.latchs k d).init s.leaf s.init (start k d l)),
    );
    properties = λ x.
        let R : AigEdge → AigEdge → Type 0 = λ e f. edge_value c.nodes x e ≡ edge_value new (cut_to kept x) f in
        AreProperties-map (renumbered_edge number) R c.properties (AllProperties-weaker (IsEdgeIn In) (λ e. R e (renumbered_edge number e)) (λ e h. sym (value x e h)) c.properties speaks.properties);
    next = λ x. subst (HaveSameValues c.nodes x (next_edges c.latchs) new (cut_to kept x)) (sym (next_edges-map number c.latchs))
        (values x (next_edges c.latchs) (All-map (IsEdgeIn In) (λ (l : AigLatch). l.next) c.latchs (All-weaker (IsLatchIn In) (λ l. IsEdgeIn In l.next) (λ l h. h.next) c.latchs speaks.latchs)));
    initial = λ x. subst (HaveSameValues c.nodes x (initial_edges c.latchs) new (cut_to kept x)) (sym (initial_edges-map number c.latchs))
        (values x (initial_edges c.latchs) (All-from_recursion (IsEdgeIn In) (initial_edges c.latchs) (S-starts c kept is are)));
  }
