-- A circuit under other numbers is a circuit, with the runs and values of the old one.
use Rattle.aig_base.proofs.Words.{◌≡◌, ◌≢◌, ◌↔◌, ℕ, ◌+◌, ◌<◌, Bool, Option, Some, None, List, [], ◌∷◌, ◌++◌, length, map, get_or, refl, sym, ap, subst, ◌∙◌, arith, suc, All, AllPairs, Contains, IfSome, option_map, option_to_list, entries, length-map, map-append, All-cons, All-map, All-nil, All-weaker, All-contains}
use Rattle.aig_circuit.specs.declared.edge.AigEdge.{AigEdge}
use Rattle.aig_circuit.specs.declared.node.AigNode.{AigNode}
use Rattle.aig_circuit.specs.declared.node.AigNodeType.TheVariants.{Leaf}
use Rattle.aig_circuit.specs.declared.node.AigLatch.{AigLatch}
use Rattle.aig_circuit.proofs.Words.{edge_value, Circuit, IsCircuit, IsClosed, IsInRange, IsLatch, IsLeaf, latch_leaves, initial_edges, nodes_in_order, renumbered_circuit, renumbered_edge, renumbered_latch}
use Rattle.aig_circuit.specs.Runs.{AreAsLong, HaveSameProperties, HaveSameValues, IsRun, IsInitial, KeepsRuns, next_edges}
use Rattle.aig_circuit.proofs.Trees.{kind_at-within}
use Rattle.aig_renumber.specs.Numbers.{IsEdgeIn, IsLatchIn, SpeaksOf}
use Rattle.aig_circuit.proofs.Listed.{AllProperties-always, AllProperties-map, AllProperties-weaker, AreProperties-map}
use Rattle.aig_circuit.proofs.Lists.{AllZip-map, All-from_map}
use Rattle.aig_renumber.proofs.Places.{AllPairs-map_numbers, Contains-map, Contains-map_back}
use Rattle.aig_circuit.proofs.Values.{edge_value-renumbered}
use Rattle.aig_renumber.proofs.NodesInOrder.{Merges, length-nodes_in_order, within_made, leaves-apart, AreNodes-made, IsOrdered-made, IsLeaf-number, IsLeaf-back, Renumbers-made}
use Rattle.aig_renumber.proofs.Names.{names_in_circuit, named_back}

pub latch_leaves-map : (number : ℕ → ℕ) (latchs : List AigLatch) → latch_leaves (map (renumbered_latch number) latchs) ≡ map number (latch_leaves latchs)
latch_leaves-map number [] = refl
latch_leaves-map number (l ∷ ls) = ap (λ ns. number l.input ∷ ns) (latch_leaves-map number ls)

pub next_edges-map : (number : ℕ → ℕ) (latchs : List AigLatch) → next_edges (map (renumbered_latch number) latchs) ≡ map (renumbered_edge number) (next_edges latchs)
next_edges-map number [] = refl
next_edges-map number (l ∷ ls) = ap (λ es. renumbered_edge number l.next ∷ es) (next_edges-map number ls)

pub initial_edges-map : (number : ℕ → ℕ) (latchs : List AigLatch) → initial_edges (map (renumbered_latch number) latchs) ≡ map (renumbered_edge number) (initial_edges latchs)
initial_edges-map number [] = refl
initial_edges-map number (l ∷ ls) = by_init l.init (initial_edges-map number ls)
  where
    by_init : (o : Option AigEdge) → initial_edges (map (renumbered_latch number) ls) ≡ map (renumbered_edge number) (initial_edges ls)
        → option_to_list (option_map (renumbered_edge number) o) ++ initial_edges (map (renumbered_latch number) ls) ≡ map (renumbered_edge number) (option_to_list o ++ initial_edges ls)
    by_init (Some e) rest = ap (λ es. renumbered_edge number e ∷ es) rest
    by_init None rest = rest

-- what holds of every initial edge holds of those that are there
All-initial_edges : (P : AigEdge → Type 0) (latchs : List AigLatch) → All (λ l. IfSome l.init P) latchs → All P (initial_edges latchs)
All-initial_edges P [] all = All-nil P
All-initial_edges P (l ∷ ls) all = by_init l.init (all 0 l (omega arith)) (All-initial_edges P ls (λ k d h. all (suc k) d (omega arith)))
  where
    by_init : (o : Option AigEdge) → IfSome o P → All P (initial_edges ls) → All P (option_to_list o ++ initial_edges ls)
    by_init (Some e) p rest = All-cons P e (initial_edges ls) p rest
    by_init None p rest = rest

-- inputs and latch leaves, in order
pub leaves-map : (number : ℕ → ℕ) (c : Circuit) → map number c.inputs ++ latch_leaves (map (renumbered_latch number) c.latchs) ≡ map number (c.inputs ++ latch_leaves c.latchs)
leaves-map number c = ap (λ ns. map number c.inputs ++ ns) (latch_leaves-map number c.latchs) ∙ sym (map-append number c.inputs (latch_leaves c.latchs))

-- there are as many nodes as the list has numbers, and lists are as long as before
pub AreAsLong-renumbered : (number : ℕ → ℕ) (ns : List ℕ) (c : Circuit) → length ns ≡ length c.nodes → AreAsLong c (renumbered_circuit number ns c)
AreAsLong-renumbered number ns c count = record {
  nodes = length-nodes_in_order c.nodes number 0 ns ∙ count;
  inputs = length-map c.inputs number;
  latchs = length-map c.latchs (renumbered_latch number);
  properties = AreProperties-map (renumbered_edge number) (λ e f. Unit {0}) c.properties (AllProperties-always c.properties);
}

module _ (c : Circuit) (S : ℕ → Type 0) (ns : List ℕ) (number : ℕ → ℕ) (merges : Merges c.nodes S ns number) (is : IsCircuit c) (speaks : SpeaksOf S c) where
  abbrev new : List AigNode
  new = nodes_in_order c.nodes number 0 ns

  in_range : (e : AigEdge) → IsEdgeIn S e → IsInRange new (renumbered_edge number e)
  in_range e s = within_made c.nodes S ns number merges e.node_id s

  init_in_range : (o : Option AigEdge) → IfSome o (IsEdgeIn S) → IfSome (option_map (renumbered_edge number) o) (IsInRange new)
  init_in_range (Some e) s = in_range e s
  init_in_range None s = tt

  leaf : (n : ℕ) → S n → IsLeaf c.nodes n → IsLeaf new (number n)
  leaf n s h = IsLeaf-number c.nodes S ns number merges n s h

  -- a leaf of S
  abbrev LeafIn : ℕ → Type 0
  LeafIn n = S n × IsLeaf c.nodes n

  inputs_in : All LeafIn c.inputs
  inputs_in k d h = (speaks.inputs k d h, is.inputs k d h)

  leaves_in : All LeafIn (latch_leaves c.latchs)
  leaves_in = All-map LeafIn (λ (l : AigLatch). l.input) c.latchs (λ k d h. ((speaks.latchs k d h).leaf, (is.latchs k d h).leaf))

  latchs_are : All (IsLatch new) (map (renumbered_latch number) c.latchs)
  latchs_are = All-map (IsLatch new) (renumbered_latch number) c.latchs (λ k d h.
      let old = is.latchs k d h in
      let s = speaks.latchs k d h in
      record {
        leaf = leaf (get_or c.latchs k d).input s.leaf old.leaf;
        next = in_range (get_or c.latchs k d).next s.next;
        init = init_in_range (get_or c.latchs k d).init s.init;
      })

  leaves_apart : All (λ n. ¬ Contains (map number c.inputs) n) (map number (latch_leaves c.latchs))
  leaves_apart = All-map (λ n. ¬ Contains (map number c.inputs) n) number (latch_leaves c.latchs) (λ k d h has.
      let input = Contains-map_back number c.inputs (number (get_or (latch_leaves c.latchs) k d)) has in
      let same = leaves-apart c.nodes S ns number merges input.0 (get_or (latch_leaves c.latchs) k d) (All-contains LeafIn c.inputs input.0 inputs_in input.1) (leaves_in k d h) input.2 in
      is.apart k d h (subst (Contains c.inputs) same input.1))

  -- it is a circuit
  pub IsCircuit-renumbered : IsCircuit (renumbered_circuit number ns c)
  IsCircuit-renumbered = record {
    nodes = AreNodes-made c.nodes S ns number merges is.nodes;
    inputs = All-map (IsLeaf new) number c.inputs (λ k d h. leaf (get_or c.inputs k d) (speaks.inputs k d h) (is.inputs k d h));
    inputs_distinct = AllPairs-map_numbers LeafIn number c.inputs (leaves-apart c.nodes S ns number merges) inputs_in is.inputs_distinct;
    latchs = latchs_are;
    latchs_distinct = subst (AllPairs (λ m n. m ≢ n)) (sym (latch_leaves-map number c.latchs)) (AllPairs-map_numbers LeafIn number (latch_leaves c.latchs) (leaves-apart c.nodes S ns number merges) leaves_in is.latchs_distinct);
    apart = subst (All (λ n. ¬ Contains (map number c.inputs) n)) (sym (latch_leaves-map number c.latchs)) leaves_apart;
    properties = AllProperties-map (IsInRange new) (renumbered_edge number) c.properties (AllProperties-weaker (IsEdgeIn S) (λ e. IsInRange new (renumbered_edge number e)) in_range c.properties speaks.properties);
    named = λ q has.
        let old = named_back S number (entries c.names) q (names_in_circuit S c.names speaks.named) has in
        subst (λ n. n < length new) old.2 (within_made c.nodes S ns number merges old.0 old.1);
  }

  -- and closed, where the old one is
  pub IsClosed-renumbered : IsClosed c → IsClosed (renumbered_circuit number ns c)
  IsClosed-renumbered closed i h =
      let old = IsLeaf-back c.nodes S ns number merges i h in
      let there = Contains-map number (c.inputs ++ latch_leaves c.latchs) (get_or ns i 0) (closed (get_or ns i 0) old.1) in
      let moved = subst (λ l. Contains l (number (get_or ns i 0))) (sym (leaves-map number c)) there in
      subst (Contains (map number c.inputs ++ latch_leaves (map (renumbered_latch number) c.latchs))) (merges.place i old.0) moved

  -- ---- values and runs

  value : (z : ℕ → Bool) (e : AigEdge) → IsEdgeIn S e → edge_value new z (renumbered_edge number e) ≡ edge_value c.nodes (λ n. z (number n)) e
  value z e s = edge_value-renumbered c.nodes new S number is.nodes.ordered (IsOrdered-made c.nodes S ns number merges) (Renumbers-made c.nodes S ns number merges) (λ n. z (number n)) z (λ n s h. refl) e s

  values : (z : ℕ → Bool) (es : List AigEdge) → All (IsEdgeIn S) es → HaveSameValues c.nodes (λ n. z (number n)) es new z (map (renumbered_edge number) es)
  values z es all = AllZip-map (renumbered_edge number) (λ e f. edge_value c.nodes (λ n. z (number n)) e ≡ edge_value new z f) es (λ k d h. sym (value z (get_or es k d) (all k d h)))

  start_forth : (z : ℕ → Bool) (n : ℕ) (o : Option AigEdge) → IfSome o (IsEdgeIn S) → IfSome (option_map (renumbered_edge number) o) (λ e. edge_value new z e ≡ z (number n)) → IfSome o (λ e. edge_value c.nodes (λ n. z (number n)) e ≡ z (number n))
  start_forth z n (Some e) s h = sym (value z e s) ∙ h
  start_forth z n None s h = tt

  start_back : (z : ℕ → Bool) (n : ℕ) (o : Option AigEdge) → IfSome o (IsEdgeIn S) → IfSome o (λ e. edge_value c.nodes (λ n. z (number n)) e ≡ z (number n)) → IfSome (option_map (renumbered_edge number) o) (λ e. edge_value new z e ≡ z (number n))
  start_back z n (Some e) s h = value z e s ∙ h
  start_back z n None s h = tt

  pub runs-renumbered : (last : ℕ) (z : ℕ → ℕ → Bool) → IsRun (renumbered_circuit number ns c) last z ↔ IsRun c last (λ t n. z t (number n))
  runs-renumbered last z = (
    λ run t h k d l.
        let step = All-from_map (renumbered_latch number) (λ latch. z (t + 1) latch.input ≡ edge_value new (z t) latch.next) c.latchs (run t h) k d l in
        step ∙ value (z t) (get_or c.latchs k d).next (speaks.latchs k d l).next,
    λ run t h. All-map (λ latch. z (t + 1) latch.input ≡ edge_value new (z t) latch.next) (renumbered_latch number) c.latchs (λ k d l.
        run t h k d l ∙ sym (value (z t) (get_or c.latchs k d).next (speaks.latchs k d l).next)),
  )

  pub starts-renumbered : (z : ℕ → Bool) → IsInitial (renumbered_circuit number ns c) z ↔ IsInitial c (λ n. z (number n))
  starts-renumbered z = (
    λ start k d l.
        let latch = get_or c.latchs k d in
        let begins = All-from_map (renumbered_latch number) (λ latch. IfSome latch.init (λ e. edge_value new z e ≡ z latch.input)) c.latchs start k d l in
        start_forth z latch.input latch.init (speaks.latchs k d l).init begins,
    λ start. All-map (λ latch. IfSome latch.init (λ e. edge_value new z e ≡ z latch.input)) (renumbered_latch number) c.latchs (λ k d l.
        start_back z (get_or c.latchs k d).input (get_or c.latchs k d).init (speaks.latchs k d l).init (start k d l)),
  )

  pub properties-renumbered : (z : ℕ → Bool) → HaveSameProperties c (λ n. z (number n)) (renumbered_circuit number ns c) z
  properties-renumbered z =
      let R : AigEdge → AigEdge → Type 0 = λ e f. edge_value c.nodes (λ n. z (number n)) e ≡ edge_value new z f in
      AreProperties-map (renumbered_edge number) R c.properties (AllProperties-weaker (IsEdgeIn S) (λ e. R e (renumbered_edge number e)) (λ e h. sym (value z e h)) c.properties speaks.properties)

  pub next-renumbered : (z : ℕ → Bool) → HaveSameValues c.nodes (λ n. z (number n)) (next_edges c.latchs) new z (next_edges (map (renumbered_latch number) c.latchs))
  next-renumbered z = subst (HaveSameValues c.nodes (λ n. z (number n)) (next_edges c.latchs) new z) (sym (next_edges-map number c.latchs))
      (values z (next_edges c.latchs) (All-map (IsEdgeIn S) (λ (l : AigLatch). l.next) c.latchs (All-weaker (IsLatchIn S) (λ l. IsEdgeIn S l.next) (λ l h. h.next) c.latchs speaks.latchs)))

  pub initial-renumbered : (z : ℕ → Bool) → HaveSameValues c.nodes (λ n. z (number n)) (initial_edges c.latchs) new z (initial_edges (map (renumbered_latch number) c.latchs))
  initial-renumbered z = subst (HaveSameValues c.nodes (λ n. z (number n)) (initial_edges c.latchs) new z) (sym (initial_edges-map number c.latchs))
      (values z (initial_edges c.latchs) (All-initial_edges (IsEdgeIn S) c.latchs (All-weaker (IsLatchIn S) (λ l. IfSome l.init (IsEdgeIn S)) (λ l h. h.init) c.latchs speaks.latchs)))

  -- it has the runs of the old one, where S has every node
  pub KeepsRuns-renumbered : ((n : ℕ) → n < length c.nodes → S n) → KeepsRuns c (renumbered_circuit number ns c) number
  KeepsRuns-renumbered every = record {
    runs = runs-renumbered;
    starts = starts-renumbered;
    properties = properties-renumbered;
    next = next-renumbered;
    initial = initial-renumbered;
    each = λ x. (λ m. x (get_or ns m 0), λ n h. ap x (merges.leaf_back n (every n (kind_at-within c.nodes n Leaf h)) h));
  }

-- a circuit speaks of its nodes
pub SpeaksOf-nodes : (c : Circuit) → IsCircuit c → SpeaksOf (λ n. n < length c.nodes) c
SpeaksOf-nodes c is = record {
  inputs = All-weaker (IsLeaf c.nodes) (λ n. n < length c.nodes) (λ n h. kind_at-within c.nodes n Leaf h) c.inputs is.inputs;
  latchs = All-weaker (IsLatch c.nodes) (IsLatchIn (λ n. n < length c.nodes)) (λ l h. record { leaf = kind_at-within c.nodes l.input Leaf h.leaf; next = h.next; init = h.init }) c.latchs is.latchs;
  properties = is.properties;
  named = is.named;
}
