-- Two circuits merged are a circuit, and its runs are pairs of runs.
use Rattle.aig_base.proofs.Words.{◌≡◌, ◌≢◌, ◌↔◌, ℕ, ◌+◌, ◌-◌, ◌<◌, ◌≤◌, Bool, cond, ltb, Option, Some, None, List, ◌++◌, length, map, get_or, refl, sym, ap, subst, ◌∙◌, arith, inl, inr, append-nil, All, AllPairs, Contains, IfSome, option_map, cases_lt, le-ltb, lt-ltb, map-append, All-append, All-contains, All-map, All-weaker, Contains-append_cases}
use Rattle.aig_circuit.specs.declared.edge.AigEdge.{AigEdge}
use Rattle.aig_circuit.specs.declared.node.AigNode.{AigNode}
use Rattle.aig_circuit.specs.declared.node.AigNodeType.TheVariants.{Leaf}
use Rattle.aig_circuit.specs.declared.node.AigLatch.{AigLatch}
use Rattle.aig_circuit.proofs.Words.{inverted_if, edge_value, Circuit, IsCircuit, IsInRange, IsLatch, IsLeaf, latch_leaves, only_false, AllProperties, Properties, append_properties, map_properties, IsRun, IsInitial, nodes_in_order, renumbered_edge, renumbered_latch}
use Rattle.aig_circuit.proofs.Building.{Grows-kept, Grows-longer, edge_value-Grows}
use Rattle.aig_circuit.proofs.Circuits.{AllPairs-append, latch_leaves-leaves}
use Rattle.aig_circuit.proofs.Listed.{AllProperties-append, AllProperties-map, AllProperties-weaker}
use Rattle.aig_circuit.proofs.Trees.{kind_at-within}
use Rattle.aig_renumber.proofs.Circuits.{latch_leaves-map}
use Rattle.aig_renumber.proofs.Places.{AllPairs-map_numbers, Contains-map_back}
use Rattle.aig_circuit.proofs.Values.{edge_value-renumbered}
use Rattle.aig_change.specs.Merge.{PairsRuns, merged, numbers_but_0, shifted}
use Rattle.aig_circuit.proofs.Lists.{All-first, All-second, AllZip-map, All-from_map}
use Rattle.aig_change.proofs.Grown.{IsLatch-grown}
use Rattle.aig_change.proofs.Lists.{AllZip-itself}
use Rattle.aig_change.proofs.Merging.{AreNodes-joint, Grows-joint, IsOrdered-joint, Renumbers-joint, joint, kind-number, leaf-past, shifted-apart, shifted-back, shifted-past, shifted-within}
use Rattle.aig_change.proofs.Values.{node_value-past}

module _ (first second : Circuit) (is : IsCircuit first) (other : IsCircuit second) where
  abbrev number : ℕ → ℕ
  number = shifted (length first.nodes)

  abbrev new : List AigNode
  new = joint first.nodes second.nodes is.nodes other.nodes

  -- ---- the first circuit's entries

  longer : length first.nodes ≤ length new
  longer = Grows-longer first.nodes new (Grows-joint first.nodes second.nodes is.nodes other.nodes)

  leaf_kept : (n : ℕ) → IsLeaf first.nodes n → IsLeaf new n
  leaf_kept n leaf = Grows-kept first.nodes new (Grows-joint first.nodes second.nodes is.nodes other.nodes) n (kind_at-within first.nodes n Leaf leaf) ∙ leaf

  latch_kept : (latch : AigLatch) → IsLatch first.nodes latch → IsLatch new latch
  latch_kept latch h = IsLatch-grown first.nodes new latch (Grows-joint first.nodes second.nodes is.nodes other.nodes) h

  -- ---- the second circuit's entries

  leaf_moved : (n : ℕ) → IsLeaf second.nodes n → IsLeaf new (number n)
  leaf_moved n leaf = kind-number first.nodes second.nodes is.nodes other.nodes n Leaf leaf

  edge_moved : (e : AigEdge) → IsInRange second.nodes e → IsInRange new (renumbered_edge number e)
  edge_moved e h = shifted-within first.nodes second.nodes is.nodes other.nodes e.node_id h

  init_moved : (o : Option AigEdge) → IfSome o (IsInRange second.nodes)
      → IfSome (option_map (renumbered_edge number) o) (IsInRange new)
  init_moved (Some e) h = edge_moved e h
  init_moved None h = tt

  latch_moved : (latch : AigLatch) → IsLatch second.nodes latch
      → IsLatch new (renumbered_latch number latch)
  latch_moved latch h = record { leaf = leaf_moved latch.input h.leaf; next = edge_moved latch.next h.next; init = init_moved latch.init h.init }

  -- ---- both

  properties_joined : AllProperties (IsInRange new)
      (append_properties first.properties
      (map_properties (renumbered_edge number) second.properties))
  properties_joined = AllProperties-append (IsInRange new) first.properties (map_properties (renumbered_edge number) second.properties)
      (AllProperties-weaker (IsInRange first.nodes) (IsInRange new) (λ e h. omega (arith, longer)) first.properties is.properties)
      (AllProperties-map (IsInRange new) (renumbered_edge number) second.properties (AllProperties-weaker (IsInRange second.nodes) (λ e. IsInRange new (renumbered_edge number e)) edge_moved second.properties other.properties))

  -- leaves of the two are apart
  leaves_apart : (m n : ℕ) → IsLeaf first.nodes m → IsLeaf second.nodes n → m ≢ number n
  leaves_apart m n p q e = absurd (omega (arith, e, kind_at-within first.nodes m Leaf p, leaf-past first.nodes second.nodes is.nodes other.nodes n q))

  numbers_apart : (ms ns : List ℕ) → All (IsLeaf first.nodes) ms → All (IsLeaf second.nodes) ns
      → AllPairs (λ m n. m ≢ n) ms → AllPairs (λ m n. m ≢ n) ns
      → AllPairs (λ m n. m ≢ n) (ms ++ map number ns)
  numbers_apart ms ns p q differ apart = AllPairs-append (λ m n. m ≢ n) ms (map number ns) differ
      (AllPairs-map_numbers (λ n. IsLeaf second.nodes n) number ns (λ m n s t e. shifted-apart first.nodes second.nodes is.nodes other.nodes m n e) q apart)
      (λ k d h. All-map (λ n. get_or ms k d ≢ n) number ns (λ i c l. leaves_apart (get_or ms k d) (get_or ns i c) (p k d h) (q i c l)))

  abbrev latches : List AigLatch
  latches = first.latchs ++ map (renumbered_latch number) second.latchs

  leaves_joined : latch_leaves latches
      ≡ latch_leaves first.latchs ++ map number (latch_leaves second.latchs)
  leaves_joined = map-append (λ (latch : AigLatch). latch.input) first.latchs (map (renumbered_latch number) second.latchs) ∙ ap (λ ns. latch_leaves first.latchs ++ ns) (latch_leaves-map number second.latchs)

  abbrev inputs : List ℕ
  inputs = first.inputs ++ map number second.inputs

  first_no_input : (n : ℕ) → IsLeaf first.nodes n → ¬ Contains first.inputs n → ¬ Contains inputs n
  first_no_input n leaf none has = elim (Contains-append_cases first.inputs (map number second.inputs) n has) [
    | inl old ↦ none old
    | inr moved ↦ (
        let from = Contains-map_back number second.inputs n moved in
        leaves_apart n from.0 leaf (All-contains (IsLeaf second.nodes) second.inputs from.0 other.inputs from.1) (sym from.2))
  ]

  second_no_input : (n : ℕ) → IsLeaf second.nodes n → ¬ Contains second.inputs n
      → ¬ Contains inputs (number n)
  second_no_input n leaf none has = elim (Contains-append_cases first.inputs (map number second.inputs) (number n) has) [
    | inl old ↦ leaves_apart (number n) n (All-contains (IsLeaf first.nodes) first.inputs (number n) is.inputs old) leaf refl
    | inr moved ↦ (
        let from = Contains-map_back number second.inputs (number n) moved in
        none (subst (Contains second.inputs) (shifted-apart first.nodes second.nodes is.nodes other.nodes from.0 n from.2) from.1))
  ]

  apart_joined : All (λ n. ¬ Contains inputs n)
      (latch_leaves first.latchs ++ map number (latch_leaves second.latchs))
  apart_joined =
      let old = latch_leaves-leaves first is in
      let moved = latch_leaves-leaves second other in
      All-append (λ n. ¬ Contains inputs n) (latch_leaves first.latchs) (map number (latch_leaves second.latchs))
      (λ k d h. first_no_input (get_or (latch_leaves first.latchs) k d) (old k d h) (is.apart k d h))
      (All-map (λ n. ¬ Contains inputs n) number (latch_leaves second.latchs)
      (λ k d h. second_no_input (get_or (latch_leaves second.latchs) k d) (moved k d h) (other.apart k d h)))

  -- the two are a circuit
  pub IsCircuit-merged : IsCircuit (merged first second)
  IsCircuit-merged = record {
    nodes = AreNodes-joint first.nodes second.nodes is.nodes other.nodes;
    inputs = All-append (IsLeaf new) first.inputs (map number second.inputs) (All-weaker (IsLeaf first.nodes) (IsLeaf new) leaf_kept first.inputs is.inputs)
        (All-map (IsLeaf new) number second.inputs (All-weaker (IsLeaf second.nodes) (λ n. IsLeaf new (number n)) leaf_moved second.inputs other.inputs));
    inputs_distinct = numbers_apart first.inputs second.inputs is.inputs other.inputs is.inputs_distinct other.inputs_distinct;
    latchs = All-append (IsLatch new) first.latchs (map (renumbered_latch number) second.latchs) (All-weaker (IsLatch first.nodes) (IsLatch new) latch_kept first.latchs is.latchs)
        (All-map (IsLatch new) (renumbered_latch number) second.latchs (All-weaker (IsLatch second.nodes) (λ latch. IsLatch new (renumbered_latch number latch)) latch_moved second.latchs other.latchs));
    latchs_distinct = subst (AllPairs (λ m n. m ≢ n)) (sym leaves_joined)
        (numbers_apart (latch_leaves first.latchs) (latch_leaves second.latchs) (latch_leaves-leaves first is) (latch_leaves-leaves second other) is.latchs_distinct other.latchs_distinct);
    apart = subst (All (λ n. ¬ Contains inputs n)) (sym leaves_joined) apart_joined;
    properties = properties_joined;
    named = λ n h. omega (arith, longer, is.named n h);
  }

  -- ---- values

  first_value : (z : ℕ → Bool) (e : AigEdge) → IsInRange first.nodes e
      → edge_value new z e ≡ edge_value first.nodes z e
  first_value z e h = edge_value-Grows first.nodes new is.nodes (Grows-joint first.nodes second.nodes is.nodes other.nodes) z e h

  second_value : (z : ℕ → Bool) (e : AigEdge) → IsInRange second.nodes e
      → edge_value new z (renumbered_edge number e) ≡ edge_value second.nodes (λ n. z (number n)) e
  second_value z e h =
      edge_value-renumbered second.nodes new (λ n. n < length second.nodes) number other.nodes.ordered (IsOrdered-joint first.nodes second.nodes is.nodes other.nodes) (Renumbers-joint first.nodes second.nodes is.nodes other.nodes)
      (λ n. z (number n)) z (λ n s leaf. refl) e h

  -- an edge to no node has one to no node, and both are false
  past_value : (z : ℕ → Bool) (e : AigEdge) → length second.nodes ≤ e.node_id
      → edge_value new z (renumbered_edge number e) ≡ edge_value second.nodes (λ n. z (number n)) e
  past_value z e h = ap (inverted_if e.compl) (
      node_value-past new z (number e.node_id) (shifted-past first.nodes second.nodes is.nodes other.nodes e.node_id h)
      ∙ sym (node_value-past second.nodes (λ n. z (number n)) e.node_id h))

  any_value : (z : ℕ → Bool) (e : AigEdge)
      → edge_value new z (renumbered_edge number e) ≡ edge_value second.nodes (λ n. z (number n)) e
  any_value z e = elim (cases_lt e.node_id (length second.nodes)) [ inl h ↦ second_value z e h | inr h ↦ past_value z e h ]

  -- ---- runs

  Moves : List AigNode → (ℕ → Bool) → (ℕ → Bool) → AigLatch → Type 0
  Moves nodes x y latch = y latch.input ≡ edge_value nodes x latch.next

  runs_merged : (last : ℕ) (z : ℕ → ℕ → Bool)
      → IsRun (merged first second) last z
      ↔ (IsRun first last z × IsRun second last (λ t n. z t (number n)))
  runs_merged last z = (
    λ run. (
      λ t h k d l.
          All-first (λ latch. z (t + 1) latch.input ≡ edge_value new (z t) latch.next) first.latchs (map (renumbered_latch number) second.latchs) (run t h) k d l
          ∙ first_value (z t) (get_or first.latchs k d).next (is.latchs k d l).next,
      λ t h k d l.
          All-from_map (renumbered_latch number) (λ latch. z (t + 1) latch.input ≡ edge_value new (z t) latch.next) second.latchs
          (All-second (λ latch. z (t + 1) latch.input ≡ edge_value new (z t) latch.next) first.latchs (map (renumbered_latch number) second.latchs) (run t h)) k d l
          ∙ any_value (z t) (get_or second.latchs k d).next,
    ),
    λ both t h. All-append (λ latch. z (t + 1) latch.input ≡ edge_value new (z t) latch.next) first.latchs (map (renumbered_latch number) second.latchs)
        (λ k d l. both.0 t h k d l ∙ sym (first_value (z t) (get_or first.latchs k d).next (is.latchs k d l).next))
        (All-map (λ latch. z (t + 1) latch.input ≡ edge_value new (z t) latch.next) (renumbered_latch number) second.latchs
        (λ k d l. both.1 t h k d l ∙ sym (any_value (z t) (get_or second.latchs k d).next))),
  )

  first_forth : (z : ℕ → Bool) (n : ℕ) (o : Option AigEdge) → IfSome o (IsInRange first.nodes)
      → IfSome o (λ e. edge_value new z e ≡ z n) → IfSome o (λ e. edge_value first.nodes z e ≡ z n)
  first_forth z n (Some e) s h = sym (first_value z e s) ∙ h
  first_forth z n None s h = tt

  first_back : (z : ℕ → Bool) (n : ℕ) (o : Option AigEdge) → IfSome o (IsInRange first.nodes)
      → IfSome o (λ e. edge_value first.nodes z e ≡ z n) → IfSome o (λ e. edge_value new z e ≡ z n)
  first_back z n (Some e) s h = first_value z e s ∙ h
  first_back z n None s h = tt

  second_forth : (z : ℕ → Bool) (n : ℕ) (o : Option AigEdge)
      → IfSome (option_map (renumbered_edge number) o) (λ e. edge_value new z e ≡ z (number n))
      → IfSome o (λ e. edge_value second.nodes (λ m. z (number m)) e ≡ z (number n))
  second_forth z n (Some e) h = sym (any_value z e) ∙ h
  second_forth z n None h = tt

  second_back : (z : ℕ → Bool) (n : ℕ) (o : Option AigEdge)
      → IfSome o (λ e. edge_value second.nodes (λ m. z (number m)) e ≡ z (number n))
      → IfSome (option_map (renumbered_edge number) o) (λ e. edge_value new z e ≡ z (number n))
  second_back z n (Some e) h = any_value z e ∙ h
  second_back z n None h = tt

  starts_merged : (z : ℕ → Bool)
      → IsInitial (merged first second) z
      ↔ (IsInitial first z × IsInitial second (λ n. z (number n)))
  starts_merged z = (
    λ start. (
      λ k d l.
          let latch = get_or first.latchs k d in
          first_forth z latch.input latch.init (is.latchs k d l).init
          (All-first (λ latch. IfSome latch.init (λ e. edge_value new z e ≡ z latch.input)) first.latchs (map (renumbered_latch number) second.latchs) start k d l),
      λ k d l.
          let latch = get_or second.latchs k d in
          second_forth z latch.input latch.init
          (All-from_map (renumbered_latch number) (λ latch. IfSome latch.init (λ e. edge_value new z e ≡ z latch.input)) second.latchs
          (All-second (λ latch. IfSome latch.init (λ e. edge_value new z e ≡ z latch.input)) first.latchs (map (renumbered_latch number) second.latchs) start) k d l),
    ),
    λ both. All-append (λ latch. IfSome latch.init (λ e. edge_value new z e ≡ z latch.input)) first.latchs (map (renumbered_latch number) second.latchs)
        (λ k d l. first_back z (get_or first.latchs k d).input (get_or first.latchs k d).init (is.latchs k d l).init (both.0 k d l))
        (All-map (λ latch. IfSome latch.init (λ e. edge_value new z e ≡ z latch.input)) (renumbered_latch number) second.latchs
        (λ k d l. second_back z (get_or second.latchs k d).input (get_or second.latchs k d).init (both.1 k d l))),
  )

  -- ---- all pairs of leaf values are met

  abbrev paired : (ℕ → Bool) → (ℕ → Bool) → ℕ → Bool
  paired x y n = cond (ltb n (length first.nodes)) (x n) (y (n + 1 - length first.nodes))

  paired_first : (x y : ℕ → Bool) (n : ℕ) → n < length first.nodes → paired x y n ≡ x n
  paired_first x y n h = ap (λ b. cond b (x n) (y (n + 1 - length first.nodes))) (lt-ltb n (length first.nodes) h)

  paired_second : (x y : ℕ → Bool) (n : ℕ) → IsLeaf second.nodes n → paired x y (number n) ≡ y n
  paired_second x y n leaf =
      ap (λ b. cond b (x (number n)) (y (number n + 1 - length first.nodes))) (le-ltb (number n) (length first.nodes) (leaf-past first.nodes second.nodes is.nodes other.nodes n leaf))
      ∙ ap y (shifted-back first.nodes second.nodes is.nodes other.nodes n)

  -- its runs are pairs of runs
  pub PairsRuns-merged : PairsRuns first second (merged first second) number
  PairsRuns-merged = record {
    runs = runs_merged;
    starts = starts_merged;
    each = λ x y. (paired x y, λ n leaf. paired_first x y n (kind_at-within first.nodes n Leaf leaf), paired_second x y);
    first_values = λ z es all. AllZip-itself (λ e f. edge_value first.nodes z e ≡ edge_value new z f) es (λ k d h. sym (first_value z (get_or es k d) (all k d h)));
    second_values = λ z es. AllZip-map (renumbered_edge number) (λ e f. edge_value second.nodes (λ n. z (number n)) e ≡ edge_value new z f) es (λ k d h. sym (any_value z (get_or es k d)));
  }

-- the circuit of the false node alone adds nothing
pub merged-only_false : (c : Circuit) → merged c only_false ≡ c
merged-only_false c =
    let a = append-nil c.nodes in
    let b = append-nil c.inputs in
    let l = append-nil c.latchs in
    let o = append-nil c.properties.outputs in
    let p = append-nil c.properties.bads in
    let q = append-nil c.properties.constraints in
    let r = append-nil c.properties.justice in
    let s = append-nil c.properties.fairness in
    λ i. record c { nodes = a i; inputs = b i; latchs = l i; properties = record { outputs = o i; bads = p i; constraints = q i; justice = r i; fairness = s i } }

-- what is made over the lists of the first circuit
pub merged_over : (lists first second : Circuit) → lists ≡ first → (count : ℕ) → count ≡ length first.nodes → (nodes : List AigNode) (inputs : List ℕ) (latchs : List AigLatch) (properties : Properties AigEdge)
    → nodes ≡ lists.nodes ++ nodes_in_order second.nodes (shifted (length lists.nodes)) (length lists.nodes) (numbers_but_0 second.nodes)
    → inputs ≡ lists.inputs ++ map (shifted count) second.inputs → latchs ≡ lists.latchs ++ map (renumbered_latch (shifted count)) second.latchs
    → properties ≡ append_properties lists.properties (map_properties (renumbered_edge (shifted count)) second.properties)
    → record lists { nodes = nodes; inputs = inputs; latchs = latchs; properties = properties } ≡ merged first second
merged_over lists first second same count count_is nodes inputs latchs properties nodes_are inputs_are latchs_are properties_are =
    let here : count ≡ length lists.nodes = count_is ∙ ap (λ (c : Circuit). length c.nodes) (sym same) in
    rw (nodes_are, inputs_are, latchs_are, properties_are, here) (ap (λ c. merged c second) same)
