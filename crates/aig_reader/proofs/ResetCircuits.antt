-- The circuit of a file whose resets are functions.
use Rattle.aig_base.proofs.Words.{◌≡◌, ◌≢◌, ℕ, ◌+◌, ◌/◌, ◌%◌, ◌<◌, ◌==◌, ◌||◌, Bool, true, false, cond, List, [], ◌∷◌, length, map, Option, Some, None, refl, sym, ap, subst, ◌∙◌, All, AllPairs, All-from_recursion, All-map, Contains, IfSome, IsTrue, contains_key, filter_map, from_entries, list_any, recursion_from_All, slice_index}
use Rattle.aig_circuit.specs.declared.edge.AigEdge.{AigEdge}
use Rattle.aig_circuit.specs.declared.node.AigNode.{AigNode}
use Rattle.aig_circuit.specs.declared.node.AigNodeType.{AigNodeType}
use Rattle.aig_circuit.specs.declared.node.AigNodeType.TheVariants.{False}
use Rattle.aig_circuit.specs.Circuit.{AreNodes, IsCircuit, IsInRange, IsLatch, IsLeaf, latch_leaves}
use Rattle.aig_circuit.specs.Edge.{edge_to}
use Rattle.aig_circuit.specs.Node.{and_of}
use Rattle.aig_circuit.specs.Properties.{AllProperties, Properties, map_properties}
use Rattle.aig_format.proofs.Words.{File, GateLine, LatchLine, NameLine, circuit_of, edge_of, gate_of_variable, is_known, kind_by, kind_of, latch_of, letter_of_inputs, letter_of_latches, named_node, nodes_from, numbers_from}
use Rattle.aig_format.specs.Numbering.{node_of_variable, variables_in_order}
use Rattle.aig_format.proofs.Circuits.{IsCircuit-of_file, leaves_of_latches, numbers}
use Rattle.aig_format.proofs.Entries.{rec_both, rec_unmap, rec_weaker}
use Rattle.aig_format.proofs.Nodes.{HasNode, known_has_node}
use Rattle.aig_format.proofs.Rules.{all_pass}
use Rattle.aig_reader.specs.Resets.{FitsWithResets, circuit_with_resets, latch_with_reset, reset_in, without_reset, without_resets}
use Rattle.aig_reader.proofs.FileCircuit.{leaves_by_line}
use Rattle.aig_reader.proofs.Resets.{by_level_same, compact_same, defined_same, literal_in, literals_kept, nexts_kept, number_same}

module _ (f : File) where
  abbrev plain : File
  plain = without_resets f

  abbrev ms : List LatchLine
  ms = map without_reset f.latches

  literals : map literal_in f.latches ≡ map literal_in ms
  literals = literals_kept f.latches

  number : (v : ℕ) → node_of_variable plain v ≡ node_of_variable f v
  number v = sym (number_same f ms literals (nexts_kept f.latches) v)

  edge : (e : ℕ) → edge_of plain e ≡ edge_of f e
  edge e = ap (λ n. edge_to n (e % 2 == 1)) (number (e / 2))

  kind_by_same : (o : Option GateLine) → kind_by plain o ≡ kind_by f o
  kind_by_same None = refl
  kind_by_same (Some g) = let a = edge g.rhs0 in let b = edge g.rhs1 in λ i. and_of (a i) (b i)

  kind_same : (v : ℕ) → kind_of plain v ≡ kind_of f v
  kind_same v =
      ap (λ (k : AigNodeType). cond (v == 0) False k) (kind_by_same (gate_of_variable f v))

  nodes_by : (i : ℕ) (vs : List ℕ) → nodes_from plain i vs ≡ nodes_from f i vs
  nodes_by i [] = refl
  nodes_by i (v ∷ vs) =
      let made = λ (k : AigNodeType). let node : AigNode = record { node_id = i; typ = k } in
      node in
      let kind = kind_same v in
      let rest = nodes_by (i + 1) vs in
      λ j. made (kind j) ∷ rest j

  order : variables_in_order plain ≡ variables_in_order f
  unfolding variables_in_order
  order =
      let nexts = nexts_kept f.latches in
      let compact = sym (compact_same f ms literals nexts) in
      let all = sym (defined_same f ms literals nexts) in
      let levels = sym (by_level_same f ms literals nexts) in
      λ i. cond (compact i) (numbers_from (length (all i)) 1) (levels i)

  nodes : (circuit_of plain).nodes ≡ (circuit_of f).nodes
  nodes = nodes_by 0 (0 ∷ variables_in_order plain)
      ∙ ap (λ (vs : List ℕ). nodes_from f 0 (0 ∷ vs)) order

  inputs : (circuit_of plain).inputs ≡ (circuit_of f).inputs
  inputs = λ i. map (λ e. number (e / 2) i) f.inputs

  properties : (circuit_of plain).properties ≡ (circuit_of f).properties
  properties = λ i. map_properties (λ e. edge e i) f.properties

  named : (n : NameLine) → named_node plain n ≡ named_node f n
  named n =
      let back = sym literals in
      λ i. cond (n.letter == letter_of_inputs)
      (Some (number (slice_index f.inputs n.position / 2) i, n.name))
      (cond (n.letter == letter_of_latches)
      (Some (number (slice_index (back i) n.position / 2) i, n.name)) None)

  names : (circuit_of plain).names ≡ (circuit_of f).names
  names = λ i. from_entries (filter_map (λ n. named n i) f.names)

  leaves : latch_leaves (circuit_of plain).latchs ≡ latch_leaves (circuit_with_resets f).latchs
  leaves =
      let back = sym literals in
      let same : numbers plain (map literal_in ms) ≡ numbers f (map literal_in f.latches) =
      λ i. map (λ e. number (e / 2) i) (back i) in
      leaves_of_latches plain ms ∙ same ∙ sym (leaves_by_line f f.latches)

  -- a latch of the circuit without resets, with an initial edge that is there
  latch_there : (l : LatchLine) → IsLatch (circuit_of plain).nodes
      (latch_of plain (without_reset l))
      → HasNode plain (reset_in l) → IsLatch (circuit_of f).nodes (latch_with_reset f l)
  latch_there l is reset =
      let leaf = number (l.literal / 2) in
      let next = edge l.next in
      let there : IsInRange (circuit_of f).nodes (edge_of f (reset_in l)) =
      subst (λ (e : AigEdge). IsInRange (circuit_of f).nodes e) (edge (reset_in l))
      (subst (λ (ns : List AigNode). IsInRange ns (edge_of plain (reset_in l))) nodes reset) in
      record {
        leaf = subst (IsLeaf (circuit_of f).nodes) leaf
            (subst (λ (ns : List AigNode). IsLeaf ns (node_of_variable plain (l.literal / 2))) nodes
            is.leaf);
        next = subst (IsInRange (circuit_of f).nodes) next
            (subst (λ (ns : List AigNode). IsInRange ns (edge_of plain l.next)) nodes is.next);
        init = by_own (reset_in l == l.literal) there;
      }
    where
      by_own : (b : Bool) → IsInRange (circuit_of f).nodes (edge_of f (reset_in l))
          → IfSome (cond b None (Some (edge_of f (reset_in l)))) (IsInRange (circuit_of f).nodes)
      by_own true there = tt
      by_own false there = there

  -- it is a circuit
  pub IsCircuit-with_resets : (limit : ℕ) → FitsWithResets f limit
      → IsCircuit (circuit_with_resets f)
  IsCircuit-with_resets limit fits =
      let base = IsCircuit-of_file plain limit fits.rest in
      let Latch : LatchLine → Type 0 = λ l. IsLatch (circuit_of plain).nodes
      (latch_of plain (without_reset l)) in
      let Known : LatchLine → Type 0 = λ l. is_known f (reset_in l / 2) ≡ true in
      let There : LatchLine → Type 0 = λ l. IsLatch (circuit_of f).nodes (latch_with_reset f l) in
      let all = defined_same f ms literals (nexts_kept f.latches) in
      let latches =
      rec_unmap (λ l. IsLatch (circuit_of plain).nodes (latch_of plain l)) without_reset f.latches
      (rec_unmap (IsLatch (circuit_of plain).nodes) (latch_of plain) ms
      (recursion_from_All (IsLatch (circuit_of plain).nodes) (circuit_of plain).latchs base.latchs))
      in
      let known = (all_pass (λ l. is_known f (reset_in l / 2)) f.latches).0 fits.resets in
      let there =
      rec_weaker (λ l. Latch l × Known l) There
      (λ l h. latch_there l h.0 (known_has_node plain limit fits.rest (reset_in l)
      (subst (λ (es : List ℕ). ((reset_in l / 2 == 0) || list_any (λ e. e / 2 == reset_in l / 2) es)
      ≡ true) all h.1)))
      f.latches (rec_both Latch Known f.latches latches known) in
      record {
        nodes = subst AreNodes nodes base.nodes;
        inputs = subst (λ (ns : List AigNode). All (IsLeaf ns) (circuit_of f).inputs) nodes
            (subst (All (IsLeaf (circuit_of plain).nodes)) inputs base.inputs);
        inputs_distinct = subst (AllPairs (λ m n. m ≢ n)) inputs base.inputs_distinct;
        latchs = All-map (IsLatch (circuit_of f).nodes) (latch_with_reset f) f.latches
            (All-from_recursion There f.latches there);
        latchs_distinct = subst (AllPairs (λ m n. m ≢ n)) leaves base.latchs_distinct;
        apart = subst (λ (ns : List ℕ). All (λ n. ¬ Contains (circuit_of f).inputs n) ns) leaves
            (subst (λ (ns : List ℕ). All (λ n. ¬ Contains ns n)
            (latch_leaves (circuit_of plain).latchs)) inputs base.apart);
        properties = subst (λ (ns : List AigNode). AllProperties (IsInRange ns)
            (circuit_of f).properties) nodes
            (subst (λ (p : Properties AigEdge). AllProperties (IsInRange (circuit_of plain).nodes)
            p) properties base.properties);
        named = λ n has.
            subst (λ (ns : List AigNode). n < length ns) nodes
            (base.named n (subst (λ ns. IsTrue (contains_key ns n)) (sym names) has));
      }
