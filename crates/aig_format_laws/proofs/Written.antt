-- The file of a circuit that has a written form fits, can be written, and stands for the circuit.
use Rattle.std.proofs.Common.{◌≡◌, ◌≢◌, ℕ, zero, suc, ◌+◌, ◌-◌, ◌*◌, ◌/◌, ◌^◌, ◌<◌, ◌≤◌, Bool, true, false, Option, Some, None, List, [], ◌∷◌, ◌++◌, length, map, refl, sym, ap, subst, ◌∙◌, arith, length-append, nat_cmp, ◌||◌, le-leb}
use Rattle.aig_base.proofs.Words.{nat_eq, ◌==◌, slice_index, filter, filter_map, count_by, Contains, IfSome, IsSomeAnd, IsUtf8, option_to_list, nat_le, FinMap, from_entries, get, ne_eqb, eqb-false, eq-eqb, or_right, Decides-eqb, same_Some, get_or-map, length-map, map-append, length-filter, All-contains, All-from_recursion, Contains-append_right, Contains-get_or, filter_map-append, recursion_from_All, IsDistinct-from_AllPairs}
use Rattle.std.specs.List.{AllByRecursion, IsDistinct}
use Rattle.aig_circuit.specs.declared.edge.AigEdge.{AigEdge}
use Rattle.aig_circuit.specs.declared.node.AigNodeType.{AigNodeType}
use Rattle.aig_circuit.specs.declared.node.AigNodeType.TheVariants.{False, Leaf, And}
use Rattle.aig_circuit.specs.declared.node.AigNode.{AigNode}
use Rattle.aig_circuit.specs.declared.node.AigLatch.{AigLatch}
use Rattle.aig_circuit.proofs.Words.{edge_to, literal_of, kind_at, Circuit, IsCircuit, IsInRange, IsLatch, IsLeaf, latch_leaves, AllProperties, Properties, is_leaf, HasConstantInit}
use Rattle.aig_circuit.proofs.Listed.{AllProperties-map, AllProperties-weaker}
use Rattle.aig_circuit.proofs.Trees.{kind_at-within}
use Rattle.aig_circuit.proofs.Circuits.{AreLeaves-of_circuit}
use Rattle.aig_circuit.proofs.Counting.{closed-count}
use Rattle.aig_format.specs.declared.FileKind.{FileKind}
use Rattle.aig_format.proofs.Words.{File, GateLine, LatchLine, defined, header_of, NameLine, letter_of_inputs, letter_of_latches, is_above_operands, is_compact, node_of_variable, numbers_in, Placed, IsReadAgain, circuit_of, file_of, latch_line, latch_of, named_node, name_lines, without_other_names, AreTexts, HasLineFeed, IsWritable, list_lengths}
use Rattle.aig_format.specs.Fits.{Fits, AllPass, IsDefinable, count_defined, has_enough, has_reset, is_accepted_order, is_literal, is_name, is_well_founded}
use Rattle.aig_format.proofs.Numbers.{node_of_variable-compact}
use Rattle.aig_format.proofs.Members.{distinct_append}
use Rattle.aig_format.proofs.Rules.{above_from, compact_from, definable_from, name_from, rising_distinct}
use Rattle.aig_format.proofs.Entries.{rec_append, rec_map, rec_weaker, OnUsed, length-defined, on_used}
use Rattle.aig_format.specs.WritableFile.{CanWrite, GateSmall, IsFileNumber, LatchSmall, NameSmall}
use Rattle.aig_format.proofs.Law.{spelling_spells}
use Rattle.aig_format_laws.proofs.Edges.{IsOfFile, inputs_again, latches_again, literal_below, literal_half, properties_again}
use Rattle.aig_format_laws.proofs.Gates.{AreNumbered, lefts, lefts_rise, lines_all, lines_count, lines_for, line_for}
use Rattle.aig_format_laws.proofs.Names.{names_again, names_all, names_distinct, names_kept, with_names, line_named}
use Rattle.aig_format_laws.proofs.Nodes.{nodes_again, numbered}
use Rattle.aig_format.specs.declared.FileKind.TheVariants.{Text, Binary}

-- twice each number
abbrev doubled : List ℕ → List ℕ
doubled ns = map (λ n. 2 * n) ns

abbrev own : LatchLine → ℕ
own l = l.literal

doubled_distinct : (xs : List ℕ) → IsDistinct nat_eq xs → IsDistinct nat_eq (doubled xs)
unfolding IsDistinct
doubled_distinct [] d = tt
doubled_distinct (x ∷ xs) d = (
  (rec_map (λ y. nat_eq (2 * x) y ≡ false) (λ n. 2 * n) xs).1 (rec_weaker (λ y. nat_eq x y ≡ false) (λ y. nat_eq (2 * x) (2 * y) ≡ false) (λ y h. ne_eqb (2 * x) (2 * y) (λ e. eqb-false x y h (omega arith))) xs d.0),
  doubled_distinct xs d.1,
)

latch_literals : (latchs : List AigLatch) → map own (map latch_line latchs) ≡ doubled (latch_leaves latchs)
latch_literals [] = refl
latch_literals (l ∷ latchs) = ap (λ ns. 2 * l.input ∷ ns) (latch_literals latchs)

-- the literals of inputs and latches
pub defined_leaves : (c : Circuit) → doubled c.inputs ++ map own (map latch_line c.latchs) ≡ doubled (c.inputs ++ latch_leaves c.latchs)
defined_leaves c = ap (λ ns. doubled c.inputs ++ ns) (latch_literals c.latchs) ∙ sym (map-append (λ n. 2 * n) c.inputs (latch_leaves c.latchs))

-- a text without a line feed
no_line_feed : (bytes : List ℕ) → ¬ Contains bytes 10 → AllByRecursion (λ b. b ≢ 10) bytes
no_line_feed [] none = tt
no_line_feed (b ∷ bytes) none = (λ e. none (0, omega arith, e), no_line_feed bytes (λ has. none (Contains-append_right (b ∷ []) bytes 10 has)))

-- circuits with the same parts are one
same_parts : {nodes nodes' : List AigNode} {inputs inputs' : List ℕ} {latchs latchs' : List AigLatch} {properties properties' : Properties AigEdge} {names names' : FinMap nat_cmp (List ℕ)}
    → nodes ≡ nodes' → inputs ≡ inputs' → latchs ≡ latchs' → properties ≡ properties' → names ≡ names'
    → (let first : Circuit = record { nodes = nodes; inputs = inputs; latchs = latchs; properties = properties; names = names } in
    let second : Circuit = record { nodes = nodes'; inputs = inputs'; latchs = latchs'; properties = properties'; names = names' } in
    first ≡ second)
same_parts a b d e k = cc

module _ (kind : FileKind) (c : Circuit) (is : IsCircuit c) (w : IsWritable c) (texts : AreTexts c.names) where
  abbrev f : File
  f = file_of kind c

  abbrev n : ℕ
  n = length c.nodes

  abbrev leaf_nodes : List ℕ
  leaf_nodes = c.inputs ++ latch_leaves c.latchs

  are_numbered : AreNumbered 0 c.nodes
  are_numbered = numbered c.nodes is.nodes

  some_node : 0 < length c.nodes
  some_node = kind_at-within c.nodes 0 False is.nodes.false_first

  few : length c.nodes ≤ 2 ^ 31
  few = w.small.nodes

  -- a node that is not false has a number of its own
  not_first : (m : ℕ) (k : AigNodeType) → kind_at c.nodes m ≡ Some k → k ≢ False → 0 < m
  not_first zero k h differ = absurd (differ (same_Some _ _ (sym h ∙ is.nodes.false_first)))
  not_first (suc m) k h differ = omega arith

  leaf_first : (m : ℕ) → IsLeaf c.nodes m → (0 < m) × (m < length c.nodes)
  leaf_first m h = (not_first m Leaf h (λ e. absurd cc), kind_at-within c.nodes m Leaf h)

  gate_first : (m : ℕ) (a b : AigEdge) → kind_at c.nodes m ≡ Some (And a b) → (0 < m) × (m < length c.nodes)
  gate_first m a b h = (not_first m (And a b) h (λ e. absurd cc), kind_at-within c.nodes m (And a b) h)

  leaves_are : AllByRecursion (IsLeaf c.nodes) leaf_nodes
  leaves_are = recursion_from_All (IsLeaf c.nodes) leaf_nodes (AreLeaves-of_circuit c is).leaves

  -- ---- as many are defined as there are nodes but the false one

  count_parts : (nodes : List AigNode) → kind_at nodes 0 ≡ Some False → ((m : ℕ) → kind_at nodes m ≡ Some False → m ≡ 0) → length (lines_for nodes) + count_by (λ node. is_leaf node.typ) nodes + 1 ≡ length nodes
  count_parts [] first once = absurd cc
  count_parts (x ∷ xs) first once =
      let typ : x.typ ≡ False = same_Some _ _ first in
      let rest = lines_count xs (λ i h. let e = once (suc i) h in absurd (omega arith)) in
      let leaves = length-filter (λ (node : AigNode). is_leaf node.typ) xs in
      let more = length-filter (λ (node : AigNode). is_leaf node.typ) (x ∷ xs) in
      let same : length (filter (λ (node : AigNode). is_leaf node.typ) (x ∷ xs)) ≡ length (filter (λ (node : AigNode). is_leaf node.typ) xs) = rw typ refl in
      let none : lines_for (x ∷ xs) ≡ lines_for xs = rw typ refl in
      let count = ap (λ (gs : List GateLine). length gs) none in
      omega arith

  defined_count : length (defined f) ≡ length c.nodes - 1
  defined_count =
      let all = count_parts c.nodes is.nodes.false_first is.nodes.false_once in
      let leaves = closed-count c.nodes c.inputs c.latchs (AreLeaves-of_circuit c is) w.closed in
      let front = length-append (doubled c.inputs ++ map own (map latch_line c.latchs)) (lefts (lines_for c.nodes)) in
      let first = ap (λ (ns : List ℕ). length ns) (defined_leaves c) in
      let second = length-map (c.inputs ++ latch_leaves c.latchs) (λ m. 2 * m) in
      let third = length-map (lines_for c.nodes) (λ (g : GateLine). g.lhs) in
      omega arith

  -- so the file has no gaps
  exact : length c.nodes - 1 ≡ length (defined f)
  exact = sym defined_count

  -- ---- what the file fits

  definable : AllByRecursion (IsDefinable (length c.nodes - 1)) (defined f)
  definable =
      let top = length c.nodes - 1 in
      let P = IsDefinable top in
      let low = some_node in
      let leaves : AllByRecursion P (doubled leaf_nodes) =
      (rec_map P (λ m. 2 * m) leaf_nodes).1 (rec_weaker (IsLeaf c.nodes) (λ m. P (2 * m)) (λ m h. let p = leaf_first m h in let first = p.0 in let last = p.1 in definable_from top (2 * m) (omega arith) (omega arith) (omega arith)) leaf_nodes leaves_are) in
      let gates : AllByRecursion P (lefts (lines_for c.nodes)) =
      (rec_map P (λ (g : GateLine). g.lhs) (lines_for c.nodes)).1 (lines_all (λ (g : GateLine). P g.lhs) 0 c.nodes are_numbered (λ i a b h. let p = gate_first i a b h in let first = p.0 in let last = p.1 in definable_from top (2 * (0 + i)) (omega arith) (omega arith) (omega arith))) in
      (rec_append P (doubled c.inputs ++ map own (map latch_line c.latchs)) (lefts (lines_for c.nodes))).1 (subst (AllByRecursion P) (sym (defined_leaves c)) leaves, gates)

  distinct : IsDistinct nat_eq (defined f)
  distinct =
      let gates = lefts (lines_for c.nodes) in
      let leaves : IsDistinct nat_eq (doubled leaf_nodes) = doubled_distinct leaf_nodes (IsDistinct-from_AllPairs Decides-eqb leaf_nodes (AreLeaves-of_circuit c is).distinct) in
      let apart : AllByRecursion (λ x. AllByRecursion (λ y. nat_eq x y ≡ false) gates) (doubled leaf_nodes) =
      (rec_map (λ x. AllByRecursion (λ y. nat_eq x y ≡ false) gates) (λ m. 2 * m) leaf_nodes).1
      (rec_weaker (IsLeaf c.nodes) (λ m. AllByRecursion (λ y. nat_eq (2 * m) y ≡ false) gates) (λ m leaf.
      (rec_map (λ y. nat_eq (2 * m) y ≡ false) (λ (g : GateLine). g.lhs) (lines_for c.nodes)).1
      (lines_all (λ (g : GateLine). nat_eq (2 * m) g.lhs ≡ false) 0 c.nodes are_numbered (λ i a b h. ne_eqb (2 * m) (2 * (0 + i)) (λ e.
      let same : m ≡ i = omega arith in
      let both : Leaf ≡ And a b = same_Some _ _ (sym leaf ∙ ap (kind_at c.nodes) same ∙ h) in
      absurd cc)))) leaf_nodes leaves_are) in
      subst (λ ns. IsDistinct nat_eq (ns ++ gates)) (sym (defined_leaves c)) (distinct_append nat_eq (doubled leaf_nodes) gates leaves (rising_distinct gates (lefts_rise 0 c.nodes are_numbered)) apart)

  -- a fact on the literals of the properties, which are in range
  literals_have : (P : ℕ → Type 0) → ((e : ℕ) → e < 2 * length c.nodes → P e) → AllProperties P f.properties
  literals_have P each =
      AllProperties-map P literal_of c.properties
      (AllProperties-weaker (IsInRange c.nodes) (λ e. P (literal_of e)) (λ e h. each (literal_of e) (literal_below (length c.nodes) e h)) c.properties is.properties)

  in_range : OnUsed (λ e. is_literal (length c.nodes - 1) e ≡ true) f
  in_range =
      let P = λ (e : ℕ). is_literal (length c.nodes - 1) e ≡ true in
      let low = some_node in
      let each : (e : ℕ) → e < 2 * length c.nodes → P e = λ e h. le-leb e (2 * (length c.nodes - 1) + 1) (omega arith) in
      record {
        latches = (rec_map (λ (l : LatchLine). P l.next) latch_line c.latchs).1 (rec_weaker (IsLatch c.nodes) (λ l. P (literal_of l.next)) (λ l h. each (literal_of l.next) (literal_below (length c.nodes) l.next h.next)) c.latchs (recursion_from_All (IsLatch c.nodes) c.latchs is.latchs));
        properties = literals_have P each;
        gates = lines_all (λ (g : GateLine). P g.rhs0 × P g.rhs1) 0 c.nodes are_numbered (λ i a b h.
            let last = (gate_first i a b h).1 in
            let second = is.nodes.ordered.second_before i a b h in
            let first = is.nodes.ordered.first_before i a b h in
            (each (literal_of b) (literal_below (length c.nodes) b (omega arith)), each (literal_of a) (literal_below (length c.nodes) a (omega arith))));
      }

  resets : AllPass has_reset (map latch_line c.latchs)
  resets = (rec_map (λ l. has_reset l ≡ true) latch_line c.latchs).1 (rec_weaker HasConstantInit (λ l. has_reset (latch_line l) ≡ true) is_there c.latchs (recursion_from_All HasConstantInit c.latchs w.start))
    where
      is_there : (l : AigLatch) → HasConstantInit l → has_reset (latch_line l) ≡ true
      is_there l plain = by_init l.init refl plain
        where
          made : Option AigEdge → AigLatch
          made init = record { input = l.input; next = l.next; init = init }

          by_compl : (e : AigEdge) (b : Bool) → e.compl ≡ b → e.node_id ≡ 0 → has_reset (latch_line (made (Some e))) ≡ true
          by_compl e true h z = let own : e ≡ edge_to 0 true = ap (λ m. edge_to m e.compl) z ∙ ap (edge_to 0) h in rw own refl
          by_compl e false h z = let own : e ≡ edge_to 0 false = ap (λ m. edge_to m e.compl) z ∙ ap (edge_to 0) h in rw own refl

          by_init : (o : Option AigEdge) → l.init ≡ o → IfSome l.init (λ e. e.node_id ≡ 0) → has_reset (latch_line l) ≡ true
          by_init (Some e) h z = subst (λ o. has_reset (latch_line (made o)) ≡ true) (sym h) (by_compl e e.compl refl (subst (λ o. IfSome o (λ e. e.node_id ≡ 0)) h z))
          by_init None h z = subst (λ o. has_reset (latch_line (made o)) ≡ true) (sym h) (or_right (nat_le (2 * l.input) 1) (2 * l.input == 2 * l.input) (eq-eqb (2 * l.input) (2 * l.input) refl))

  ordered : AllPass is_above_operands (lines_for c.nodes)
  ordered = lines_all (λ g. is_above_operands g ≡ true) 0 c.nodes are_numbered (λ i a b h.
      let second = is.nodes.ordered.second_before i a b h in
      let first = is.nodes.ordered.first_before i a b h in
      let half_b = literal_half b in
      let half_a = literal_half a in
      above_from (line_for (0 + i) a b) (omega arith) (omega arith))

  -- ---- names

  texts_at : (m : ℕ) (bytes : List ℕ) → get c.names m ≡ Some bytes → IsUtf8 bytes
  texts_at m bytes h = subst (λ o. IfSome o IsUtf8) h (texts m)

  latch_count : length (map latch_line c.latchs) ≡ length (latch_leaves c.latchs)
  latch_count = let a = length-map c.latchs latch_line in let b = length-map c.latchs (λ (l : AigLatch). l.input) in omega arith

  input_count : length (doubled c.inputs) ≡ length c.inputs
  input_count = length-map c.inputs (λ m. 2 * m)

  names_fit : AllPass (is_name (header_of f)) f.names
  names_fit =
      let Named = λ (n : NameLine). is_name (header_of f) n ≡ true in
      (rec_append Named (name_lines letter_of_inputs 0 c.inputs (get c.names)) (name_lines letter_of_latches 0 (latch_leaves c.latchs) (get c.names))).1 (
        names_all Named letter_of_inputs 0 c.inputs (get c.names) (λ i bytes h is. name_from (header_of f) (line_named letter_of_inputs (0 + i) bytes) (omega (arith, input_count)) (texts_at _ bytes is)),
        names_all Named letter_of_latches 0 (latch_leaves c.latchs) (get c.names) (λ i bytes h is. name_from (header_of f) (line_named letter_of_latches (0 + i) bytes) (omega (arith, latch_count)) (texts_at _ bytes is)),
      )

  -- a written file is compact
  compact : is_compact f ≡ true
  compact = compact_from f exact (lefts_rise 0 c.nodes are_numbered) ordered

  -- and so in order, with as many variables as its header has
  in_order : (kind : FileKind) → is_accepted_order kind f ≡ true
  in_order Text = ap (λ b. b || is_well_founded f) compact
  in_order Binary = compact

  enough : (kind : FileKind) → has_enough kind (header_of f) ≡ true
  enough Text = le-leb (count_defined (header_of f)) f.greatest (omega (arith, exact, length-defined f))
  enough Binary = eq-eqb f.greatest (count_defined (header_of f)) (exact ∙ length-defined f)

  fits : (limit : ℕ) → length c.nodes ≤ limit → Fits f limit
  fits limit within =
      let low = some_node in
      record {
        within = omega arith;
        enough = enough f.kind;
        definable = definable;
        distinct = distinct;
        in_range = (on_used (λ e. is_literal (length c.nodes - 1) e ≡ true) f).1 in_range;
        resets = resets;
        order = in_order f.kind;
        named = names_fit;
        once = names_distinct c.inputs (latch_leaves c.latchs) (get c.names);
      }

  -- ---- the file can be written

  small_literal : (e : ℕ) → e < 2 * length c.nodes → e < 2 ^ 32
  small_literal e h = omega (arith, few)

  list_small : (i : ℕ) → i < 7 → slice_index (list_lengths c) i < 2 ^ 32
  list_small i h = w.small.lists i 0 h

  lines_few : length (lines_for c.nodes) < 2 ^ 32
  lines_few = omega (arith, few, count_parts c.nodes is.nodes.false_first is.nodes.false_once)

  header_small : AllByRecursion IsFileNumber (numbers_in (header_of f))
  header_small =
      let p = c.properties in
      let i = list_small 0 (omega arith) in let l = list_small 1 (omega arith) in let o = list_small 2 (omega arith) in
      let b = list_small 3 (omega arith) in let k = list_small 4 (omega arith) in let j = list_small 5 (omega arith) in let fs = list_small 6 (omega arith) in
      let inputs = input_count in let latchs = length-map c.latchs latch_line in let outputs = length-map p.outputs literal_of in
      let bads = length-map p.bads literal_of in let constraints = length-map p.constraints literal_of in
      let justice = length-map p.justice (map literal_of) in let fairness = length-map p.fairness literal_of in
      (omega (arith, few), (omega arith, (omega arith, (omega arith, (lines_few, (omega arith, (omega arith, (omega arith, (omega arith, tt)))))))))

  sizes_small : (sets : List (List AigEdge)) → AllByRecursion (λ set. length set < 2 ^ 32) sets → AllByRecursion IsFileNumber (map length (map (map literal_of) sets))
  sizes_small [] all = tt
  sizes_small (es ∷ sets) all = (omega (arith, length-map es literal_of, all.0), sizes_small sets all.1)

  latches_small : AllByRecursion LatchSmall (map latch_line c.latchs)
  latches_small = (rec_map LatchSmall latch_line c.latchs).1 (rec_weaker (IsLatch c.nodes) (λ l. LatchSmall (latch_line l)) small c.latchs (recursion_from_All (IsLatch c.nodes) c.latchs is.latchs))
    where
      small : (l : AigLatch) → IsLatch c.nodes l → LatchSmall (latch_line l)
      small l h = (own_small, small_literal (literal_of l.next) (literal_below (length c.nodes) l.next h.next), by_init l.init refl h.init)
        where
          own_small : 2 * l.input < 2 ^ 32
          own_small = omega (arith, few, kind_at-within c.nodes l.input Leaf h.leaf)

          made : Option AigEdge → AigLatch
          made init = record { input = l.input; next = l.next; init = init }

          Small : Option AigEdge → Type 0
          Small o = AllByRecursion IsFileNumber (option_to_list (latch_line (made o)).reset)

          by_test : (e : AigEdge) (b : Bool) → (literal_of e == 0) ≡ b → e.node_id < length c.nodes → Small (Some e)
          by_test e true t there = rw t tt
          by_test e false t there = rw t (small_literal (literal_of e) (literal_below (length c.nodes) e there), tt)

          by_init : (o : Option AigEdge) → l.init ≡ o → IfSome l.init (IsInRange c.nodes) → Small l.init
          by_init (Some e) h there = subst Small (sym h) (by_test e (literal_of e == 0) refl (subst (λ o. IfSome o (IsInRange c.nodes)) h there))
          by_init None h there = subst Small (sym h) (own_small, tt)

  gates_small : AllByRecursion GateSmall (lines_for c.nodes)
  gates_small = lines_all GateSmall 0 c.nodes are_numbered (λ i a b h.
      let last = (gate_first i a b h).1 in
      let second = is.nodes.ordered.second_before i a b h in
      let order = is.nodes.ordered.in_order i a b h in
      let below = literal_below i b second in
      (omega (arith, few), omega arith, order))

  -- a name that is written holds no line feed
  names_small : AllByRecursion NameSmall f.names
  names_small =
      let plain = recursion_from_All (λ m. ¬ HasLineFeed c.names m) leaf_nodes w.names in
      let parts = (rec_append (λ m. ¬ HasLineFeed c.names m) c.inputs (latch_leaves c.latchs)).0 plain in
      (rec_append NameSmall (name_lines letter_of_inputs 0 c.inputs (get c.names)) (name_lines letter_of_latches 0 (latch_leaves c.latchs) (get c.names))).1 (
        names_all NameSmall letter_of_inputs 0 c.inputs (get c.names) (λ i bytes h named. (refl, omega (arith, list_small 0 (omega arith)), no_line_feed bytes (free c.inputs i bytes h parts.0 named))),
        names_all NameSmall letter_of_latches 0 (latch_leaves c.latchs) (get c.names) (λ i bytes h named.
            (refl, omega (arith, list_small 1 (omega arith), length-map c.latchs (λ (l : AigLatch). l.input)), no_line_feed bytes (free (latch_leaves c.latchs) i bytes h parts.1 named))),
      )
    where
      free : (ns : List ℕ) (i : ℕ) (bytes : List ℕ) → i < length ns → AllByRecursion (λ m. ¬ HasLineFeed c.names m) ns → get c.names (slice_index ns i) ≡ Some bytes → ¬ Contains bytes 10
      free [] i bytes h all named = absurd (omega arith)
      free (m ∷ ns) zero bytes h all named = λ has. all.0 (subst (λ o. IsSomeAnd o (λ name. Contains name 10)) (sym named) has)
      free (m ∷ ns) (suc i) bytes h all named = free ns i bytes (omega arith) all.1 named

  can_write : Placed kind (defined f) → CanWrite f
  can_write placed = record {
    header = header_small;
    inputs = (rec_map IsFileNumber (λ m. 2 * m) c.inputs).1 (rec_weaker (IsLeaf c.nodes) (λ m. IsFileNumber (2 * m)) (λ m h. omega (arith, few, kind_at-within c.nodes m Leaf h)) c.inputs (recursion_from_All (IsLeaf c.nodes) c.inputs is.inputs));
    latches = latches_small;
    properties = literals_have IsFileNumber small_literal;
    sizes = sizes_small c.properties.justice (recursion_from_All (λ set. length set < 2 ^ 32) c.properties.justice w.small.sets);
    gates = gates_small;
    names = names_small;
    placed = placed;
  }

  -- ---- the circuit of the file

  -- nodes that are there are no greater than the file's greatest variable
  within_file : (m : ℕ) → m < length c.nodes → m ≤ length c.nodes - 1
  within_file m h = omega arith

  properties_within : AllProperties (λ (e : AigEdge). e.node_id ≤ length c.nodes - 1) c.properties
  properties_within = AllProperties-weaker (IsInRange c.nodes) (λ e. e.node_id ≤ length c.nodes - 1) (λ e h. within_file e.node_id h) c.properties is.properties

  leaf_within : (m : ℕ) → IsLeaf c.nodes m → m ≤ length c.nodes - 1
  leaf_within m h = within_file m (kind_at-within c.nodes m Leaf h)

  inputs_same : map (λ e. node_of_variable f (e / 2)) f.inputs ≡ c.inputs
  inputs_same =
      inputs_again f compact c.inputs (rec_weaker (IsLeaf c.nodes) (λ m. m ≤ length c.nodes - 1) leaf_within c.inputs (recursion_from_All (IsLeaf c.nodes) c.inputs is.inputs))

  latches_same : map (latch_of f) f.latches ≡ c.latchs
  latches_same =
      latches_again f compact c.latchs (recursion_from_All (IsOfFile f compact) c.latchs (λ k d h.
      let latch = is.latchs k d h in
      record { plain = w.start k d h; some = (leaf_first _ latch.leaf).0; within = leaf_within _ latch.leaf; next = within_file _ latch.next }))

  -- the literal at a place among doubled numbers
  doubled_at : (ns : List ℕ) (i : ℕ) → i < length ns → slice_index (doubled ns) i / 2 ≡ slice_index ns i
  doubled_at ns i h = let e = get_or-map (λ m. 2 * m) ns i 0 0 h in omega arith

  -- the node at a place among leaves
  number_at : (ns : List ℕ) (i : ℕ) → i < length ns → AllByRecursion (IsLeaf c.nodes) ns → node_of_variable f (slice_index (doubled ns) i / 2) ≡ slice_index ns i
  number_at ns i h leaves =
      ap (node_of_variable f) (doubled_at ns i h) ∙ node_of_variable-compact f compact (slice_index ns i) (leaf_within _ (All-contains (IsLeaf c.nodes) ns _ (All-from_recursion (IsLeaf c.nodes) ns leaves) (Contains-get_or ns i 0 h)))

  names_same : from_entries (filter_map (named_node f) f.names) ≡ (without_other_names c).names
  names_same =
      let leaves = (rec_append (IsLeaf c.nodes) c.inputs (latch_leaves c.latchs)).0 leaves_are in
      let inputs = names_again f letter_of_inputs 0 c.inputs (get c.names) (λ i bytes h.
      let e : 0 + i ≡ i = omega arith in
      ap (λ m. Some (m, bytes)) (ap (λ j. node_of_variable f (slice_index (doubled c.inputs) j / 2)) e ∙ number_at c.inputs i h leaves.0)) in
      let latchs = names_again f letter_of_latches 0 (latch_leaves c.latchs) (get c.names) (λ i bytes h.
      let e : 0 + i ≡ i = omega arith in
      ap (λ m. Some (m, bytes)) (ap (λ (ns : List ℕ). node_of_variable f (slice_index ns (0 + i) / 2)) (latch_literals c.latchs)
      ∙ ap (λ j. node_of_variable f (slice_index (doubled (latch_leaves c.latchs)) j / 2)) e ∙ number_at (latch_leaves c.latchs) i h leaves.1)) in
      ap from_entries (filter_map-append (named_node f) (name_lines letter_of_inputs 0 c.inputs (get c.names)) (name_lines letter_of_latches 0 (latch_leaves c.latchs) (get c.names))
      ∙ ap (λ (es : List (ℕ × List ℕ)). es ++ filter_map (named_node f) (name_lines letter_of_latches 0 (latch_leaves c.latchs) (get c.names))) inputs
      ∙ ap (λ (es : List (ℕ × List ℕ)). with_names (get c.names) c.inputs ++ es) latchs
      ∙ sym (filter_map-append _ c.inputs (latch_leaves c.latchs)))
      ∙ names_kept c.names leaf_nodes

  circuit_same : circuit_of f ≡ without_other_names c
  circuit_same = same_parts (nodes_again kind c is.nodes compact) inputs_same latches_same (properties_again f compact c.properties properties_within) names_same

-- what is written is read again
pub is_read_again : (kind : FileKind) (c : Circuit) → IsCircuit c → IsWritable c → AreTexts c.names → Placed kind (defined (file_of kind c)) → IsReadAgain c (file_of kind c)
is_read_again kind c is w texts placed = (λ limit within. (spelling_spells (file_of kind c) (can_write kind c is w texts placed), fits kind c is w texts limit within), circuit_same kind c is w texts)
