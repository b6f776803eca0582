-- The file of a circuit whose nodes are written under other numbers.
use Rattle.aig_base.proofs.Words.{◌≡◌, ℕ, ◌+◌, ◌-◌, ◌*◌, ◌<◌, ◌≤◌, ◌^◌, suc, Bool, true, false, cond, Option, Some, None, List, [], ◌∷◌, ◌++◌, length, map, get_or, refl, sym, ap, ◌∙◌, arith, length-append, All, nat_lt, option_map, filter_map, option_to_list, get, entries, get-entries, get-from_entries, cons_option, nat_tests, nat_cmp_total, slice_get-get_or, get_or-append-add, length-map, All-map, All-weaker, filter_map-append}
use Rattle.aig_circuit.specs.declared.edge.AigEdge.{AigEdge}
use Rattle.aig_circuit.specs.declared.node.AigNodeType.{AigNodeType}
use Rattle.aig_circuit.specs.declared.node.AigNodeType.TheVariants.{False, Leaf, And}
use Rattle.aig_circuit.specs.declared.node.AigNode.{AigNode}
use Rattle.aig_circuit.specs.declared.node.AigLatch.{AigLatch}
use Rattle.aig_circuit.proofs.Words.{edge_to, literal_of, kind_at, and_of, Circuit, IsCircuit, IsClosed, IsLeaf, IsLatch, latch_leaves, map_properties, gate_number, new_number, order_of, reencoded, nodes_in_order, renumbered_circuit, renumbered_edge, renumbered_kind, renumbered_latch}
use Rattle.aig_circuit.proofs.Listed.{AllProperties-always, AllProperties-weaker, map_properties-same}
use Rattle.aig_circuit.proofs.Trees.{kind_at-within}
use Rattle.aig_format.specs.declared.FileKind.{FileKind}
use Rattle.aig_format.specs.declared.FileKind.TheVariants.{Binary}
use Rattle.aig_format.proofs.Words.{GateLine, NameLine, header_line_of, file_of, gate_line, latch_line, name_lines}
use Rattle.aig_renumber.proofs.Agreeing.{circuits-agree}
use Rattle.aig_renumber.proofs.Circuits.{SpeaksOf-nodes, latch_leaves-map}
use Rattle.aig_renumber.proofs.Names.{find-number, names_in_circuit}
use Rattle.aig_renumber.proofs.NodesInOrder.{number-apart}
use Rattle.aig_renumber.proofs.Order.{IsGate, Numbers-order, length-order, no_gates}
use Rattle.aig_renumber.proofs.Placed.{AreAsLong-reencoded}
use Rattle.aig_circuit.proofs.Lists.{map-agrees, map-same}
use Rattle.aig_writer.specs.Literals.{FallsBelow}
use Rattle.aig_writer.specs.Numbering.{IsBinaryNumbering, written_number, numbered_file, renumbered_node}

-- ---- lengths

pub numbered_sizes : (number : ℕ → ℕ) (sets : List (List AigEdge))
    → map length (map (map literal_of) (map (map (renumbered_edge number)) sets)) ≡ map length sets
numbered_sizes number [] = refl
numbered_sizes number (set ∷ sets) =
    ap (λ n. n ∷ map length (map (map literal_of) (map (map (renumbered_edge number)) sets))) (length-map (map (renumbered_edge number) set) literal_of ∙ length-map set (renumbered_edge number))
    ∙ ap (λ l. length set ∷ l) (numbered_sizes number sets)

gate_count : (number : ℕ → ℕ) (nodes : List AigNode)
    → length (filter_map gate_line (map (renumbered_node number) nodes))
    ≡ length (filter_map gate_line nodes)
gate_count number [] = refl
gate_count number (x ∷ xs) = by_kind x.typ (gate_count number xs)
  where
    rest : List GateLine
    rest = filter_map gate_line (map (renumbered_node number) xs)

    by_order : (b : Bool) (n : ℕ) (x y : AigEdge) → length (cons_option (gate_line (record { node_id = n; typ = cond b (And y x) (And x y) })) rest) ≡ suc (length rest)
    by_order true n x y = refl
    by_order false n x y = refl

    by_kind : (typ : AigNodeType) → length rest ≡ length (filter_map gate_line xs)
        → length (cons_option (gate_line (record { node_id = number x.node_id; typ = renumbered_kind number (Some typ) })) rest) ≡ length (cons_option (gate_line (record { node_id = x.node_id; typ = typ })) (filter_map gate_line xs))
    by_kind (And a b) same = by_order (nat_lt (literal_of (renumbered_edge number b)) (literal_of (renumbered_edge number a))) (number x.node_id) (renumbered_edge number a) (renumbered_edge number b) ∙ ap suc same
    by_kind Leaf same = same
    by_kind False same = same

-- the header doesn't change
pub numbered_header : (number : ℕ → ℕ) (kind : FileKind) (c : Circuit)
    → header_line_of (numbered_file number kind c) ≡ header_line_of (file_of kind c)
numbered_header number kind c = simp (length-map, gate_count)

-- ---- nodes under numbers that agree

module _ (bound : ℕ) (f g : ℕ → ℕ) (agree : (n : ℕ) → n < bound → f n ≡ g n) where
  edge_agrees : (e : AigEdge) → e.node_id < bound → renumbered_edge f e ≡ renumbered_edge g e
  edge_agrees e h = ap (λ n. edge_to n e.compl) (agree e.node_id h)

  node_agrees : (n : ℕ) (typ : AigNodeType) → n < bound → ((a b : AigEdge) → typ ≡ And a b → (a.node_id < bound) × (b.node_id < bound))
      → renumbered_node f (record { node_id = n; typ = typ }) ≡ renumbered_node g (record { node_id = n; typ = typ })
  node_agrees n (And a b) h operands =
      let both = operands a b refl in
      let first = edge_agrees a both.0 in
      let second = edge_agrees b both.1 in
      let own = agree n h in
      λ i. record { node_id = own i; typ = and_of (first i) (second i) }
  node_agrees n Leaf h operands = ap (λ m. record { node_id = m; typ = Leaf }) (agree n h)
  node_agrees n False h operands = ap (λ m. record { node_id = m; typ = False }) (agree n h)

module _ (c : Circuit) (is : IsCircuit c) where
  -- the kind of a node that is read
  kind_read : (k : ℕ) (d : AigNode) → k < length c.nodes
      → kind_at c.nodes k ≡ Some (get_or c.nodes k d).typ
  kind_read k d h = ap (option_map (λ (node : AigNode). node.typ)) (slice_get-get_or c.nodes k d h)

  number_read : (k : ℕ) (d : AigNode) → k < length c.nodes → (get_or c.nodes k d).node_id ≡ k
  number_read k d h = is.nodes.numbered k (get_or c.nodes k d) (slice_get-get_or c.nodes k d h)

  -- operands are nodes
  operands_within : (k : ℕ) (d : AigNode) → k < length c.nodes → (a b : AigEdge)
      → (get_or c.nodes k d).typ ≡ And a b
      → (a.node_id < length c.nodes) × (b.node_id < length c.nodes)
  operands_within k d h a b typ =
      let at = kind_read k d h ∙ ap Some typ in
      let first = is.nodes.ordered.first_before k a b at in
      let second = is.nodes.ordered.second_before k a b at in
      (omega arith, omega arith)

  nodes_agree : (f g : ℕ → ℕ) → ((n : ℕ) → n < length c.nodes → f n ≡ g n)
      → All (λ node. renumbered_node f node ≡ renumbered_node g node) c.nodes
  nodes_agree f g agree k d h =
      let node = get_or c.nodes k d in
      let same = number_read k d h in
      node_agrees (length c.nodes) f g agree node.node_id node.typ (omega arith) (operands_within k d h)

  -- ---- under their own numbers

  own_kind : (typ : AigNodeType) → ((a b : AigEdge) → typ ≡ And a b → literal_of a ≤ literal_of b)
      → renumbered_kind (written_number []) (Some typ) ≡ typ
  own_kind (And a b) ordered =
      let test : nat_lt (literal_of b) (literal_of a) ≡ false = (let low = ordered a b refl in grind (arith, nat_tests)) in
      ap (λ less. cond less (And b a) (And a b)) test
  own_kind Leaf ordered = refl
  own_kind False ordered = refl

  own_node : (k : ℕ) (d : AigNode) → k < length c.nodes
      → renumbered_node (written_number []) (get_or c.nodes k d) ≡ get_or c.nodes k d
  own_node k d h =
      let node = get_or c.nodes k d in
      ap (λ typ. record { node_id = node.node_id; typ = typ }) (own_kind node.typ (λ a b typ. is.nodes.ordered.in_order k a b (kind_read k d h ∙ ap Some typ)))

own_init : (o : Option AigEdge) → option_map (renumbered_edge (written_number [])) o ≡ o
own_init None = refl
own_init (Some e) = refl

own_latch : (l : AigLatch) → renumbered_latch (written_number []) l ≡ l
own_latch l = ap (λ o. record { input = l.input; next = l.next; init = o }) (own_init l.init)

-- an empty table changes no number
pub own_file : (c : Circuit) → IsCircuit c → (kind : FileKind)
    → numbered_file (written_number []) kind c ≡ file_of kind c
own_file c is kind =
    let inputs = ap (map (λ n. 2 * n)) (map-same (written_number []) c.inputs (λ k d h. refl)) in
    let latches = ap (map latch_line) (map-same (renumbered_latch (written_number [])) c.latchs (λ k d h. own_latch (get_or c.latchs k d))) in
    let properties = ap (map_properties literal_of) (map_properties-same (renumbered_edge (written_number [])) c.properties (AllProperties-weaker (λ e. Unit {0}) (λ e. renumbered_edge (written_number []) e ≡ e) (λ e u. refl) c.properties (AllProperties-always c.properties))) in
    let gates = ap (filter_map gate_line) (map-same (renumbered_node (written_number [])) c.nodes (own_node c is)) in
    let names = (file_of kind c).names in
    λ i. record {
      kind = kind;
      greatest = length c.nodes - 1;
      inputs = inputs i;
      latches = latches i;
      properties = properties i;
      gates = gates i;
      names = names;
    }

-- ---- the gates of a re-encoded circuit

nodes_in_order-append : (nodes : List AigNode) (number : ℕ → ℕ) (v : ℕ) (xs ys : List ℕ)
    → nodes_in_order nodes number v (xs ++ ys)
    ≡ nodes_in_order nodes number v xs ++ nodes_in_order nodes number (v + length xs) ys
nodes_in_order-append nodes number v [] ys = (let e : v ≡ v + 0 = omega arith in ap (λ n. nodes_in_order nodes number n ys) e)
nodes_in_order-append nodes number v (x ∷ xs) ys =
    let e : v + 1 + length xs ≡ v + suc (length xs) = omega arith in
    ap (λ l. record { node_id = v; typ = renumbered_kind number (kind_at nodes x) } ∷ l) (nodes_in_order-append nodes number (v + 1) xs ys ∙ ap (λ n. nodes_in_order nodes number (v + 1) xs ++ nodes_in_order nodes number n ys) e)

-- nodes that are no gates have no gate lines
no_lines : (nodes : List AigNode) (number : ℕ → ℕ) (v : ℕ) (ns : List ℕ)
    → All (λ n. ¬ IsGate nodes n) ns → filter_map gate_line (nodes_in_order nodes number v ns) ≡ []
no_lines nodes number v [] none = refl
no_lines nodes number v (n ∷ ns) none = by_kind (kind_at nodes n) (λ a b at. none 0 n (omega arith) (a, b, at)) (no_lines nodes number (v + 1) ns (λ k d h. none (suc k) d (omega arith)))
  where
    by_kind : (o : Option AigNodeType) → ((a b : AigEdge) → ¬ (o ≡ Some (And a b))) → filter_map gate_line (nodes_in_order nodes number (v + 1) ns) ≡ []
        → filter_map gate_line (record { node_id = v; typ = renumbered_kind number o } ∷ nodes_in_order nodes number (v + 1) ns) ≡ []
    by_kind (Some (And a b)) other rest = absurd (other a b refl)
    by_kind (Some Leaf) other rest = rest
    by_kind (Some False) other rest = rest
    by_kind None other rest = rest

-- gates whose new numbers go on from v have the lines of their renumbered nodes
gate_lines : (nodes : List AigNode) (number : ℕ → ℕ) (v : ℕ) (xs : List AigNode) → All (λ x. kind_at nodes x.node_id ≡ Some x.typ) xs
    → ((i : ℕ) → i < length (filter_map gate_number xs) → number (get_or (filter_map gate_number xs) i 0) ≡ v + i)
    → filter_map gate_line (nodes_in_order nodes number v (filter_map gate_number xs)) ≡ filter_map gate_line (map (renumbered_node number) xs)
gate_lines nodes number v [] read row = refl
gate_lines nodes number v (x ∷ xs) read row = by_kind x.typ (read 0 x (omega arith)) row (λ w. gate_lines nodes number w xs (λ k d h. read (suc k) d (omega arith)))
  where
    rest : ℕ → List AigNode
    rest w = nodes_in_order nodes number w (filter_map gate_number xs)

    made : List GateLine
    made = filter_map gate_line (map (renumbered_node number) xs)

    old : AigNodeType → AigNode
    old typ = record { node_id = x.node_id; typ = typ }

    by_kind : (typ : AigNodeType) → kind_at nodes x.node_id ≡ Some typ
        → ((i : ℕ) → i < length (filter_map gate_number (old typ ∷ xs)) → number (get_or (filter_map gate_number (old typ ∷ xs)) i 0) ≡ v + i)
        → ((w : ℕ) → ((i : ℕ) → i < length (filter_map gate_number xs) → number (get_or (filter_map gate_number xs) i 0) ≡ w + i) → filter_map gate_line (rest w) ≡ made)
        → filter_map gate_line (nodes_in_order nodes number v (filter_map gate_number (old typ ∷ xs))) ≡ filter_map gate_line (renumbered_node number (old typ) ∷ map (renumbered_node number) xs)
    by_kind (And a b) at row later =
        let first : v ≡ number x.node_id = omega (arith, row 0 (omega arith)) in
        let kinds = ap (renumbered_kind number) at in
        ap (λ (o : Option AigNodeType). filter_map gate_line (record { node_id = v; typ = renumbered_kind number o } ∷ rest (v + 1))) at
        ∙ ap (λ n. filter_map gate_line (record { node_id = n; typ = renumbered_kind number (Some (And a b)) } ∷ rest (v + 1))) first
        ∙ ap (cons_option (gate_line (renumbered_node number (old (And a b))))) (later (v + 1) (λ i h. omega (arith, row (suc i) (omega arith))))
    by_kind Leaf at row later = later v row
    by_kind False at row later = later v row

module _ (c : Circuit) (is : IsCircuit c) (closed : IsClosed c) where
  abbrev leaves : List ℕ
  leaves = c.inputs ++ latch_leaves c.latchs

  abbrev gates : List ℕ
  gates = filter_map gate_number c.nodes

  gates-reencoded : filter_map gate_line (reencoded c).nodes
      ≡ filter_map gate_line (map (renumbered_node (new_number c)) c.nodes)
  gates-reencoded =
      let number = new_number c in
      let first = nodes_in_order c.nodes number 0 (0 ∷ leaves) in
      ap (filter_map gate_line) (nodes_in_order-append c.nodes number 0 (0 ∷ leaves) gates)
      ∙ filter_map-append gate_line first (nodes_in_order c.nodes number (0 + length (0 ∷ leaves)) gates)
      ∙ ap (λ l. l ++ filter_map gate_line (nodes_in_order c.nodes number (0 + length (0 ∷ leaves)) gates)) (no_lines c.nodes number 0 (0 ∷ leaves) (no_gates c is))
      ∙ gate_lines c.nodes number (0 + length (0 ∷ leaves)) c.nodes (λ k d h. ap (kind_at c.nodes) (number_read c is k d h) ∙ kind_read c is k d h) (λ i h.
      let place = (Numbers-order c is closed).place (length (0 ∷ leaves) + i) (omega (arith, length-append (0 ∷ leaves) gates)) in
      let at : get_or (order_of c) (length (0 ∷ leaves) + i) 0 ≡ get_or gates i 0 = get_or-append-add (0 ∷ leaves) gates i 0 in
      ap number (sym at) ∙ place ∙ omega arith)

  -- ---- names

  name_at : (n : ℕ) → n < length c.nodes → get (reencoded c).names (new_number c n) ≡ get c.names n
  name_at n h =
      let S : ℕ → Type 0 = λ n. n < length c.nodes in
      get-from_entries nat_cmp_total _ (new_number c n)
      ∙ find-number S (new_number c) (number-apart c.nodes S (order_of c) (new_number c) (Numbers-order c is closed)) (entries c.names) n h (names_in_circuit S c.names is.named)
      ∙ sym (get-entries c.names n)

  name_lines-reencoded : (letter position : ℕ) (ns : List ℕ) → All (λ n. n < length c.nodes) ns
      → name_lines letter position (map (new_number c) ns) (get (reencoded c).names)
      ≡ name_lines letter position ns (get c.names)
  name_lines-reencoded letter position [] there = refl
  name_lines-reencoded letter position (n ∷ ns) there =
      ap (λ (o : Option (List ℕ)). option_to_list (option_map (λ (bytes : List ℕ). record { letter = letter; position = position; name = bytes }) o) ++ name_lines letter (position + 1) (map (new_number c) ns) (get (reencoded c).names)) (name_at n (there 0 n (omega arith)))
      ∙ ap (λ (l : List NameLine). option_to_list (option_map (λ (bytes : List ℕ). record { letter = letter; position = position; name = bytes }) (get c.names n)) ++ l) (name_lines-reencoded letter (position + 1) ns (λ k d h. there (suc k) d (omega arith)))

  leaves_there : (ns : List ℕ) → All (IsLeaf c.nodes) ns → All (λ n. n < length c.nodes) ns
  leaves_there ns all = All-weaker (IsLeaf c.nodes) (λ n. n < length c.nodes) (λ n leaf. kind_at-within c.nodes n Leaf leaf) ns all

  latches_there : (ls : List AigLatch) → All (IsLatch c.nodes) ls
      → All (λ n. n < length c.nodes) (latch_leaves ls)
  latches_there ls all = All-map (λ n. n < length c.nodes) (λ (l : AigLatch). l.input) ls (All-weaker (IsLatch c.nodes) (λ l. l.input < length c.nodes) (λ l is_latch. kind_at-within c.nodes l.input Leaf is_latch.leaf) ls all)

  names-reencoded : (kind : FileKind) → (file_of kind (reencoded c)).names ≡ (file_of kind c).names
  names-reencoded kind =
      ap (λ (ns : List ℕ). name_lines 105 0 (map (new_number c) c.inputs) (get (reencoded c).names) ++ name_lines 108 0 ns (get (reencoded c).names)) (latch_leaves-map (new_number c) c.latchs)
      ∙ ap (λ (l : List NameLine). l ++ name_lines 108 0 (map (new_number c) (latch_leaves c.latchs)) (get (reencoded c).names)) (name_lines-reencoded 105 0 c.inputs (leaves_there c.inputs is.inputs))
      ∙ ap (λ (l : List NameLine). name_lines 105 0 c.inputs (get c.names) ++ l) (name_lines-reencoded 108 0 (latch_leaves c.latchs) (latches_there c.latchs is.latchs))

  -- ---- the binary file

  module _ (table : List ℕ) (has : IsBinaryNumbering c table) where
    same_circuit : renumbered_circuit (written_number table) (order_of c) c ≡ reencoded c
    same_circuit = circuits-agree (λ n. n < length c.nodes) (written_number table) (new_number c) has.numbers c (order_of c) (SpeaksOf-nodes c is) (λ n a b at. (
      let within = kind_at-within c.nodes n (And a b) at in let low = is.nodes.ordered.first_before n a b at in omega arith,
      let within = kind_at-within c.nodes n (And a b) at in let low = is.nodes.ordered.second_before n a b at in omega arith,
    ))

    -- the file under the table's numbers is that of the re-encoded circuit
    pub binary_file : numbered_file (written_number table) Binary c ≡ file_of Binary (reencoded c)
    binary_file =
        let d = renumbered_circuit (written_number table) (order_of c) c in
        let nodes = (AreAsLong-reencoded c is closed).nodes in
        let greatest = ap (λ n. n - 1) (sym nodes) in
        let inputs = ap (λ (e : Circuit). map (λ n. 2 * n) e.inputs) same_circuit in
        let latches = ap (λ (e : Circuit). map latch_line e.latchs) same_circuit in
        let properties = ap (λ (e : Circuit). map_properties literal_of e.properties) same_circuit in
        let gates = ap (filter_map gate_line) (map-agrees (renumbered_node (written_number table)) (renumbered_node (new_number c)) c.nodes (nodes_agree c is (written_number table) (new_number c) has.numbers)) ∙ sym gates-reencoded in
        let names = sym (names-reencoded Binary) in
        λ i. record {
          kind = Binary;
          greatest = greatest i;
          inputs = inputs i;
          latches = latches i;
          properties = properties i;
          gates = gates i;
          names = names i;
        }

  -- ---- gates fall below one another under new numbers

  at_most : (m : ℕ) (k : ℕ) (b : Bool) → m < k → 2 * m + cond b 1 0 ≤ 2 * k
  at_most m k true h = omega arith
  at_most m k false h = omega arith

  pub numbered_falls : (table : List ℕ) → length c.nodes ≤ 2 ^ 31 → IsBinaryNumbering c table
      → All (FallsBelow table) c.nodes
  numbered_falls table few has k d h =
      let numbers = Numbers-order c is closed in
      let node = get_or c.nodes k d in
      let own : written_number table node.node_id ≡ new_number c k = ap (written_number table) (number_read c is k d h) ∙ has.numbers k h in
      record {
        own = omega (arith, numbers.within k h, length-order c is closed);
        operands = λ a b typ.
            let at = kind_read c is k d h ∙ ap Some typ in
            let there = operands_within c is k d h a b typ in
            let first = at_most (written_number table a.node_id) (written_number table node.node_id) a.compl (omega (arith, own, has.numbers a.node_id there.0, numbers.first_before k a b h at)) in
            let second = at_most (written_number table b.node_id) (written_number table node.node_id) b.compl (omega (arith, own, has.numbers b.node_id there.1, numbers.second_before k a b h at)) in
            (first, second);
      }
