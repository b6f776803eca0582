-- A table of numbers, filled node by node in the new order.
use Rattle.aig_base.proofs.Words.{◌≡◌, ◌≢◌, ℕ, ◌+◌, ◌<◌, ◌≤◌, List, [], ◌∷◌, ◌++◌, length, take, drop, get_or, refl, replicate, zero, suc, sym, ap, ◌∙◌, arith, inl, inr, length-append, Bool, true, false, append_assoc, take-append-drop, cases_lt, false≢true, filter_map-append, get_or-append_seam, slice_get-get_or}
use Rattle.std.specs.Prelude.{IsTrue, ◌↔◌, filter_map, slice_index, slice_set}
use Rattle.std.proofs.lemmas.Grind.{get_or_default_zero}
use Rattle.std.proofs.lemmas.List.{get_or-append-add, get_or-set_other, get_or-set_same, length-set, take_all}
use Rattle.std.proofs.Math.ListN.{get_or-append}
use Rattle.aig_circuit.specs.declared.node.AigLatch.{AigLatch}
use Rattle.aig_circuit.specs.declared.node.AigNode.{AigNode}
use Rattle.aig_circuit.proofs.Words.{IsAnd, Circuit, IsCircuit, IsClosed, latch_leaves, IsReencoded, gate_number, order_of}
use Rattle.aig_circuit.proofs.Circuits.{leaf-read}
use Rattle.aig_circuit.proofs.Trees.{kind_at-within}
use Rattle.aig_circuit.specs.declared.node.AigNodeType.TheVariants.{Leaf}
use Rattle.aig_renumber.proofs.Order.{Numbers-order, gates-turn_gate, gates-turn_other, length-order, order-distinct, order-there}
use Rattle.aig_renumber.proofs.Placed.{number-placed}
use Rattle.aig_renumber.proofs.Tables.{HasPlaces, table-number}
use Rattle.aig_writer.specs.Numbering.{IsBinaryNumbering}
use Rattle.aig_writer.proofs.Entries.{length-leaves}

-- the nodes before `next` in the order have their places as numbers
pub record IsFilled (c : Circuit) (next : ℕ) (numbers : List ℕ) : Type 0 where
  pub count : length numbers ≡ length c.nodes
  pub places : (i : ℕ) → i < next → slice_index numbers (slice_index (order_of c) i) ≡ i

-- zeros begin with one
pub first_of_zeros : (n : ℕ) → slice_index (replicate n 0) 0 ≡ 0
first_of_zeros zero = refl
first_of_zeros (suc n) = refl

-- ---- the places of leaves and gates

abbrev gates : Circuit → List ℕ
gates c = filter_map gate_number c.nodes

length-front : (c : Circuit)
    → length ((0 ∷ c.inputs) ++ latch_leaves c.latchs) ≡ 1 + length c.inputs + length c.latchs
length-front c = omega (arith, length-append (0 ∷ c.inputs) (latch_leaves c.latchs), length-leaves c.latchs)

input_place : (c : Circuit) (i : ℕ) → i < length c.inputs
    → get_or (order_of c) (1 + i) 0 ≡ get_or c.inputs i 0
input_place c i h =
    let e : 1 + i ≡ suc i = omega arith in
    get_or-append ((0 ∷ c.inputs) ++ latch_leaves c.latchs) (gates c) 0 (1 + i) (omega (arith, length-front c))
    ∙ get_or-append (0 ∷ c.inputs) (latch_leaves c.latchs) 0 (1 + i) (omega arith) ∙ ap (λ k. get_or (0 ∷ c.inputs) k 0) e

latch_place : (c : Circuit) (i : ℕ) → i < length c.latchs
    → get_or (order_of c) (1 + length c.inputs + i) 0 ≡ get_or (latch_leaves c.latchs) i 0
latch_place c i h =
    let e : 1 + length c.inputs + i ≡ length (0 ∷ c.inputs) + i = omega arith in
    get_or-append ((0 ∷ c.inputs) ++ latch_leaves c.latchs) (gates c) 0 (1 + length c.inputs + i) (omega (arith, length-front c))
    ∙ ap (λ k. get_or ((0 ∷ c.inputs) ++ latch_leaves c.latchs) k 0) e ∙ get_or-append-add (0 ∷ c.inputs) (latch_leaves c.latchs) i 0

gate_place : (c : Circuit) (i : ℕ)
    → get_or (order_of c) (1 + length c.inputs + length c.latchs + i) 0 ≡ get_or (gates c) i 0
gate_place c i =
    ap (λ k. get_or (order_of c) (k + i) 0) (sym (length-front c)) ∙ get_or-append-add ((0 ∷ c.inputs) ++ latch_leaves c.latchs) (gates c) i 0

-- ---- gates, one after another

gates_more : (nodes : List AigNode) (i : ℕ) (d : AigNode) (r : Bool) → i < length nodes → (IsTrue r ↔ IsAnd (get_or nodes i d)) → r ≡ true
    → filter_map gate_number (take (i + 1) nodes) ≡ filter_map gate_number (take i nodes) ++ (get_or nodes i d).node_id ∷ []
gates_more nodes i d r h told is = sym (gates-turn_gate nodes i d [] (filter_map gate_number (take i nodes)) (filter_map gate_number (take i nodes) ++ (get_or nodes i d).node_id ∷ []) (get_or nodes i d).node_id r h told is refl refl refl)

-- the numbers of the gates, at one of them
gates_split : (nodes : List AigNode) (i : ℕ) (d : AigNode) (r : Bool) → i < length nodes → (IsTrue r ↔ IsAnd (get_or nodes i d)) → r ≡ true
    → filter_map gate_number nodes ≡ filter_map gate_number (take i nodes) ++ (get_or nodes i d).node_id ∷ filter_map gate_number (drop (i + 1) nodes)
gates_split nodes i d r h told is =
    let front = filter_map gate_number (take i nodes) in
    let rest = filter_map gate_number (drop (i + 1) nodes) in
    ap (filter_map gate_number) (sym (take-append-drop (i + 1) nodes)) ∙ filter_map-append gate_number (take (i + 1) nodes) (drop (i + 1) nodes)
    ∙ ap (λ l. l ++ rest) (gates_more nodes i d r h told is) ∙ append_assoc front ((get_or nodes i d).node_id ∷ []) rest

-- how many gates there were
pub record IsGatesTurn (c : Circuit) (next i : ℕ) (numbers : List ℕ) : Type 0 where
  pub count : next
      ≡ 1 + length c.inputs + length c.latchs + length (filter_map gate_number (take i c.nodes))
  pub filled : IsFilled c next numbers

module _ (c : Circuit) (is : IsCircuit c) (closed : IsClosed c) where
  -- as many nodes as false, inputs, latches and gates
  pub node_count : 1 + length c.inputs + length c.latchs + length (gates c) ≡ length c.nodes
  node_count = omega (arith, length-order c is closed, length-append ((0 ∷ c.inputs) ++ latch_leaves c.latchs) (gates c), length-front c)

  -- the next node of the order gets its number
  filled-turn : (next n : ℕ) (numbers : List ℕ) → next < length c.nodes
      → get_or (order_of c) next 0 ≡ n → IsFilled c next numbers
      → IsFilled c (next + 1) (slice_set numbers n next)
  filled-turn next n numbers h at so_far =
      let order = order_of c in
      let low : next < length order = omega (arith, length-order c is closed) in
      let within : n < length numbers = omega (arith, order-there c is next 0 low, so_far.count) in
      record {
        count = length-set numbers n next ∙ so_far.count;
        places = λ i l. elim (cases_lt i next) [
          | inl before ↦ (
              let differs : get_or order i 0 ≢ n = λ same. order-distinct c is i next 0 before low (same ∙ sym at) in
              get_or-set_other numbers n (get_or order i 0) next 0 differs ∙ so_far.places i before)
          | inr not_before ↦ (
              let last : i ≡ next = omega arith in
              ap (λ k. get_or (slice_set numbers n next) (get_or order k 0) 0) last ∙ ap (λ m. get_or (slice_set numbers n next) m 0) at ∙ get_or-set_same numbers n next 0 within ∙ sym last)
        ];
      }

  -- node 0 has its number
  pub none_filled : (numbers : List ℕ) → length numbers ≡ length c.nodes
      → slice_index numbers 0 ≡ 0 → IsFilled c 1 numbers
  none_filled numbers count first = record {
    count = count;
    places = λ i h. (let none : i ≡ 0 = omega arith in ap
        (λ k. get_or numbers (get_or (order_of c) k 0) 0) none ∙ first ∙ sym none);
  }

  pub input_turn : (i next : ℕ) (numbers : List ℕ) → i < length c.inputs → next ≡ 1 + i
      → IsFilled c next numbers
      → IsFilled c (next + 1) (slice_set numbers (get_or c.inputs i 0) next)
  input_turn i next numbers h at so_far = filled-turn next (get_or c.inputs i 0) numbers (omega (arith, node_count)) (ap (λ k. get_or (order_of c) k 0) at ∙ input_place c i h) so_far

  pub latch_turn : (i next n : ℕ) (numbers : List ℕ) → i < length c.latchs
      → next ≡ 1 + length c.inputs + i → get_or (latch_leaves c.latchs) i 0 ≡ n
      → IsFilled c next numbers → IsFilled c (next + 1) (slice_set numbers n next)
  latch_turn i next n numbers h at is_leaf so_far = filled-turn next n numbers (omega (arith, node_count)) (ap (λ k. get_or (order_of c) k 0) at ∙ latch_place c i h ∙ is_leaf) so_far

  -- a gate is one of those that are counted
  pub gate_counted : (i : ℕ) (d : AigNode) (r : Bool) → i < length c.nodes
      → (IsTrue r ↔ IsAnd (get_or c.nodes i d)) → r ≡ true
      → 1 + length c.inputs + length c.latchs + length (filter_map gate_number (take i c.nodes))
      < length c.nodes
  gate_counted i d r h told gate =
      let front = filter_map gate_number (take i c.nodes) in
      omega (arith, node_count, ap length (gates_split c.nodes i d r h told gate), length-append front ((get_or c.nodes i d).node_id ∷ filter_map gate_number (drop (i + 1) c.nodes)))

  pub gate_turn : (i : ℕ) (d : AigNode) (r : Bool) (next n : ℕ) (numbers : List ℕ) → i < length c.nodes → (IsTrue r ↔ IsAnd (get_or c.nodes i d)) → r ≡ true → n ≡ (get_or c.nodes i d).node_id
      → IsGatesTurn c next i numbers → IsGatesTurn c (next + 1) (i + 1) (slice_set numbers n next)
  gate_turn i d r next n numbers h told gate own so_far =
      let front = filter_map gate_number (take i c.nodes) in
      let id = (get_or c.nodes i d).node_id in
      let at = so_far.count in
      let split = gates_split c.nodes i d r h told gate in
      let place = ap (λ k. get_or (order_of c) k 0) at ∙ gate_place c (length front) ∙ ap (λ l. get_or l (length front) 0) split ∙ get_or-append_seam front id (filter_map gate_number (drop (i + 1) c.nodes)) 0 ∙ sym own in
      record {
        count = omega (arith, ap length (gates_more c.nodes i d r h told gate), length-append front (id ∷ []));
        filled = filled-turn next n numbers (omega (arith, gate_counted i d r h told gate)) place so_far.filled;
      }

  -- the whole order has its places
  pub all_filled : (i next : ℕ) (numbers : List ℕ) → length c.nodes ≤ i
      → IsGatesTurn c next i numbers → IsBinaryNumbering c numbers
  all_filled i next numbers h so_far =
      let whole : next ≡ length c.nodes = so_far.count ∙ ap (λ l. 1 + length c.inputs + length c.latchs + length (filter_map gate_number l)) (take_all i c.nodes h) ∙ node_count in
      let filled = so_far.filled in
      let count = filled.count in
      let has : HasPlaces (order_of c) numbers = record { count = omega (arith, length-order c is closed); places = λ i h. filled.places i (omega (arith, length-order c is closed)) } in
      record {
        within = λ k d h. (let low : k < length c.nodes = omega arith in omega (arith, get_or_default_zero numbers k d h, table-number c is closed numbers has k low, (Numbers-order c is closed).within k low, length-order c is closed));
        numbers = λ n h. get_or_default_zero numbers n n (omega arith) ∙ table-number c is closed numbers has n h;
      }

  -- an input, a latch's leaf and a gate have places in the table
  pub input_within : (inputs : List ℕ) (i : ℕ) → inputs ≡ c.inputs → i < length inputs
      → get_or inputs i 0 < length c.nodes
  input_within inputs i same h =
      let low : i < length c.inputs = omega (arith, ap length same) in
      let read = ap (λ (ns : List ℕ). get_or ns i 0) same in
      omega (arith, kind_at-within c.nodes (get_or c.inputs i 0) Leaf (is.inputs i 0 low))

  pub leaf_within : (latchs : List AigLatch) (i n : ℕ) (d : AigLatch) → latchs ≡ c.latchs
      → i < length latchs → n ≡ (get_or latchs i d).input → n < length c.nodes
  leaf_within latchs i n d same h own =
      let low : i < length c.latchs = omega (arith, ap length same) in
      let read = ap (λ (ls : List AigLatch). (get_or ls i d).input) same in
      omega (arith, kind_at-within c.nodes (get_or c.latchs i d).input Leaf (is.latchs i d low).leaf)

  pub node_within : (nodes : List AigNode) (i n : ℕ) (d : AigNode) → nodes ≡ c.nodes
      → i < length nodes → n ≡ (get_or nodes i d).node_id → n < length c.nodes
  node_within nodes i n d same h own =
      let low : i < length c.nodes = omega (arith, ap length same) in
      let read = ap (λ (ns : List AigNode). (get_or ns i d).node_id) same in
      omega (arith, is.nodes.numbered i (get_or c.nodes i d) (slice_get-get_or c.nodes i d low))

  -- no number is changed where the leaves are in order
  pub own_numbers : IsReencoded c → IsBinaryNumbering c []
  own_numbers placed = record {
    within = λ k d h. absurd (omega arith);
    numbers = λ n h. sym (number-placed c is closed placed n h);
  }

-- another node is no gate
pub other_turn : (c : Circuit) (i : ℕ) (d : AigNode) (r : Bool) (next : ℕ) (numbers : List ℕ)
    → i < length c.nodes → (IsTrue r ↔ IsAnd (get_or c.nodes i d)) → r ≡ false
    → IsGatesTurn c next i numbers → IsGatesTurn c next (i + 1) numbers
other_turn c i d r next numbers h told other so_far =
    let same = gates-turn_other c.nodes i d [] (filter_map gate_number (take i c.nodes)) r h told other refl in
    record { count = so_far.count ∙ ap (λ l. 1 + length c.inputs + length c.latchs + length l) same; filled = so_far.filled }

-- ---- leaves that are in order

abbrev row : Circuit → List ℕ
row c = c.inputs ++ latch_leaves c.latchs

pub row_length : (c : Circuit)
    → length (c.inputs ++ latch_leaves c.latchs) ≡ length c.inputs + length c.latchs
row_length c = omega (arith, length-append c.inputs (latch_leaves c.latchs), length-leaves c.latchs)

-- the leaf of a latch that is read
pub row-at : (c : Circuit) (latchs : List AigLatch) (i n : ℕ) (d : AigLatch) → latchs ≡ c.latchs
    → i < length latchs → n ≡ (get_or latchs i d).input → get_or (row c) (length c.inputs + i) 0 ≡ n
row-at c latchs i n d same h is = get_or-append-add c.inputs (latch_leaves c.latchs) i 0 ∙ ap (λ ls. get_or (latch_leaves ls) i 0) (sym same) ∙ leaf-read latchs i d h ∙ sym is

-- an input that is read
pub row-input : (c : Circuit) (inputs : List ℕ) (i : ℕ) → inputs ≡ c.inputs → i < length inputs
    → get_or (row c) i 0 ≡ get_or inputs i 0
row-input c inputs i same h = get_or-append c.inputs (latch_leaves c.latchs) 0 i
    (omega (arith, ap length same)) ∙ ap (λ (ns : List ℕ). get_or ns i 0) (sym same)

-- one more leaf is in order
pub row-turn : (c : Circuit) (m next n : ℕ) → ((k : ℕ) → k < m → get_or (row c) k 0 ≡ k + 1)
    → get_or (row c) m 0 ≡ n → n ≡ m + 1 → next ≡ m + 1
    → (k : ℕ) → k < next → get_or (row c) k 0 ≡ k + 1
row-turn c m next n so_far at is more k h = elim (cases_lt k m) [
  | inl before ↦ so_far k before
  | inr not_before ↦ (let last : k ≡ m = omega arith in ap (λ j. get_or (row c) j 0) last ∙ at ∙ is
      ∙ omega arith)
]

-- one leaf is not
pub row-other : (c : Circuit) (m n : ℕ) → m < length c.inputs + length c.latchs
    → get_or (row c) m 0 ≡ n → n ≢ m + 1 → IsTrue false ↔ IsReencoded c
row-other c m n h at other = (
  λ yes. absurd (false≢true yes),
  λ order. absurd
      (other (sym at ∙ order m (omega (arith, row_length c)))),
)
