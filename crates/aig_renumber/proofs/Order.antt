-- The order of a closed circuit's nodes for the binary form: false, inputs, leaves of latches, gates in rising number.
use Rattle.aig_base.proofs.Words.{◌≡◌, ◌≢◌, ℕ, zero, suc, ◌+◌, ◌<◌, Bool, true, false, eqb, Some, None, List, [], ◌∷◌, ◌++◌, length, map, get_or, refl, sym, ap, subst, ◌∙◌, arith, inl, inr, take, append_assoc, ◌⊎◌, ◌↔◌, is_member, false≢true, cases_lt, Decides-eqb, same_Some, slice_get-get_or, All-nil, All-cons, All-append, All-weaker, All-contains, Contains-append_left, Contains-append_right, filter_map-append, length-le_from_is_member, is_member-Decides, IsDistinct-from_AllPairs}
use Rattle.std.specs.Prelude.{All, AllPairs, Contains, slice_get, filter_map, IsTrue}
use Rattle.std.specs.Cmp.{nat_eq_equiv}
use Rattle.std.proofs.lemmas.List.{append-nil, get_or-map, length-map, take_more}
use Rattle.std.proofs.lemmas.List.Kept.{AllPairs-cons}
use Rattle.aig_circuit.specs.declared.edge.AigEdge.{AigEdge}
use Rattle.aig_circuit.specs.declared.node.AigNodeType.{AigNodeType}
use Rattle.aig_circuit.specs.declared.node.AigNodeType.TheVariants.{False, Leaf, And}
use Rattle.aig_circuit.specs.declared.node.AigNode.{AigNode}
use Rattle.aig_circuit.proofs.Words.{IsAnd, kind_at, is_gate, Circuit, IsCircuit, IsClosed, IsLeaf, latch_leaves, gate_number, new_number, order_of}
use Rattle.aig_circuit.proofs.Trees.{kind_at-there, kind_at-within}
use Rattle.aig_circuit.proofs.Circuits.{AllPairs-append, AreLeaves-of_circuit}
use Rattle.aig_renumber.proofs.Places.{AllPairs-weaker, position_of-within, get_or-position_of, position_of-get_or}
use Rattle.aig_renumber.proofs.NodesInOrder.{Numbers}

-- node n is a gate
abbrev pub IsGate : List AigNode → ℕ → Type 0
IsGate nodes n = (a b : AigEdge) × (kind_at nodes n ≡ Some (And a b))

-- ---- the numbers of gates

gate_number-And : (x : AigNode) (a b : AigEdge) → x.typ ≡ And a b → gate_number x ≡ Some x.node_id
gate_number-And x a b is = rw is refl

gate_number-other : (x : AigNode) → is_gate x.typ ≡ false → gate_number x ≡ None
gate_number-other x other = by_kind x.typ refl other
  where
    by_kind : (k : AigNodeType) → x.typ ≡ k → is_gate k ≡ false → gate_number x ≡ None
    by_kind (And a b) is other = absurd (false≢true (sym other))
    by_kind Leaf is other = rw is refl
    by_kind False is other = rw is refl

gate_or_not : (k : AigNodeType) → ((a b : AigEdge) × (k ≡ And a b)) ⊎ (is_gate k ≡ false)
gate_or_not (And a b) = inl (a, b, refl)
gate_or_not Leaf = inr refl
gate_or_not False = inr refl

gates_cons : (x : AigNode) (xs : List AigNode) (a b : AigEdge) → x.typ ≡ And a b → filter_map gate_number (x ∷ xs) ≡ x.node_id ∷ filter_map gate_number xs
gates_cons x xs a b is = let e = gate_number-And x a b is in rw e refl

gates_pass : (x : AigNode) (xs : List AigNode) → is_gate x.typ ≡ false → filter_map gate_number (x ∷ xs) ≡ filter_map gate_number xs
gates_pass x xs other = let e = gate_number-other x other in rw e refl

-- a node's number is its place, that of the first being v
abbrev AreNumbered : ℕ → List AigNode → Type 0
AreNumbered v nodes = (n : ℕ) (node : AigNode) → slice_get nodes n ≡ Some node → node.node_id ≡ v + n

pub tail_numbered : (v : ℕ) (x : AigNode) (xs : List AigNode) → AreNumbered v (x ∷ xs) → AreNumbered (suc v) xs
tail_numbered v x xs numbered n node is = omega (arith, numbered (suc n) node is)

pub head_numbered : (v : ℕ) (x : AigNode) (xs : List AigNode) → AreNumbered v (x ∷ xs) → x.node_id ≡ v
head_numbered v x xs numbered = omega (arith, numbered 0 x refl)

-- the number is that of a gate, the place of the first node being v
abbrev IsGateFrom : ℕ → List AigNode → ℕ → Type 0
IsGateFrom v nodes q = (n : ℕ) × (q ≡ v + n) × IsGate nodes n

gates_sound : (v : ℕ) (nodes : List AigNode) → AreNumbered v nodes → All (IsGateFrom v nodes) (filter_map gate_number nodes)
gates_sound v [] numbered = All-nil (IsGateFrom v [])
gates_sound v (x ∷ xs) numbered =
    let rest : All (IsGateFrom v (x ∷ xs)) (filter_map gate_number xs) =
    All-weaker (IsGateFrom (suc v) xs) (IsGateFrom v (x ∷ xs)) (λ q r. (suc r.0, omega (arith, r.1), r.2)) (filter_map gate_number xs) (gates_sound (suc v) xs (tail_numbered v x xs numbered))
    in
    elim (gate_or_not x.typ) [
      | inl g ↦ (
          let head : IsGateFrom v (x ∷ xs) x.node_id = (0, omega (arith, head_numbered v x xs numbered), (g.0, g.1, ap Some g.2)) in
          subst (All (IsGateFrom v (x ∷ xs))) (sym (gates_cons x xs g.0 g.1 g.2)) (All-cons (IsGateFrom v (x ∷ xs)) x.node_id (filter_map gate_number xs) head rest))
      | inr other ↦ subst (All (IsGateFrom v (x ∷ xs))) (sym (gates_pass x xs other)) rest
    ]

gates_complete : (v : ℕ) (nodes : List AigNode) → AreNumbered v nodes → (n : ℕ) → IsGate nodes n → Contains (filter_map gate_number nodes) (v + n)
gates_complete v [] numbered n g = let there = g.2 in cc
gates_complete v (x ∷ xs) numbered zero g =
    let e : x.node_id ≡ v + 0 = numbered 0 x refl in
    subst (λ l. Contains l (v + 0)) (sym (gates_cons x xs g.0 g.1 (same_Some _ _ g.2))) (0, omega arith, e)
gates_complete v (x ∷ xs) numbered (suc n) g =
    let e : suc v + n ≡ v + suc n = omega arith in
    let rest : Contains (filter_map gate_number xs) (v + suc n) = subst (Contains (filter_map gate_number xs)) e (gates_complete (suc v) xs (tail_numbered v x xs numbered) n g) in
    elim (gate_or_not x.typ) [
      | inl h ↦ subst (λ l. Contains l (v + suc n)) (sym (gates_cons x xs h.0 h.1 h.2)) (suc rest.0, omega (arith, rest.1), rest.2)
      | inr other ↦ subst (λ l. Contains l (v + suc n)) (sym (gates_pass x xs other)) rest
    ]

gates_rise : (v : ℕ) (nodes : List AigNode) → AreNumbered v nodes → AllPairs (λ m n. m < n) (filter_map gate_number nodes)
gates_rise v [] numbered = λ i j d h l. absurd (omega arith)
gates_rise v (x ∷ xs) numbered =
    let rest = gates_rise (suc v) xs (tail_numbered v x xs numbered) in
    elim (gate_or_not x.typ) [
      | inl g ↦ (
          let above = All-weaker (IsGateFrom (suc v) xs) (λ n. x.node_id < n) (λ q r. omega (arith, r.1, head_numbered v x xs numbered)) (filter_map gate_number xs) (gates_sound (suc v) xs (tail_numbered v x xs numbered)) in
          subst (AllPairs (λ m n. m < n)) (sym (gates_cons x xs g.0 g.1 g.2)) (AllPairs-cons (λ m n. m < n) x.node_id (filter_map gate_number xs) above rest))
      | inr other ↦ subst (AllPairs (λ m n. m < n)) (sym (gates_pass x xs other)) rest
    ]

module _ (c : Circuit) (is : IsCircuit c) where
  -- the leaves that are named, and the gates
  abbrev leaves : List ℕ
  leaves = c.inputs ++ latch_leaves c.latchs

  abbrev gates : List ℕ
  gates = filter_map gate_number c.nodes

  numbered : AreNumbered 0 c.nodes
  numbered n node at = omega (arith, is.nodes.numbered n node at)

  pub are_gates : All (IsGate c.nodes) gates
  are_gates = All-weaker (IsGateFrom 0 c.nodes) (IsGate c.nodes) (λ q r. let e : r.0 ≡ q = omega (arith, r.1) in subst (IsGate c.nodes) e r.2) gates (gates_sound 0 c.nodes numbered)

  pub rising_gates : AllPairs (λ m n. m < n) gates
  rising_gates = gates_rise 0 c.nodes numbered

  leaf_no_gate : (n : ℕ) → IsLeaf c.nodes n → ¬ IsGate c.nodes n
  leaf_no_gate n leaf g = let is_gate = g.2 in cc

  false_no_gate : ¬ IsGate c.nodes 0
  false_no_gate g = let is_false = is.nodes.false_first in let is_gate = g.2 in cc

  -- neither false nor a named leaf is a gate
  pub no_gates : All (λ n. ¬ IsGate c.nodes n) (0 ∷ leaves)
  no_gates = All-cons (λ n. ¬ IsGate c.nodes n) 0 leaves false_no_gate (All-weaker (IsLeaf c.nodes) (λ n. ¬ IsGate c.nodes n) leaf_no_gate leaves (AreLeaves-of_circuit c is).leaves)

  false_no_leaf : (n : ℕ) → IsLeaf c.nodes n → 0 ≢ n
  false_no_leaf n leaf e = let at_zero : IsLeaf c.nodes 0 = subst (IsLeaf c.nodes) (sym e) leaf in let is_false = is.nodes.false_first in cc

  -- no number stands twice
  pub order-distinct : AllPairs (λ m n. m ≢ n) (order_of c)
  order-distinct =
      AllPairs-append (λ m n. m ≢ n) (0 ∷ leaves) gates
      (AllPairs-cons (λ m n. m ≢ n) 0 leaves (All-weaker (IsLeaf c.nodes) (λ n. 0 ≢ n) false_no_leaf leaves (AreLeaves-of_circuit c is).leaves) (AreLeaves-of_circuit c is).distinct)
      (AllPairs-weaker (λ m n. m < n) (λ m n. m ≢ n) gates (λ m n h e. absurd (omega arith)) rising_gates)
      (λ k d h i e l same. no_gates k d h (subst (IsGate c.nodes) (sym same) (are_gates i e l)))

  -- a gate comes before greater numbers alone
  order-rising : AllPairs (λ m n. IsGate c.nodes m → m < n) (order_of c)
  order-rising =
      AllPairs-append (λ m n. IsGate c.nodes m → m < n) (0 ∷ leaves) gates
      (λ i j d h l gate. absurd (no_gates i d (omega arith) gate))
      (AllPairs-weaker (λ m n. m < n) (λ m n. IsGate c.nodes m → m < n) gates (λ m n h gate. h) rising_gates)
      (λ k d h i e l gate. absurd (no_gates k d h gate))

  -- each number is a node's
  pub order-there : All (λ n. n < length c.nodes) (order_of c)
  order-there =
      All-append (λ n. n < length c.nodes) (0 ∷ leaves) gates
      (All-cons (λ n. n < length c.nodes) 0 leaves (kind_at-within c.nodes 0 False is.nodes.false_first)
      (All-weaker (IsLeaf c.nodes) (λ n. n < length c.nodes) (λ n leaf. kind_at-within c.nodes n Leaf leaf) leaves (AreLeaves-of_circuit c is).leaves))
      (All-weaker (IsGate c.nodes) (λ n. n < length c.nodes) (λ n g. kind_at-within c.nodes n (And g.0 g.1) g.2) gates are_gates)

  module _ (closed : IsClosed c) where
    -- and each node's number is there
    pub order-Contains : (n : ℕ) → n < length c.nodes → Contains (order_of c) n
    order-Contains n h = let k = kind_at-there c.nodes n h in by_kind k.0 k.1
      where
        by_kind : (k : AigNodeType) → kind_at c.nodes n ≡ Some k → Contains (order_of c) n
        by_kind False at = (0, omega arith, sym (is.nodes.false_once n at))
        by_kind Leaf at = Contains-append_left (0 ∷ leaves) gates n (let there = closed n at in (suc there.0, omega (arith, there.1), there.2))
        by_kind (And a b) at = let e : 0 + n ≡ n = omega arith in Contains-append_right (0 ∷ leaves) gates n (subst (Contains gates) e (gates_complete 0 c.nodes numbered n (a, b, at)))

    -- an operand comes before its gate
    operand_before : (m n : ℕ) → m < n → n < length c.nodes → IsGate c.nodes n → new_number c m < new_number c n
    operand_before m n h l gate =
        let first = order-Contains m (omega arith) in
        let second = order-Contains n l in
        let at_m = get_or-position_of (order_of c) m first in
        let at_n = get_or-position_of (order_of c) n second in
        elim (cases_lt (new_number c m) (new_number c n)) [
          | inl before ↦ before
          | inr not_before ↦ elim (cases_lt (new_number c n) (new_number c m)) [
            | inl after ↦ (
                let pair = order-rising (new_number c n) (new_number c m) 0 after (position_of-within (order_of c) m first) (subst (IsGate c.nodes) (sym at_n) gate) in
                absurd (omega (arith, at_m, at_n, pair)))
            | inr not_after ↦ (
                let same : new_number c m ≡ new_number c n = omega arith in
                let equal : m ≡ n = sym at_m ∙ ap (λ i. get_or (order_of c) i 0) same ∙ at_n in
                absurd (omega arith))
          ]
        ]

    -- the new numbers are a numbering of all nodes
    pub Numbers-order : Numbers c.nodes (λ n. n < length c.nodes) (order_of c) (new_number c)
    Numbers-order = record {
      within = λ n h. position_of-within (order_of c) n (order-Contains n h);
      back = λ n h. get_or-position_of (order_of c) n (order-Contains n h);
      in_S = λ i h. order-there i 0 h;
      place = λ i h. position_of-get_or (order_of c) i order-distinct h;
      false_in_S = kind_at-within c.nodes 0 False is.nodes.false_first;
      false_first = refl;
      there = λ n h. h;
      operands = λ n a b h at. (
        let first = is.nodes.ordered.first_before n a b at in omega arith,
        let second = is.nodes.ordered.second_before n a b at in omega arith,
      );
      first_before = λ n a b h at. operand_before a.node_id n (is.nodes.ordered.first_before n a b at) h (a, b, at);
      second_before = λ n a b h at. operand_before b.node_id n (is.nodes.ordered.second_before n a b at) h (a, b, at);
    }

    -- ---- as many numbers as nodes

    abbrev ids : List ℕ
    ids = map (λ (node : AigNode). node.node_id) c.nodes

    id_at : (k d : ℕ) → k < length ids → get_or ids k d ≡ k
    id_at k d h =
        let l : k < length c.nodes = subst (λ n. k < n) (length-map c.nodes (λ (node : AigNode). node.node_id)) h in
        let node : AigNode = record { node_id = 0; typ = False } in
        get_or-map (λ (x : AigNode). x.node_id) c.nodes k node d l ∙ is.nodes.numbered k (get_or c.nodes k node) (slice_get-get_or c.nodes k node l)

    ids-distinct : AllPairs (λ m n. m ≢ n) ids
    ids-distinct i j d h l e =
        let low : i < length ids = omega arith in
        absurd (omega (arith, id_at i d low, id_at j d l))

    member : (xs : List ℕ) (q : ℕ) → Contains xs q → is_member eqb xs q ≡ true
    member xs q h = (is_member-Decides Decides-eqb xs q).1 h

    from_member : (xs : List ℕ) (q : ℕ) → is_member eqb xs q ≡ true → Contains xs q
    from_member xs q h = (is_member-Decides Decides-eqb xs q).0 h

    pub length-order : length (order_of c) ≡ length c.nodes
    length-order =
        let as_long = length-map c.nodes (λ (node : AigNode). node.node_id) in
        let few = length-le_from_is_member nat_eq_equiv (order_of c) ids (IsDistinct-from_AllPairs Decides-eqb (order_of c) order-distinct) (λ q h.
        let there : q < length c.nodes = All-contains (λ n. n < length c.nodes) (order_of c) q order-there (from_member (order_of c) q h) in
        let low : q < length ids = omega (arith, as_long) in
        member ids q (q, low, id_at q q low))
        in
        let many = length-le_from_is_member nat_eq_equiv ids (order_of c) (IsDistinct-from_AllPairs Decides-eqb ids ids-distinct) (λ q h.
        let found = from_member ids q h in
        let there : q < length c.nodes = omega (arith, found.1, found.2, id_at found.0 q found.1, as_long) in
        member (order_of c) q (order-Contains q there))
        in
        omega (arith, as_long)

    pub order-within : All (λ n. n < length (order_of c)) (order_of c)
    order-within k d h = omega (arith, order-there k d h, length-order)

-- ---- one more node

gates_more : (nodes : List AigNode) (i : ℕ) (d : AigNode) → i < length nodes → filter_map gate_number (take (i + 1) nodes) ≡ filter_map gate_number (take i nodes) ++ filter_map gate_number (get_or nodes i d ∷ [])
gates_more nodes i d h = ap (filter_map gate_number) (take_more nodes i d h) ∙ filter_map-append gate_number (take i nodes) (get_or nodes i d ∷ [])

gates_more-And : (nodes : List AigNode) (i : ℕ) (d : AigNode) → i < length nodes → IsAnd (get_or nodes i d) → filter_map gate_number (take (i + 1) nodes) ≡ filter_map gate_number (take i nodes) ++ (get_or nodes i d).node_id ∷ []
gates_more-And nodes i d h is = gates_more nodes i d h ∙ ap (λ l. filter_map gate_number (take i nodes) ++ l) (gates_cons (get_or nodes i d) [] is.0 is.1 is.2)

gates_more-other : (nodes : List AigNode) (i : ℕ) (d : AigNode) → i < length nodes → ¬ IsAnd (get_or nodes i d) → filter_map gate_number (take (i + 1) nodes) ≡ filter_map gate_number (take i nodes)
gates_more-other nodes i d h none = gates_more nodes i d h ∙ ap (λ l. filter_map gate_number (take i nodes) ++ l) (by_kind (gate_or_not (get_or nodes i d).typ)) ∙ append-nil (filter_map gate_number (take i nodes))
  where
    by_kind : ((a b : AigEdge) × ((get_or nodes i d).typ ≡ And a b)) ⊎ (is_gate (get_or nodes i d).typ ≡ false) → filter_map gate_number (get_or nodes i d ∷ []) ≡ []
    by_kind (inl g) = absurd (none g)
    by_kind (inr other) = gates_pass (get_or nodes i d) [] other

-- after a gate its number is appended, and after another node nothing
pub gates-turn_gate : (nodes : List AigNode) (i : ℕ) (d : AigNode) (front before after : List ℕ) (n : ℕ) (r : Bool) → i < length nodes → (IsTrue r ↔ IsAnd (get_or nodes i d)) → r ≡ true → n ≡ (get_or nodes i d).node_id
    → before ≡ front ++ filter_map gate_number (take i nodes) → after ≡ before ++ n ∷ [] → after ≡ front ++ filter_map gate_number (take (i + 1) nodes)
gates-turn_gate nodes i d front before after n r h told is at so_far appended =
    appended ∙ ap (λ l. l ++ n ∷ []) so_far ∙ append_assoc front (filter_map gate_number (take i nodes)) (n ∷ [])
    ∙ ap (λ l. front ++ l) (ap (λ m. filter_map gate_number (take i nodes) ++ m ∷ []) at ∙ sym (gates_more-And nodes i d h (told.0 is)))

pub gates-turn_other : (nodes : List AigNode) (i : ℕ) (d : AigNode) (front before : List ℕ) (r : Bool) → i < length nodes → (IsTrue r ↔ IsAnd (get_or nodes i d)) → r ≡ false
    → before ≡ front ++ filter_map gate_number (take i nodes) → before ≡ front ++ filter_map gate_number (take (i + 1) nodes)
gates-turn_other nodes i d front before r h told is so_far =
    so_far ∙ ap (λ l. front ++ l) (sym (gates_more-other nodes i d h (λ gate. false≢true (sym is ∙ told.1 gate))))
