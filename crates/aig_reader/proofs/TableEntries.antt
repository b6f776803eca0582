-- The nodes that a table of gates records, as gates are put in it.
use Rattle.aig_base.proofs.Words.{◌≡◌, ◌≢◌, ℕ, zero, suc, ◌+◌, ◌*◌, ◌/◌, ◌%◌, ◌<◌, ◌≤◌, Bool, true, false, cond, List, [], ◌∷◌, ◌++◌, length, map, set, replicate, Option, Some, None, refl, sym, ap, subst, ◌∙◌, append_assoc, arith, inl, inr, AllByRecursion, eqb-true, eqb-false, ne_eqb, All-map}
use Rattle.std.specs.Prelude.{◌^◌, ◌==◌, All}
use Rattle.std.proofs.lemmas.List.{append-nil}
use Rattle.aig_circuit.specs.declared.node.AigNode.{AigNode}
use Rattle.aig_circuit.specs.declared.node.AigNodeType.{AigNodeType}
use Rattle.aig_circuit.specs.declared.node.AigNodeType.TheVariants.{False, Leaf}
use Rattle.aig_circuit.proofs.Words.{literal_of, IfAnd, and_of}
use Rattle.aig_circuit.proofs.Building.{and_of-cases, and_of-turned}
use Rattle.aig_format.proofs.Words.{GateLine, numbers_from}
use Rattle.aig_format.specs.Variables.{gate_among}
use Rattle.aig_format.proofs.Searches.{find_some}
use Rattle.aig_ordering.specs.declared.gates.Operands.{Operands}
use Rattle.aig_ordering.specs.Gates.{falling, kind_of_operands, node_in, nodes_in, nodes_in_from}
use Rattle.aig_ordering.proofs.NodesIn.{kind-falling, length-nodes_in}
use Rattle.aig_ordering.specs.Lists.{edge_from, kind_of_line, kind_among, node_from, nodes_in_row}
use Rattle.aig_reader.specs.declared.gate_store.InOrder.{InOrder}
use Rattle.aig_reader.specs.Gates.{AreFirstNodes, AreInOrder, HasWords, gate_in, line_of, literals_of}
use Rattle.aig_reader.specs.Variables.{IsNewAmong}
use Rattle.aig_reader.proofs.PlacedNodes.{first_gate_set, first_leaf}

-- ---- from nodes to a table, and back

-- a literal's edge has that literal
literal-back : (e : ℕ) → literal_of (edge_from e) ≡ e
literal-back e = by_test (e % 2 == 1) refl
  where
    by_test : (t : Bool) → (e % 2 == 1) ≡ t → 2 * (e / 2) + cond t 1 0 ≡ e
    by_test true odd = let one = eqb-true (e % 2) 1 odd in omega arith
    by_test false even = let other = eqb-false (e % 2) 1 even in omega arith

-- the kind of a gate, from its operands
gate-back : (v a b : ℕ)
    → kind_of_operands v (gate_in (and_of (edge_from a) (edge_from b))) ≡ and_of (edge_from a) (edge_from b)
gate-back v a b = elim (and_of-cases (edge_from a) (edge_from b)) [
  | inl c ↦ rw c.0 (kind-falling v (record { rhs0 = literal_of (edge_from b); rhs1 = literal_of (edge_from a) }) ∙ rw (literal-back a, literal-back b) (and_of-turned (edge_from b) (edge_from a) ∙ c.0))
  | inr c ↦ rw c.0 (kind-falling v (record { rhs0 = literal_of (edge_from a); rhs1 = literal_of (edge_from b) }) ∙ rw (literal-back a, literal-back b) c.0)
]

node-back : (gates : List GateLine) (v : ℕ)
    → node_in v (gate_in (kind_among gates v)) ≡ node_from gates v
node-back gates v = ap (λ (kind : AigNodeType). let node : AigNode = record { node_id = v; typ = kind } in node) (by_zero (v == 0) refl)
  where
    by_gate : (v == 0) ≡ false → (o : Option GateLine)
        → kind_of_operands v (gate_in (kind_of_line o)) ≡ kind_of_line o
    by_gate some None = rw some refl
    by_gate some (Some g) = gate-back v g.rhs0 g.rhs1

    by_zero : (t : Bool) → (v == 0) ≡ t
        → kind_of_operands v (gate_in (cond t False (kind_of_line (gate_among gates v)))) ≡ cond t False (kind_of_line (gate_among gates v))
    by_zero true nought = rw nought refl
    by_zero false some = by_gate some (gate_among gates v)

-- the table of nodes tells them
nodes-back : (gates : List GateLine) (n v : ℕ)
    → nodes_in_from v (map (λ node. gate_in node.typ) (nodes_in_row gates n v)) ≡ nodes_in_row gates n v
nodes-back gates zero v = refl
nodes-back gates (suc n) v = rw (node-back gates v, nodes-back gates n (v + 1)) refl

-- the variables of operands are below 2^31
abbrev pub HasSmall : AigNode → Type 0
HasSmall node = IfAnd node.typ (λ id. id < 2 ^ 31)

small_gate : (a b : ℕ) → a < 2 ^ 32 → b < 2 ^ 32
    → IfAnd (and_of (edge_from a) (edge_from b)) (λ id. id < 2 ^ 31)
small_gate a b first second = elim (and_of-cases (edge_from a) (edge_from b)) [
  | inl c ↦ rw c.0 (omega arith, omega arith)
  | inr c ↦ rw c.0 (omega arith, omega arith)
]

small_node : (gates : List GateLine) → AllByRecursion HasWords gates → (v : ℕ)
    → HasSmall (node_from gates v)
small_node gates words v = by_zero (v == 0)
  where
    by_gate : (o : Option GateLine) → gate_among gates v ≡ o
        → IfAnd (kind_of_line o) (λ id. id < 2 ^ 31)
    by_gate None is = tt
    by_gate (Some g) is = let w = (find_some HasWords (λ (h : GateLine). h.lhs / 2 == v) gates g words is).1 in small_gate g.rhs0 g.rhs1 w.0 w.1

    by_zero : (t : Bool)
        → IfAnd (cond t False (kind_of_line (gate_among gates v))) (λ id. id < 2 ^ 31)
    by_zero true = tt
    by_zero false = by_gate (gate_among gates v) refl

pub small_nodes : (gates : List GateLine) (rising : InOrder) → AreInOrder gates rising
    → AreFirstNodes gates rising.nodes.items → All HasSmall rising.nodes.items
small_nodes gates rising h nodes = subst (All HasSmall) (sym nodes.placed) (All-map HasSmall (node_from gates) (numbers_from (length rising.nodes.items) 0) (λ i d low. small_node gates h.words _))

-- ---- entries

pub nodes_in-push : (v : ℕ) (xs : List (Option Operands)) (e : Option Operands)
    → nodes_in_from v (xs ++ e ∷ []) ≡ nodes_in_from v xs ++ node_in (v + length xs) e ∷ []
nodes_in-push v [] e = let same : v ≡ v + 0 = omega arith in ap (λ (w : ℕ). node_in w e ∷ []) same
nodes_in-push v (x ∷ xs) e =
    let same : v + 1 + length xs ≡ v + suc (length xs) = omega arith in
    ap (λ (ns : List AigNode). node_in v x ∷ ns) (nodes_in-push (v + 1) xs e ∙ ap (λ (w : ℕ). nodes_in_from (v + 1) xs ++ node_in w e ∷ []) same)

pub nodes_in-set : (v : ℕ) (xs : List (Option Operands)) (i : ℕ) (e : Option Operands)
    → nodes_in_from v (set xs i e) ≡ set (nodes_in_from v xs) i (node_in (v + i) e)
nodes_in-set v [] i e = refl
nodes_in-set v (x ∷ xs) zero e = let same : v ≡ v + 0 = omega arith in ap (λ (w : ℕ). node_in w e ∷ nodes_in_from (v + 1) xs) same
nodes_in-set v (x ∷ xs) (suc i) e =
    let same : v + 1 + i ≡ v + suc i = omega arith in
    ap (λ (ns : List AigNode). node_in v x ∷ ns) (nodes_in-set (v + 1) xs i e ∙ ap (λ (w : ℕ). set (nodes_in_from (v + 1) xs) i (node_in w e)) same)

-- entries without a gate tell leaves
pub more_entries : (gates : List GateLine) (k : ℕ) (xs : List (Option Operands))
    → AreFirstNodes gates (nodes_in xs) → AreFirstNodes gates (nodes_in (xs ++ replicate k None))
more_entries gates zero xs h = rw (append-nil xs) h
more_entries gates (suc k) xs h =
    let size = length-nodes_in xs in
    let some = h.some in
    let positive : length xs ≢ 0 = omega (arith, some, size) in
    let here : 0 + length xs ≡ length (nodes_in xs) = omega (arith, size) in
    let leaf : node_in (0 + length xs) None ≡ record { node_id = length (nodes_in xs); typ = Leaf } = ap (λ (w : ℕ). node_in w None) here ∙ rw (ne_eqb (length (nodes_in xs)) 0 (λ e. positive (sym size ∙ e))) refl in
    let one = first_leaf gates (nodes_in xs) (node_in (0 + length xs) None) h leaf in
    subst (λ (ys : List (Option Operands)). AreFirstNodes gates (nodes_in ys)) (append_assoc xs (None ∷ []) (replicate k None))
    (more_entries gates k (xs ++ None ∷ []) (subst (AreFirstNodes gates) (sym (nodes_in-push 0 xs None)) one))

-- a gate in the place of its variable
pub put_entry : (gates : List GateLine) (lhs : ℕ) (operands : Operands)
    (gate : Option Operands) (xs : List (Option Operands))
    → gate ≡ Some (falling operands)
    → AreFirstNodes gates (nodes_in xs) → IsNewAmong (literals_of gates) lhs → 2 ≤ lhs
    → lhs / 2 < length xs
    → AreFirstNodes (gates ++ line_of lhs operands ∷ []) (nodes_in (set xs (lhs / 2) gate))
put_entry gates lhs operands gate xs is h new own low =
    let g = line_of lhs operands in
    let here : 0 + lhs / 2 ≡ lhs / 2 = omega arith in
    let kind = ap (kind_of_operands (lhs / 2)) is ∙ kind-falling (lhs / 2) operands in
    let sets = nodes_in-set 0 xs (lhs / 2) gate ∙ ap (λ (w : ℕ). set (nodes_in xs) (lhs / 2) (node_in w gate)) here ∙ ap (λ (typ : AigNodeType). let node : AigNode = record { node_id = lhs / 2; typ = typ } in set (nodes_in xs) (lhs / 2) node) kind in
    subst (AreFirstNodes (gates ++ g ∷ [])) (sym sets) (first_gate_set gates (nodes_in xs) g h own new (omega (arith, low, length-nodes_in xs)))

-- the table of the nodes of gates tells them
pub table-back : (gates : List GateLine) (nodes : List AigNode) → AreFirstNodes gates nodes
    → nodes_in (map (λ node. gate_in node.typ) nodes) ≡ nodes
table-back gates nodes h = ap (λ (ns : List AigNode). nodes_in (map (λ (node : AigNode). gate_in node.typ) ns)) h.placed ∙ nodes-back gates (length nodes) 0 ∙ sym h.placed
