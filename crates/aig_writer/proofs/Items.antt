-- The sections of a file as a text for each entry of a list.
use Rattle.aig_base.proofs.Words.{◌≡◌, ℕ, List, [], ◌∷◌, ◌++◌, ◌*◌, length, map, refl, sym, ap, ◌∙◌, append-nil, Option, Some, None, true, false, cond, inl, inr, arith, cons_option, flat_map, cases_lt, nat_tests, flat_map-map}
use Rattle.std.specs.Prelude.{filter_map, max, min, nat_lt, option_to_list, Vec, vec_len}
use Rattle.std.specs.declared.alloc.Global.{Global}
use Rattle.aig_circuit.specs.declared.edge.AigEdge.{AigEdge}
use Rattle.aig_circuit.specs.declared.node.AigNode.{AigNode}
use Rattle.aig_circuit.specs.declared.node.AigLatch.{AigLatch}
use Rattle.aig_circuit.specs.declared.node.AigNodeType.{AigNodeType}
use Rattle.aig_circuit.specs.declared.node.AigNodeType.TheVariants.{False, Leaf, And}
use Rattle.aig_circuit.proofs.Words.{literal_of, and_of, renumbered_edge, renumbered_kind, renumbered_latch}
use Rattle.aig_format.proofs.Words.{GateLine, line_text, lines_text, latch_text, gate_text, latch_line, gate_line}
use Rattle.aig_format.specs.declared.FileKind.{FileKind}
use Rattle.aig_writer.specs.TextParts.{edges_of_sets}
use Rattle.aig_writer.specs.Numbering.{renumbered_node}

abbrev pub input_line : ℕ → List ℕ
input_line n = line_text (2 * n ∷ [])

abbrev pub edge_line : AigEdge → List ℕ
edge_line e = line_text (literal_of e ∷ [])

abbrev pub text_of_latch : FileKind → AigLatch → List ℕ
text_of_latch kind latch = latch_text kind (latch_line latch)

abbrev pub size_line : Vec AigEdge Global → List ℕ
size_line set = line_text (length set.items ∷ [])

abbrev pub text_of_gate : FileKind → AigNode → List ℕ
text_of_gate kind node = flat_map (gate_text kind) (option_to_list (gate_line node))

pub input_lines : (ns : List ℕ) → lines_text (map (λ n. 2 * n) ns) ≡ flat_map input_line ns
input_lines ns = flat_map-map (λ n. line_text (n ∷ [])) (λ n. 2 * n) ns

pub edge_lines : (es : List AigEdge) → lines_text (map literal_of es) ≡ flat_map edge_line es
edge_lines es = flat_map-map (λ n. line_text (n ∷ [])) literal_of es

pub latch_texts : (kind : FileKind) (latchs : List AigLatch)
    → flat_map (latch_text kind) (map latch_line latchs) ≡ flat_map (text_of_latch kind) latchs
latch_texts kind latchs = flat_map-map (latch_text kind) latch_line latchs

pub len_is : (set : Vec AigEdge Global) → vec_len set ≡ length set.items
len_is set = set.ok.0

flat_map-filter_map : {X Y : Type 0} (f : Y → List ℕ) (h : X → Option Y) (xs : List X)
    → flat_map f (filter_map h xs) ≡ flat_map (λ x. flat_map f (option_to_list (h x))) xs
flat_map-filter_map f h [] = refl
flat_map-filter_map f h (x ∷ xs) = by_option f (h x) (filter_map h xs) ∙ ap (λ l. flat_map f (option_to_list (h x)) ++ l) (flat_map-filter_map f h xs)
  where
    by_option : {Y : Type 0} (f : Y → List ℕ) (o : Option Y) (ys : List Y)
        → flat_map f (cons_option o ys) ≡ flat_map f (option_to_list o) ++ flat_map f ys
    by_option f None ys = refl
    by_option f (Some y) ys = ap (λ l. l ++ flat_map f ys) (sym (append-nil (f y)))

pub gate_texts : (kind : FileKind) (nodes : List AigNode)
    → flat_map (gate_text kind) (filter_map gate_line nodes) ≡ flat_map (text_of_gate kind) nodes
gate_texts kind nodes = flat_map-filter_map (gate_text kind) gate_line nodes

-- ---- entries under other numbers

pub numbered_inputs : (number : ℕ → ℕ) (ns : List ℕ)
    → lines_text (map (λ n. 2 * n) (map number ns)) ≡ flat_map (λ n. input_line (number n)) ns
numbered_inputs number ns = input_lines (map number ns) ∙ flat_map-map input_line number ns

pub numbered_edges : (number : ℕ → ℕ) (es : List AigEdge)
    → lines_text (map literal_of (map (renumbered_edge number) es))
    ≡ flat_map (λ e. edge_line (renumbered_edge number e)) es
numbered_edges number es = edge_lines (map (renumbered_edge number) es) ∙ flat_map-map edge_line (renumbered_edge number) es

pub numbered_latches : (number : ℕ → ℕ) (kind : FileKind) (latchs : List AigLatch)
    → flat_map (latch_text kind) (map latch_line (map (renumbered_latch number) latchs))
    ≡ flat_map (λ l. text_of_latch kind (renumbered_latch number l)) latchs
numbered_latches number kind latchs = latch_texts kind (map (renumbered_latch number) latchs) ∙ flat_map-map (text_of_latch kind) (renumbered_latch number) latchs

pub numbered_gates : (number : ℕ → ℕ) (kind : FileKind) (nodes : List AigNode)
    → flat_map (gate_text kind) (filter_map gate_line (map (renumbered_node number) nodes))
    ≡ flat_map (λ node. text_of_gate kind (renumbered_node number node)) nodes
numbered_gates number kind nodes = gate_texts kind (map (renumbered_node number) nodes) ∙ flat_map-map (text_of_gate kind) (renumbered_node number) nodes

-- the lines of a set under other numbers
abbrev pub numbered_set : (ℕ → ℕ) → Vec AigEdge Global → List ℕ
numbered_set number set = lines_text (map literal_of (map (renumbered_edge number) set.items))

pub numbered_sets : (number : ℕ → ℕ) (sets : List (Vec AigEdge Global))
    → flat_map lines_text
    (map (map literal_of) (map (map (renumbered_edge number)) (edges_of_sets sets)))
    ≡ flat_map (numbered_set number) sets
numbered_sets number [] = refl
numbered_sets number (set ∷ sets) = ap (λ l. numbered_set number set ++ l) (numbered_sets number sets)

pub set_sizes : (sets : List (Vec AigEdge Global))
    → lines_text (map length (edges_of_sets sets)) ≡ flat_map size_line sets
set_sizes [] = refl
set_sizes (set ∷ sets) = ap (λ l. size_line set ++ l) (set_sizes sets)

-- ---- a gate

-- the greater literal of its operands comes first
gate_ordered : (n : ℕ) (x y : AigEdge) → gate_line (record { node_id = n; typ = and_of x y }) ≡ Some (record { lhs = 2 * n; rhs0 = max (literal_of x) (literal_of y); rhs1 = min (literal_of x) (literal_of y) })
gate_ordered n x y = elim (cases_lt (literal_of y) (literal_of x)) [
  | inl less ↦ (
      let test : nat_lt (literal_of y) (literal_of x) ≡ true = grind (arith, nat_tests) in
      let greater : literal_of x ≡ max (literal_of x) (literal_of y) = omega arith in
      let lesser : literal_of y ≡ min (literal_of x) (literal_of y) = omega arith in
      ap (λ b. gate_line (record { node_id = n; typ = cond b (And y x) (And x y) })) test ∙ (λ i. Some (record { lhs = 2 * n; rhs0 = greater i; rhs1 = lesser i })))
  | inr no_less ↦ (
      let test : nat_lt (literal_of y) (literal_of x) ≡ false = grind (arith, nat_tests) in
      let greater : literal_of y ≡ max (literal_of x) (literal_of y) = omega arith in
      let lesser : literal_of x ≡ min (literal_of x) (literal_of y) = omega arith in
      ap (λ b. gate_line (record { node_id = n; typ = cond b (And y x) (And x y) })) test ∙ (λ i. Some (record { lhs = 2 * n; rhs0 = greater i; rhs1 = lesser i })))
]

pub gate_text-at : (kind : FileKind) (number : ℕ → ℕ) (node : AigNode) (a b : AigEdge) → node.typ ≡ And a b
    → text_of_gate kind (renumbered_node number node)
    ≡ gate_text kind (record { lhs = 2 * number node.node_id; rhs0 = max (literal_of (renumbered_edge number a)) (literal_of (renumbered_edge number b)); rhs1 = min (literal_of (renumbered_edge number a)) (literal_of (renumbered_edge number b)) })
gate_text-at kind number node a b is =
    ap (λ typ. text_of_gate kind (record { node_id = number node.node_id; typ = renumbered_kind number (Some typ) })) is
    ∙ ap (λ (o : Option GateLine). flat_map (gate_text kind) (option_to_list o)) (gate_ordered (number node.node_id) (renumbered_edge number a) (renumbered_edge number b)) ∙ append-nil _

-- another node has no text
pub other_text : (kind : FileKind) (number : ℕ → ℕ) (node : AigNode)
    → ((a b : AigEdge) → ¬ (node.typ ≡ And a b))
    → text_of_gate kind (renumbered_node number node) ≡ []
other_text kind number node other = by_kind node.typ other
  where
    by_kind : (typ : AigNodeType) → ((a b : AigEdge) → ¬ (typ ≡ And a b))
        → text_of_gate kind
        (record { node_id = number node.node_id; typ = renumbered_kind number (Some typ) }) ≡ []
    by_kind (And a b) other = absurd (other a b refl)
    by_kind Leaf other = refl
    by_kind False other = refl
