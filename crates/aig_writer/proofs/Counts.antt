-- The counts of a header.
use Rattle.aig_base.proofs.Words.{◌≡◌, ◌≢◌, ℕ, ◌-◌, ◌+◌, ◌<◌, ◌≤◌, List, [], ◌∷◌, ◌++◌, Bool, true, false, length, take, drop, get_or, refl, sym, ap, ◌∙◌, arith, cond, cons_option, filter_map-append, take_more, ne_eqb}
use Rattle.std.specs.Prelude.{if◌then◌else◌, filter_map, is_some, IsTrue, ◌↔◌, suc, Option, Some, None}
use Rattle.std.proofs.lemmas.List.{length-append}
use Rattle.aig_circuit.specs.declared.node.AigNode.{AigNode}
use Rattle.aig_circuit.specs.declared.edge.AigEdge.{AigEdge}
use Rattle.aig_circuit.specs.declared.node.AigNodeType.{AigNodeType}
use Rattle.aig_circuit.specs.declared.node.AigNodeType.TheVariants.{False, Leaf, And}
use Rattle.aig_circuit.specs.Node.{IsAnd}
use Rattle.aig_format.proofs.Words.{GateLine, File, header_of, magic, numbers_in, gate_line}
use Rattle.aig_format.specs.Written.{in_front, shortened, line_text, header_line_of}

-- a 0 at the end is left out
shortened-zero : (ns : List ℕ) → shortened (ns ++ 0 ∷ []) ≡ shortened ns
shortened-zero [] = refl
shortened-zero (n ∷ ns) = ap (in_front n) (shortened-zero ns)

in_front-some : (n : ℕ) (ms : List ℕ) (m : ℕ) → in_front n (ms ++ m ∷ []) ≡ n ∷ (ms ++ m ∷ [])
in_front-some n [] m = refl
in_front-some n (k ∷ ms) m = refl

-- a number but 0 at the end is not
shortened-some : (ns : List ℕ) (n : ℕ) → n ≢ 0 → shortened (ns ++ n ∷ []) ≡ ns ++ n ∷ []
shortened-some [] n h = ap (λ b. cond b [] (n ∷ [])) (ne_eqb n 0 h)
shortened-some (m ∷ ns) n h = ap (in_front m) (shortened-some ns n h) ∙ in_front-some m ns n

take_last : (ns : List ℕ) (count : ℕ) → 0 < count → count ≤ length ns → take count ns ≡ take (count - 1) ns ++ get_or ns (count - 1) 0 ∷ []
take_last ns count h within =
    (let e : count ≡ count - 1 + 1 = omega arith in ap (λ k. take k ns) e ∙ take_more ns (count - 1) 0 (omega arith))

pub shortened-without : (ns : List ℕ) (count : ℕ) → 0 < count → count ≤ length ns → get_or ns (count - 1) 0 ≡ 0 → shortened (take (count - 1) ns) ≡ shortened (take count ns)
shortened-without ns count h within zero =
    sym (shortened-zero (take (count - 1) ns)) ∙ ap (λ n. shortened (take (count - 1) ns ++ n ∷ [])) (sym zero) ∙ ap shortened (sym (take_last ns count h within))

pub shortened-whole : (ns : List ℕ) (count : ℕ) → 0 < count → count ≤ length ns → get_or ns (count - 1) 0 ≢ 0 → shortened (take count ns) ≡ take count ns
shortened-whole ns count h within some =
    ap shortened (take_last ns count h within) ∙ shortened-some (take (count - 1) ns) (get_or ns (count - 1) 0) some ∙ sym (take_last ns count h within)

-- ---- gates

abbrev pub is_gate : AigNode → Bool
is_gate node = is_some (gate_line node)

-- whether a node is a gate
is_and-gate : (node : AigNode) (r : Bool) → (IsTrue r ↔ IsAnd node) → r ≡ is_gate node
is_and-gate node r both = by_kind node.typ r both
  where
    by_kind : (typ : AigNodeType) (r : Bool) → (IsTrue r ↔ ((a b : AigEdge) × (typ ≡ And a b))) → r ≡ is_gate (record { node_id = node.node_id; typ = typ })
    by_kind (And a b) true both = refl
    by_kind (And a b) false both = let wrong = both.1 (a, b, refl) in cc
    by_kind Leaf true both = let (a, b, wrong) = both.0 refl in cc
    by_kind Leaf false both = refl
    by_kind False true both = let (a, b, wrong) = both.0 refl in cc
    by_kind False false both = refl

-- how many gates there are after one more node
pub gates-turn : (nodes : List AigNode) (i : ℕ) (d : AigNode) (r : Bool) → i < length nodes → (IsTrue r ↔ IsAnd (get_or nodes i d))
    → length (filter_map gate_line (take (i + 1) nodes)) ≡ length (filter_map gate_line (take i nodes)) + (if r then 1 else 0)
gates-turn nodes i d r h both =
    let before = filter_map gate_line (take i nodes) in
    let node = get_or nodes i d in
    ap (λ ns. length (filter_map gate_line ns)) (take_more nodes i d h) ∙ ap length (filter_map-append gate_line (take i nodes) (node ∷ []))
    ∙ length-append before (filter_map gate_line (node ∷ [])) ∙ ap (λ n. length before + n) (one (gate_line node) ∙ ap (λ b. if b then 1 else 0) (sym (is_and-gate node r both)))
  where
    one : (o : Option GateLine) → length (cons_option o []) ≡ (if is_some o then 1 else 0)
    one None = refl
    one (Some g) = refl

-- ---- the numbers of a header

-- five, and of the others those that are written
take-five : (m i l o a : ℕ) (rest : List ℕ) (k : ℕ) → take k rest ≡ shortened rest → take (5 + k) (m ∷ i ∷ l ∷ o ∷ a ∷ rest) ≡ m ∷ i ∷ l ∷ o ∷ a ∷ shortened rest
take-five m i l o a rest k h =
    (let five : 5 + k ≡ suc (suc (suc (suc (suc k)))) = omega arith in ap (λ n. take n (m ∷ i ∷ l ∷ o ∷ a ∷ rest)) five)
    ∙ ap (λ ns. m ∷ i ∷ l ∷ o ∷ a ∷ ns) h

pub header_text : (f : File) (k : ℕ) (numbers : List ℕ) → numbers ≡ numbers_in (header_of f) → take k (take 4 (drop 5 numbers)) ≡ shortened (take 4 (drop 5 numbers))
    → header_line_of f ≡ magic f.kind ++ line_text (take (5 + k) numbers)
header_text f k numbers same h =
    ap (λ ns. magic f.kind ++ line_text ns) (sym (take-five f.greatest (length f.inputs) (length f.latches) (length f.properties.outputs) (length f.gates) _ k (rw same at h)) ∙ ap (take (5 + k)) (sym same))
