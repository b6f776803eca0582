-- What the clauses of a circuit say together.
use Rattle.aig_base.proofs.Words.{◌≡◌, ℕ, ◌<◌, Bool, true, false, not, ◌&&◌, ◌||◌, Some, List, [], ◌∷◌, get_or, IsTrue, cond, refl, sym, ap, subst, ◌∙◌, arith, inl, inr, All, option_to_list, slice_get, flat_map, All-head, All-map, All-tail, All-weaker, cases_eq, not-true, slice_get-get_or, slice_get_within, get_or_from_slice_get}
use Rattle.aig_base.specs.declared.logic.literal.Lit.{Lit}
use Rattle.aig_base.specs.Clauses.{are_true, lit_to, literal_value, Satisfies}
use Rattle.aig_base.proofs.Literals.{literal_value-lit_to}
use Rattle.aig_circuit.specs.declared.edge.AigEdge.{AigEdge}
use Rattle.aig_circuit.specs.declared.node.AigNodeType.{AigNodeType}
use Rattle.aig_circuit.specs.declared.node.AigNodeType.TheVariants.{False, Leaf, And}
use Rattle.aig_circuit.specs.declared.node.AigLatch.{AigLatch}
use Rattle.aig_circuit.specs.declared.node.AigNode.{AigNode}
use Rattle.aig_circuit.proofs.Words.{inverted_if, kind_at, node_value, edge_value, Circuit, IsCircuit, ReferTo, latch_edges, property_edges, roots_of, root, step}
use Rattle.aig_circuit.proofs.Listed.{AllProperties-entries_of}
use Rattle.aig_circuit.proofs.Lists.{All-first, All-flat_map, All-from_flat_map, All-second}
use Rattle.aig_circuit.proofs.Trees.{by_smaller, kind_at-there, node_value-false, node_value-leaf}
use Rattle.aig_cnf.specs.declared.form.Form.{Form}
use Rattle.aig_cnf.specs.declared.form.Form.TheVariants.{AndOf, XorOf, IteOf}
use Rattle.aig_cnf.specs.Cnf.{edge_in, form_value, clauses_of, HasForm, plain, xor, ite, other, IsXor, IsIte, NeedsClauses, edges_of_form, HasClauses, IsFixed, FixesRoots, NodeValuesSatisfy}
use Rattle.aig_circuit.proofs.Marking.{each_named}
use Rattle.aig_cnf.proofs.Forms.{clauses-say, node_value-HasForm}
use Rattle.aig_cnf.proofs.Needing.{named_below, needed_within, roots_in_range}

-- two truth values are the same where that is not refuted
stable : (a b : Bool) → ¬ ¬ (a ≡ b) → a ≡ b
stable true true h = refl
stable true false h = absurd (h (λ e. cc))
stable false true h = absurd (h (λ e. cc))
stable false false h = refl

-- a gate has some form: that it has none is refuted
has_form : (nodes : List AigNode) (optimize : Bool) (n : ℕ) (a b : AigEdge) → kind_at nodes n ≡ Some (And a b) → ¬ ((form : Form) → ¬ HasForm nodes optimize n form)
has_form nodes false n a b is none = none (AndOf a b) (plain is refl)
has_form nodes true n a b is none =
    let no_xor : (x y : AigEdge) → ¬ IsXor nodes a b x y = λ x y f. none (XorOf x y) (xor is refl f) in
    let no_ite : (c t e : AigEdge) → ¬ IsIte nodes a b c t e = λ c t e f. none (IteOf c t e) (ite is refl no_xor f) in
    none (AndOf a b) (other is refl no_xor no_ite)

-- the same value of every node that a form names gives the same value of the form
form_value-agrees : (v w : ℕ → Bool) (form : Form) → All (λ e. edge_in v e ≡ edge_in w e) (edges_of_form form) → form_value v form ≡ form_value w form
form_value-agrees v w (AndOf a b) all =
    let first : edge_in v a ≡ edge_in w a = all 0 a (omega arith) in
    let second : edge_in v b ≡ edge_in w b = all 1 a (omega arith) in
    ap (λ u. u && edge_in v b) first ∙ ap (λ u. edge_in w a && u) second
form_value-agrees v w (XorOf x y) all =
    let first : edge_in v x ≡ edge_in w x = all 0 x (omega arith) in
    let second : edge_in v y ≡ edge_in w y = all 1 x (omega arith) in
    ap (λ u. cond u (not (edge_in v y)) (edge_in v y)) first ∙ ap (λ u. cond (edge_in w x) (not u) u) second
form_value-agrees v w (IteOf c t e) all =
    let first : edge_in v c ≡ edge_in w c = all 0 c (omega arith) in
    let second : edge_in v t ≡ edge_in w t = all 1 c (omega arith) in
    let third : edge_in v e ≡ edge_in w e = all 2 c (omega arith) in
    ap (λ u. cond u (edge_in v t) (edge_in v e)) first ∙ ap (λ u. cond (edge_in w c) u (edge_in v e)) second ∙ ap (λ u. cond (edge_in w c) (edge_in w t) u) third

-- the clauses at a place are true
true_at : (v : ℕ → Bool) (lists : List (List (List Lit))) (n : ℕ) (clauses : List (List Lit)) → Satisfies v lists → slice_get lists n ≡ Some clauses → IsTrue (are_true v clauses)
true_at v lists n clauses sat is =
    subst (λ (cs : List (List Lit)). IsTrue (are_true v cs)) (get_or_from_slice_get lists n clauses [] is) (sat n [] (slice_get_within lists n clauses is))

-- edges whose nodes have the circuit's values have them too
edges_agree : (nodes : List AigNode) (v : ℕ → Bool) (es : List AigEdge) → ((n : ℕ) → ReferTo es n → v n ≡ node_value nodes v n) → All (λ e. edge_in v e ≡ edge_value nodes v e) es
edges_agree nodes v es same k d h = ap (inverted_if (get_or es k d).compl) (each_named (λ n. v n ≡ node_value nodes v n) es same k d h)

-- unit clauses say that a variable is false
unit_says : (a : Bool) → IsTrue ((a || false) && true) → a ≡ true
unit_says true h = refl
unit_says false h = cc

zero_is_false : (v : ℕ → Bool) → IsTrue (are_true v ((lit_to 0 false ∷ []) ∷ [])) → v 0 ≡ false
zero_is_false v h = not-true (v 0) (sym (literal_value-lit_to v 0 false) ∙ unit_says (literal_value v (lit_to 0 false)) h)

false_is_true : (v : ℕ → Bool) → v 0 ≡ false → are_true v ((lit_to 0 false ∷ []) ∷ []) ≡ true
false_is_true v h = ap (λ u. (u || false) && true) (literal_value-lit_to v 0 false ∙ ap not h)

-- a node that needs clauses has its value by the values of leaves, where those of its operands do
needed_has_value : (c : Circuit) (optimize : Bool) (lists : List (List (List Lit))) → IsCircuit c → HasClauses c optimize lists → (v : ℕ → Bool) → Satisfies v lists → (n : ℕ) → ((m : ℕ) → m < n → NeedsClauses c.nodes optimize (roots_of c) m → v m ≡ node_value c.nodes v m) → NeedsClauses c.nodes optimize (roots_of c) n → v n ≡ node_value c.nodes v n
needed_has_value c optimize lists is has v sat n below needed =
    let there = kind_at-there c.nodes n (needed_within c.nodes is.nodes.ordered optimize (roots_of c) (roots_in_range c is) n needed) in
    by there.0 there.1
  where
    gate : (form : Form) → HasForm c.nodes optimize n form → v n ≡ node_value c.nodes v n
    gate form f =
        let says = (clauses-say v n form).0 (true_at v lists n (clauses_of n form) sat (has.needed n form needed f)) in
        let same : (m : ℕ) → ReferTo (edges_of_form form) m → v m ≡ node_value c.nodes v m = λ m named.
        below m (named_below c.nodes is.nodes.ordered optimize n m (form, f, named)) (step needed (form, f, named)) in
        says ∙ form_value-agrees v (node_value c.nodes v) form (edges_agree c.nodes v (edges_of_form form) same) ∙ sym (node_value-HasForm c.nodes is.nodes.ordered optimize v n form f)

    by : (k : AigNodeType) → kind_at c.nodes n ≡ Some k → v n ≡ node_value c.nodes v n
    by False e =
        let here : n ≡ 0 = is.nodes.false_once n e in
        ap v here ∙ zero_is_false v (true_at v lists 0 _ sat has.zero) ∙ sym (node_value-false c.nodes v n e)
    by Leaf e = sym (node_value-leaf c.nodes v n e)
    by (And a b) e = stable (v n) (node_value c.nodes v n) (λ differ. has_form c.nodes optimize n a b e (λ form f. differ (gate form f)))

-- the value of every root is fixed
pub roots_fixed : (c : Circuit) (optimize : Bool) (lists : List (List (List Lit))) → IsCircuit c → HasClauses c optimize lists → All (IsFixed c lists) (roots_of c)
roots_fixed c optimize lists is has k d h v sat =
    let fixed = by_smaller (λ n. NeedsClauses c.nodes optimize (roots_of c) n → v n ≡ node_value c.nodes v n) (needed_has_value c optimize lists is has v sat) in
    edges_agree c.nodes v (roots_of c) (λ n named. fixed n (root named)) k d h

-- and so that of every edge of each list
FixesRoots-roots : (c : Circuit) (lists : List (List (List Lit))) → All (IsFixed c lists) (roots_of c) → FixesRoots c lists
FixesRoots-roots c lists all =
    let P = IsFixed c lists in
    let latches = flat_map latch_edges c.latchs in
    let each : All (λ latch. All P (latch_edges latch)) c.latchs = All-from_flat_map P latch_edges c.latchs (All-second P (property_edges c) latches all) in
    record {
      properties = AllProperties-entries_of P c.properties (All-first P (property_edges c) latches all);
      next = All-map P (λ (latch : AigLatch). latch.next) c.latchs (All-weaker (λ latch. All P (latch_edges latch)) (λ latch. P latch.next) (λ latch h. All-head P latch.next (option_to_list latch.init) h) c.latchs each);
      initial = All-flat_map P (λ (latch : AigLatch). option_to_list latch.init) c.latchs (All-weaker (λ latch. All P (latch_edges latch)) (λ latch. All P (option_to_list latch.init)) (λ latch h. All-tail P latch.next (option_to_list latch.init) h) c.latchs each);
    }

pub clauses_fix : (c : Circuit) (optimize : Bool) (lists : List (List (List Lit))) → IsCircuit c → HasClauses c optimize lists → FixesRoots c lists
clauses_fix c optimize lists is has = FixesRoots-roots c lists (roots_fixed c optimize lists is has)

pub node_values_satisfy : (c : Circuit) (optimize : Bool) (lists : List (List (List Lit))) → IsCircuit c → HasClauses c optimize lists → NodeValuesSatisfy c lists
node_values_satisfy c optimize lists is has x k d h = elim (cases_eq k 0) [
  | inl e ↦ (
      let zero : get_or lists k d ≡ (lit_to 0 false ∷ []) ∷ [] = get_or_from_slice_get lists k _ d (subst (λ m. slice_get lists m ≡ Some ((lit_to 0 false ∷ []) ∷ [])) (sym e) has.zero) in
      rw zero (false_is_true values (node_value-false c.nodes x 0 is.nodes.false_first)))
  | inr ne ↦ stable (are_true values (get_or lists k d)) true (λ no.
      let none : get_or lists k d ≡ [] = has.none k (get_or lists k d) ne (λ form p. no (with_form form p.0 p.1)) (slice_get-get_or lists k d h) in
      no (rw none refl))
]
  where
    values : ℕ → Bool
    values = node_value c.nodes x

    with_form : (form : Form) → NeedsClauses c.nodes optimize (roots_of c) k → HasForm c.nodes optimize k form → are_true values (get_or lists k d) ≡ true
    with_form form needed f =
        let here : get_or lists k d ≡ clauses_of k form = get_or_from_slice_get lists k (clauses_of k form) d (has.needed k form needed f) in
        rw here ((clauses-say values k form).1 (node_value-HasForm c.nodes is.nodes.ordered optimize x k form f))
