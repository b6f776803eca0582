-- What the clauses of a gate say: that it has the value of its form, which is its value.
use Rattle.aig_base.proofs.Words.{◌≡◌, ℕ, Bool, true, false, not, ◌&&◌, ◌↔◌, Some, List, [], ◌∷◌, IsTrue, cond, refl, sym, ap, ◌∙◌, and-true}
use Rattle.aig_base.specs.Clauses.{literal_value, are_true, with_polarity, lit_to}
use Rattle.aig_base.proofs.Literals.{literal_value-lit_to, are_true-and_clauses, are_true-xor_clauses, are_true-ite_clauses}
use Rattle.aig_circuit.specs.declared.edge.AigEdge.{AigEdge}
use Rattle.aig_circuit.specs.declared.node.AigNodeType.TheVariants.{And}
use Rattle.aig_circuit.specs.declared.node.AigNode.{AigNode}
use Rattle.aig_circuit.proofs.Words.{inverse, inverted_if, lit_of, kind_at, IsOrdered, node_value, edge_value}
use Rattle.aig_circuit.proofs.Joining.{inverted_if-not, edge_value-inverse}
use Rattle.aig_circuit.proofs.Trees.{node_value-and}
use Rattle.aig_cnf.specs.declared.form.Form.{Form}
use Rattle.aig_cnf.specs.declared.form.Form.TheVariants.{AndOf, XorOf, IteOf}
use Rattle.aig_cnf.specs.Cnf.{edge_in, form_value, clauses_of, HasForm, plain, xor, ite, other, IsXor, Inner, Chooses, by_0_0, by_0_1, by_1_0, by_1_1}

-- an edge's literal has the edge's value
pub literal_value-lit_of : (v : ℕ → Bool) (e : AigEdge) → literal_value v (lit_of e) ≡ edge_in v e
literal_value-lit_of v e = literal_value-lit_to v e.node_id (not e.compl) ∙ by e.compl (v e.node_id)
  where
    by : (i b : Bool) → with_polarity (not i) b ≡ inverted_if i b
    by true b = refl
    by false b = refl

-- an edge's inverse has the other value
pub edge_in-inverse : (v : ℕ → Bool) (e : AigEdge) → edge_in v (inverse e) ≡ not (edge_in v e)
edge_in-inverse v e = inverted_if-not e.compl (v e.node_id)

-- the clauses of a form hold exactly where the gate has its form's value
pub clauses-say : (v : ℕ → Bool) (n : ℕ) (form : Form) → IsTrue (are_true v (clauses_of n form)) ↔ (v n ≡ form_value v form)
clauses-say v n (AndOf a b) =
    let says = are_true-and_clauses v (lit_to n true) (lit_of a ∷ lit_of b ∷ []) in
    let left : literal_value v (lit_to n true) ≡ v n = literal_value-lit_to v n true in
    let right : (literal_value v (lit_of a) && (literal_value v (lit_of b) && true)) ≡ form_value v (AndOf a b) =
    ap (λ w. w && (literal_value v (lit_of b) && true)) (literal_value-lit_of v a) ∙ ap (λ w. edge_in v a && (w && true)) (literal_value-lit_of v b) ∙ ap (λ w. edge_in v a && w) (and-true (edge_in v b)) in
    (λ h. sym left ∙ says.0 h ∙ right, λ h. says.1 (left ∙ h ∙ sym right))
clauses-say v n (XorOf x y) =
    let says = are_true-xor_clauses v (lit_to n true) (lit_of x) (lit_of y) in
    let left : literal_value v (lit_to n true) ≡ v n = literal_value-lit_to v n true in
    let right : cond (literal_value v (lit_of x)) (not (literal_value v (lit_of y))) (literal_value v (lit_of y)) ≡ form_value v (XorOf x y) =
    ap (λ w. cond w (not (literal_value v (lit_of y))) (literal_value v (lit_of y))) (literal_value-lit_of v x) ∙ ap (λ w. cond (edge_in v x) (not w) w) (literal_value-lit_of v y) in
    (λ h. sym left ∙ says.0 h ∙ right, λ h. says.1 (left ∙ h ∙ sym right))
clauses-say v n (IteOf c t e) =
    let says = are_true-ite_clauses v (lit_to n true) (lit_of c) (lit_of t) (lit_of e) in
    let left : literal_value v (lit_to n true) ≡ v n = literal_value-lit_to v n true in
    let right : cond (literal_value v (lit_of c)) (literal_value v (lit_of t)) (literal_value v (lit_of e)) ≡ form_value v (IteOf c t e) =
    ap (λ w. cond w (literal_value v (lit_of t)) (literal_value v (lit_of e))) (literal_value-lit_of v c) ∙ ap (λ w. cond (edge_in v c) w (literal_value v (lit_of e))) (literal_value-lit_of v t) ∙ ap (λ w. cond (edge_in v c) (edge_in v t) w) (literal_value-lit_of v e) in
    (λ h. sym left ∙ says.0 h ∙ right, λ h. says.1 (left ∙ h ∙ sym right))

-- if x then !y else y
xor_of_ands : (x y : Bool) → (not (x && y) && not (not x && not y)) ≡ cond x (not y) y
xor_of_ands true true = refl
xor_of_ands true false = refl
xor_of_ands false true = refl
xor_of_ands false false = refl

-- an inverted edge to a gate
inner_value : (nodes : List AigNode) → IsOrdered nodes → (x : ℕ → Bool) (e p q : AigEdge) → Inner nodes e p q → edge_value nodes x e ≡ not (edge_value nodes x p && edge_value nodes x q)
inner_value nodes o x e p q i = rw i.inverted (ap not (node_value-and nodes o x e.node_id p q i.gate))

-- a gate has the value that its form says
form_is-xor : (nodes : List AigNode) → IsOrdered nodes → (v : ℕ → Bool) (n : ℕ) (a b x y : AigEdge) → kind_at nodes n ≡ Some (And a b) → IsXor nodes a b x y → node_value nodes v n ≡ form_value (node_value nodes v) (XorOf x y)
form_is-xor nodes o v n a b x y is f =
    node_value-and nodes o v n a b is
    ∙ ap (λ w. w && edge_value nodes v b) (inner_value nodes o v a x y f.first)
    ∙ ap (λ w. not (edge_value nodes v x && edge_value nodes v y) && w) (inner_value nodes o v b (inverse x) (inverse y) f.second ∙ ap not (ap (λ w. w && edge_value nodes v (inverse y)) (edge_value-inverse nodes v x) ∙ ap (λ w. not (edge_value nodes v x) && w) (edge_value-inverse nodes v y)))
    ∙ xor_of_ands (edge_value nodes v x) (edge_value nodes v y)

-- the four places in which two gates may share an edge, inverted in one of them
choose_0_0 : (p1 q0 q1 : Bool) → (not (not q0 && p1) && not (q0 && q1)) ≡ cond (not q0) (not p1) (not q1)
choose_0_0 p1 true q1 = refl
choose_0_0 true false q1 = refl
choose_0_0 false false q1 = refl

choose_0_1 : (p1 q0 q1 : Bool) → (not (not q1 && p1) && not (q0 && q1)) ≡ cond (not q1) (not p1) (not q0)
choose_0_1 true true true = refl
choose_0_1 true true false = refl
choose_0_1 true false true = refl
choose_0_1 true false false = refl
choose_0_1 false true true = refl
choose_0_1 false true false = refl
choose_0_1 false false true = refl
choose_0_1 false false false = refl

choose_1_0 : (p0 q0 q1 : Bool) → (not (p0 && not q0) && not (q0 && q1)) ≡ cond (not q0) (not p0) (not q1)
choose_1_0 true true q1 = refl
choose_1_0 false true q1 = refl
choose_1_0 true false q1 = refl
choose_1_0 false false q1 = refl

choose_1_1 : (p0 q0 q1 : Bool) → (not (p0 && not q1) && not (q0 && q1)) ≡ cond (not q1) (not p0) (not q0)
choose_1_1 true true true = refl
choose_1_1 true true false = refl
choose_1_1 true false true = refl
choose_1_1 true false false = refl
choose_1_1 false true true = refl
choose_1_1 false true false = refl
choose_1_1 false false true = refl
choose_1_1 false false false = refl

-- two gates that share an edge, inverted in one of them, choose by it
ite_of_inner : (nodes : List AigNode) → (x : ℕ → Bool) (p0 p1 q0 q1 c t e : AigEdge) → Chooses p0 p1 q0 q1 c t e → (not (edge_value nodes x p0 && edge_value nodes x p1) && not (edge_value nodes x q0 && edge_value nodes x q1)) ≡ cond (edge_value nodes x c) (edge_value nodes x t) (edge_value nodes x e)
ite_of_inner nodes x p0 p1 q0 q1 _ _ _ (by_0_0 h) = rw (h, edge_value-inverse nodes x q0, edge_value-inverse nodes x p1, edge_value-inverse nodes x q1) (choose_0_0 (edge_value nodes x p1) (edge_value nodes x q0) (edge_value nodes x q1))
ite_of_inner nodes x p0 p1 q0 q1 _ _ _ (by_0_1 _ h) = rw (h, edge_value-inverse nodes x q1, edge_value-inverse nodes x p1, edge_value-inverse nodes x q0) (choose_0_1 (edge_value nodes x p1) (edge_value nodes x q0) (edge_value nodes x q1))
ite_of_inner nodes x p0 p1 q0 q1 _ _ _ (by_1_0 _ _ h) = rw (h, edge_value-inverse nodes x q0, edge_value-inverse nodes x p0, edge_value-inverse nodes x q1) (choose_1_0 (edge_value nodes x p0) (edge_value nodes x q0) (edge_value nodes x q1))
ite_of_inner nodes x p0 p1 q0 q1 _ _ _ (by_1_1 _ _ _ h) = rw (h, edge_value-inverse nodes x q1, edge_value-inverse nodes x p0, edge_value-inverse nodes x q0) (choose_1_1 (edge_value nodes x p0) (edge_value nodes x q0) (edge_value nodes x q1))

-- a gate has the value that its form says
pub node_value-HasForm : (nodes : List AigNode) → IsOrdered nodes → (optimize : Bool) (v : ℕ → Bool) (n : ℕ) (form : Form) → HasForm nodes optimize n form → node_value nodes v n ≡ form_value (node_value nodes v) form
node_value-HasForm nodes o optimize v n _ (plain {a = a} {b = b} is _) = node_value-and nodes o v n a b is
node_value-HasForm nodes o optimize v n _ (xor {a = a} {b = b} {x = x} {y = y} is _ f) = form_is-xor nodes o v n a b x y is f
node_value-HasForm nodes o optimize v n _ (ite {a = a} {b = b} {c = c} {t = t} {e = e} is _ _ f) =
    node_value-and nodes o v n a b is
    ∙ ap (λ w. w && edge_value nodes v b) (inner_value nodes o v a f.p0 f.p1 f.first)
    ∙ ap (λ w. not (edge_value nodes v f.p0 && edge_value nodes v f.p1) && w) (inner_value nodes o v b f.q0 f.q1 f.second)
    ∙ ite_of_inner nodes v f.p0 f.p1 f.q0 f.q1 c t e f.chooses
node_value-HasForm nodes o optimize v n _ (other {a = a} {b = b} is _ _ _) = node_value-and nodes o v n a b is
