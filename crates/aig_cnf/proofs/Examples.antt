-- Small circuits with gates of each form: their forms, clauses and values.
use Rattle.aig_base.proofs.Words.{◌≡◌, ℕ, Bool, true, false, Some, List, [], ◌∷◌, refl, sym, ap, ◌∙◌, arith, ◌==◌, if◌then◌else◌}
use Rattle.aig_base.specs.Clauses.{lit_to}
use Rattle.aig_circuit.specs.declared.edge.AigEdge.{AigEdge}
use Rattle.aig_circuit.specs.declared.node.AigNodeType.{AigNodeType}
use Rattle.aig_circuit.specs.declared.node.AigNodeType.TheVariants.{False, Leaf, And}
use Rattle.aig_circuit.specs.declared.node.AigNode.{AigNode}
use Rattle.aig_circuit.specs.Edge.{edge_to, inverse}
use Rattle.aig_circuit.specs.Tree.{tree_of, node_value}
use Rattle.aig_cnf.specs.declared.form.Form.TheVariants.{AndOf, XorOf, IteOf}
use Rattle.aig_cnf.specs.Cnf.{HasForm, plain, xor, ite, other, IsXor, Inner, by_0_0, clauses_of}

abbrev node : ℕ → AigNodeType → AigNode
node n kind = record { node_id = n; typ = kind }

-- the values of the leaves 1, 2 and 3
abbrev leaves : Bool → Bool → Bool → ℕ → Bool
leaves a b c n = if n == 1 then a else (if n == 2 then b else (if n == 3 then c else false))

-- the gates 3 = and(1, 2), 4 = and(!1, !2) and 5 = and(!3, !4)
abbrev xor_nodes : List AigNode
xor_nodes =
    node 0 False ∷ node 1 Leaf ∷ node 2 Leaf
    ∷ node 3 (And (edge_to 1 false) (edge_to 2 false)) ∷ node 4 (And (edge_to 1 true) (edge_to 2 true)) ∷ node 5 (And (edge_to 3 true) (edge_to 4 true)) ∷ []

-- gate 5 is the exclusive or of 1 and 2
form-xor : HasForm xor_nodes true 5 (XorOf (edge_to 1 false) (edge_to 2 false))
form-xor = xor refl refl (record {
  first = record { inverted = refl; gate = refl };
  second = record { inverted = refl; gate = refl };
  different = λ (e : 1 ≡ 2). absurd (omega arith);
})

-- it is the and of its operands where forms are not asked for
form-plain : HasForm xor_nodes false 5 (AndOf (edge_to 3 true) (edge_to 4 true))
form-plain = plain refl refl

clauses-xor : clauses_of 5 (XorOf (edge_to 1 false) (edge_to 2 false)) ≡
    (lit_to 5 false ∷ lit_to 1 true ∷ lit_to 2 true ∷ []) ∷ (lit_to 5 false ∷ lit_to 1 false ∷ lit_to 2 false ∷ [])
    ∷ (lit_to 5 true ∷ lit_to 1 false ∷ lit_to 2 true ∷ []) ∷ (lit_to 5 true ∷ lit_to 1 true ∷ lit_to 2 false ∷ []) ∷ []
clauses-xor = refl

clauses-and : clauses_of 3 (AndOf (edge_to 1 false) (edge_to 2 false)) ≡
    (lit_to 3 false ∷ lit_to 1 true ∷ []) ∷ (lit_to 3 false ∷ lit_to 2 true ∷ []) ∷ (lit_to 3 true ∷ lit_to 1 false ∷ lit_to 2 false ∷ []) ∷ []
clauses-and = refl

value-xor_both : node_value xor_nodes (leaves true true false) 5 ≡ false
unfolding node_value tree_of
value-xor_both = refl

value-xor_first : node_value xor_nodes (leaves true false false) 5 ≡ true
unfolding node_value tree_of
value-xor_first = refl

value-xor_second : node_value xor_nodes (leaves false true false) 5 ≡ true
unfolding node_value tree_of
value-xor_second = refl

value-xor_neither : node_value xor_nodes (leaves false false false) 5 ≡ false
unfolding node_value tree_of
value-xor_neither = refl

-- with an operand that is not inverted it is the and of its operands alone: 5 = and(3, !4)
abbrev not_xor_nodes : List AigNode
not_xor_nodes =
    node 0 False ∷ node 1 Leaf ∷ node 2 Leaf
    ∷ node 3 (And (edge_to 1 false) (edge_to 2 false)) ∷ node 4 (And (edge_to 1 true) (edge_to 2 true)) ∷ node 5 (And (edge_to 3 false) (edge_to 4 true)) ∷ []

not_inverted : (e p q : AigEdge) → e.compl ≡ false → ¬ Inner not_xor_nodes e p q
not_inverted e p q is i = let both : false ≡ true = sym is ∙ i.inverted in cc

form-other : HasForm not_xor_nodes true 5 (AndOf (edge_to 3 false) (edge_to 4 true))
form-other = other refl refl (λ x y f. not_inverted (edge_to 3 false) x y refl f.first) (λ c t e f. not_inverted (edge_to 3 false) f.p0 f.p1 refl f.first)

-- the gates 4 = and(1, 2), 5 = and(!1, 3) and 6 = and(!4, !5)
abbrev ite_nodes : List AigNode
ite_nodes =
    node 0 False ∷ node 1 Leaf ∷ node 2 Leaf ∷ node 3 Leaf
    ∷ node 4 (And (edge_to 1 false) (edge_to 2 false)) ∷ node 5 (And (edge_to 1 true) (edge_to 3 false)) ∷ node 6 (And (edge_to 4 true) (edge_to 5 true)) ∷ []

no_xor : (x y : AigEdge) → ¬ IsXor ite_nodes (edge_to 4 true) (edge_to 5 true) x y
no_xor x y f =
    let one : Some (And (edge_to 1 false) (edge_to 2 false)) ≡ Some (And x y) = f.first.gate in
    let two : Some (And (edge_to 1 true) (edge_to 3 false)) ≡ Some (And (inverse x) (inverse y)) = f.second.gate in
    let first : edge_to 2 false ≡ y = cc in
    let second : edge_to 3 false ≡ inverse y = cc in
    let is_two : y.node_id ≡ 2 = sym (ap (λ (e : AigEdge). e.node_id) first) in
    let is_three : y.node_id ≡ 3 = sym (ap (λ (e : AigEdge). e.node_id) second) in
    absurd (omega arith)

-- gate 6 is !2 where 1 is true, and else !3
form-ite : HasForm ite_nodes true 6 (IteOf (edge_to 1 false) (edge_to 2 true) (edge_to 3 true))
form-ite = ite refl refl no_xor (record {
  p0 = edge_to 1 false;
  p1 = edge_to 2 false;
  q0 = edge_to 1 true;
  q1 = edge_to 3 false;
  first = record { inverted = refl; gate = refl };
  second = record { inverted = refl; gate = refl };
  chooses = by_0_0 refl;
  c_t = λ (e : 1 ≡ 2). absurd (omega arith);
  c_e = λ (e : 1 ≡ 3). absurd (omega arith);
  t_e = λ (e : 2 ≡ 3). absurd (omega arith);
})

clauses-ite : clauses_of 6 (IteOf (edge_to 1 false) (edge_to 2 true) (edge_to 3 true)) ≡
    (lit_to 1 false ∷ lit_to 2 true ∷ lit_to 6 true ∷ []) ∷ (lit_to 1 false ∷ lit_to 2 false ∷ lit_to 6 false ∷ [])
    ∷ (lit_to 1 true ∷ lit_to 3 true ∷ lit_to 6 true ∷ []) ∷ (lit_to 1 true ∷ lit_to 3 false ∷ lit_to 6 false ∷ []) ∷ []
clauses-ite = refl

value-ite_then : node_value ite_nodes (leaves true false true) 6 ≡ true
unfolding node_value tree_of
value-ite_then = refl

value-ite_else : node_value ite_nodes (leaves false false true) 6 ≡ false
unfolding node_value tree_of
value-ite_else = refl
