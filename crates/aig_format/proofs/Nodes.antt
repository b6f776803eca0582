-- The nodes of a file's circuit, by their variables.
use Rattle.aig_base.proofs.Words.{◌≡◌, ℕ, zero, suc, ◌+◌, ◌/◌, ◌<◌, ◌≤◌, Bool, true, false, cond, eqb, ◌||◌, List, [], ◌∷◌, length, Option, Some, None, refl, sym, ap, subst, ◌∙◌, arith, ◌==◌, slice_get, AllByRecursion, eqb-true, false≢true, nat_tests, same_Some}
use Rattle.aig_circuit.specs.declared.edge.AigEdge.{AigEdge}
use Rattle.aig_circuit.specs.declared.node.AigNodeType.{AigNodeType}
use Rattle.aig_circuit.specs.declared.node.AigNodeType.TheVariants.{False, Leaf, And}
use Rattle.aig_circuit.specs.declared.node.AigNode.{AigNode}
use Rattle.aig_circuit.proofs.Words.{literal_of, AreNodes, position_of}
use Rattle.aig_circuit.specs.Node.{kind_at, and_of, IsOrdered as AreOrdered}
use Rattle.aig_circuit.proofs.Trees.{kind_at-within}
use Rattle.aig_format.proofs.Words.{GateLine, File, used, is_known, IsKnown, gate_of_variable, variables_in_order, node_of_variable, Fits, edge_of, kind_by, kind_of, nodes_from, circuit_of}
use Rattle.aig_format.proofs.Entries.{rec_weaker}
use Rattle.aig_format.proofs.Members.{has}
use Rattle.aig_format.proofs.Numbers.{few_numbered, known_numbered, node_of_variable-place, node_of_variable-within, node_of_variable-zero, operands_before, used_known, variable_of}
use Rattle.aig_circuit.proofs.Building.{and_of-not_false}

-- the nodes of the file's circuit
abbrev pub nodes_of : File → List AigNode
nodes_of f = (circuit_of f).nodes

-- ---- nodes in a row

length-nodes_from : (f : File) (i : ℕ) (vs : List ℕ) → length (nodes_from f i vs) ≡ length vs
length-nodes_from f i [] = refl
length-nodes_from f i (v ∷ vs) = ap suc (length-nodes_from f (i + 1) vs)

pub length-nodes : (f : File) → length (nodes_of f) ≡ length (variables_in_order f) + 1
length-nodes f = let e = length-nodes_from f 0 (0 ∷ variables_in_order f) in omega (arith, e)

-- the node at a variable's place is what the variable is
kind_at-place : (f : File) (i : ℕ) (vs : List ℕ) (v : ℕ) → has vs v ≡ true → kind_at (nodes_from f i vs) (position_of vs v) ≡ Some (kind_of f v)
kind_at-place f i [] v there = absurd (false≢true there)
kind_at-place f i (u ∷ vs) v there = by_test (eqb u v) refl there (kind_at-place f (i + 1) vs v)
  where
    nodes : List AigNode
    nodes = nodes_from f i (u ∷ vs)

    further : (k : ℕ) → kind_at nodes (k + 1) ≡ kind_at (nodes_from f (i + 1) vs) k
    further k = let e : k + 1 ≡ suc k = omega arith in ap (kind_at nodes) e

    by_test : (b : Bool) → eqb u v ≡ b → (b || has vs v) ≡ true → (has vs v ≡ true → kind_at (nodes_from f (i + 1) vs) (position_of vs v) ≡ Some (kind_of f v)) → kind_at nodes (cond b 0 (position_of vs v + 1)) ≡ Some (kind_of f v)
    by_test true same there rest = ap (λ v. Some (kind_of f v)) (eqb-true u v same)
    by_test false differs there rest = further (position_of vs v) ∙ rest there

numbered_from : (f : File) (i : ℕ) (vs : List ℕ) (n : ℕ) (node : AigNode) → slice_get (nodes_from f i vs) n ≡ Some node → node.node_id ≡ i + n
numbered_from f i [] n node is = cc
numbered_from f i (v ∷ vs) zero node is = omega (arith, ap (λ (x : AigNode). x.node_id) (same_Some _ _ is))
numbered_from f i (v ∷ vs) (suc n) node is = omega (arith, numbered_from f (i + 1) vs n node is)

-- ---- the nodes of a file

-- the node of what is 0 or defined is what the variable is
pub kind_at-number : (f : File) (limit : ℕ) → Fits f limit → (v : ℕ) → is_known f v ≡ true → kind_at (nodes_of f) (node_of_variable f v) ≡ Some (kind_of f v)
kind_at-number f limit fits v known = ap (kind_at (nodes_of f)) (node_of_variable-place f v) ∙ kind_at-place f 0 (0 ∷ variables_in_order f) v (known_numbered f limit fits v known)

-- the variable that a node is of, with its kind
pub record StandsFor (f : File) (n : ℕ) (k : AigNodeType) : Type 0 where
  pub variable : ℕ
  pub known : is_known f variable ≡ true
  pub is : node_of_variable f variable ≡ n
  pub kind : kind_of f variable ≡ k

-- every node is that of 0 or of one defined variable, and is what this is
pub stands_for : (f : File) (limit : ℕ) → Fits f limit → (n : ℕ) (kind : AigNodeType) → kind_at (nodes_of f) n ≡ Some kind → StandsFor f n kind
stands_for f limit fits n kind there =
    let v = variable_of f limit fits n (omega (arith, length-nodes f, kind_at-within (nodes_of f) n kind there)) in
    record { variable = v.variable; known = v.known; is = v.is; kind = same_Some _ _ (sym (kind_at-number f limit fits v.variable v.known) ∙ ap (kind_at (nodes_of f)) v.is ∙ there) }

-- a variable is false, a gate's, or a leaf
pub data VariableCase (f : File) (v : ℕ) : Type 0 where
  at_zero : v ≡ 0 → kind_of f v ≡ False → VariableCase f v
  at_gate : (g : GateLine) → gate_of_variable f v ≡ Some g → kind_of f v ≡ and_of (edge_of f g.rhs0) (edge_of f g.rhs1) → VariableCase f v
  at_leaf : gate_of_variable f v ≡ None → kind_of f v ≡ Leaf → VariableCase f v

by_found : (f : File) (v : ℕ) → (v == 0) ≡ false → (o : Option GateLine) → gate_of_variable f v ≡ o → VariableCase f v
by_found f v h (Some g) is = at_gate g is (ap (λ b. cond b False (kind_by f (gate_of_variable f v))) h ∙ ap (kind_by f) is)
by_found f v h None is = at_leaf is (ap (λ b. cond b False (kind_by f (gate_of_variable f v))) h ∙ ap (kind_by f) is)

by_test : (f : File) (v : ℕ) (b : Bool) → (v == 0) ≡ b → VariableCase f v
by_test f v true h = at_zero (eqb-true v 0 h) (ap (λ b. cond b False (kind_by f (gate_of_variable f v))) h)
by_test f v false h = by_found f v h (gate_of_variable f v) refl

pub variable_case : (f : File) (v : ℕ) → VariableCase f v
variable_case f v = by_test f v (v == 0) refl

-- operands come first, the lesser before the other
ordered_by : (p q a b : AigEdge) (n : ℕ) → and_of p q ≡ And a b → p.node_id < n → q.node_id < n → (a.node_id < n) × (b.node_id < n) × (literal_of a ≤ literal_of b)
ordered_by p q a b n is hp hq = grind (arith, nat_tests)

case_ordered : (f : File) (limit : ℕ) → Fits f limit → (v : ℕ) (a b : AigEdge) → kind_of f v ≡ And a b → VariableCase f v → (a.node_id < node_of_variable f v) × (b.node_id < node_of_variable f v) × (literal_of a ≤ literal_of b)
case_ordered f limit fits v a b is (at_zero z k) = cc
case_ordered f limit fits v a b is (at_leaf z k) = cc
case_ordered f limit fits v a b is (at_gate g found k) =
    let s = operands_before f limit fits v g found in
    ordered_by (edge_of f g.rhs0) (edge_of f g.rhs1) a b (node_of_variable f v) (sym k ∙ is) s.0 s.1

node_ordered : (f : File) (limit : ℕ) → Fits f limit → (n : ℕ) (a b : AigEdge) → kind_at (nodes_of f) n ≡ Some (And a b) → (a.node_id < n) × (b.node_id < n) × (literal_of a ≤ literal_of b)
node_ordered f limit fits n a b is =
    let s = stands_for f limit fits n (And a b) is in
    let r = case_ordered f limit fits s.variable a b s.kind (variable_case f s.variable) in
    subst (λ m. (a.node_id < m) × (b.node_id < m) × (literal_of a ≤ literal_of b)) s.is r

pub nodes-ordered : (f : File) (limit : ℕ) → Fits f limit → AreOrdered (nodes_of f)
nodes-ordered f limit fits = record {
  first_before = λ n a b is. (node_ordered f limit fits n a b is).0;
  second_before = λ n a b is. (node_ordered f limit fits n a b is).1;
  in_order = λ n a b is. (node_ordered f limit fits n a b is).2;
}

-- ---- false is once

false_at_zero : (f : File) (v : ℕ) → kind_of f v ≡ False → VariableCase f v → v ≡ 0
false_at_zero f v is (at_zero z k) = z
false_at_zero f v is (at_leaf none k) = cc
false_at_zero f v is (at_gate g found k) = absurd (and_of-not_false (edge_of f g.rhs0) (edge_of f g.rhs1) (sym k ∙ is))

false_first : (f : File) (limit : ℕ) → Fits f limit → (n : ℕ) → kind_at (nodes_of f) n ≡ Some False → n ≡ 0
false_first f limit fits n is =
    let s = stands_for f limit fits n False is in
    let z = false_at_zero f s.variable s.kind (variable_case f s.variable) in
    sym s.is ∙ ap (node_of_variable f) z ∙ node_of_variable-zero f

-- the nodes of a file that fits are a circuit's
pub AreNodes-of_file : (f : File) (limit : ℕ) → Fits f limit → AreNodes (nodes_of f)
AreNodes-of_file f limit fits = record {
  false_first = refl;
  false_once = false_first f limit fits;
  numbered = λ n node is. omega (arith, numbered_from f 0 (0 ∷ variables_in_order f) n node is);
  ordered = nodes-ordered f limit fits;
}

-- ---- the edges of a file

-- a literal that a file uses has a node
abbrev pub HasNode : File → ℕ → Type 0
HasNode f e = node_of_variable f (e / 2) < length (nodes_of f)

pub known_has_node : (f : File) (limit : ℕ) → Fits f limit → (e : ℕ) → IsKnown f e → HasNode f e
known_has_node f limit fits e known = omega (arith, length-nodes f, node_of_variable-within f limit fits (e / 2) known)

pub used_have_nodes : (f : File) (limit : ℕ) → Fits f limit → AllByRecursion (HasNode f) (used f)
used_have_nodes f limit fits = rec_weaker (IsKnown f) (HasNode f) (known_has_node f limit fits) (used f) (used_known f limit fits)

-- the limit of a file that fits is on its circuit's nodes
pub few_nodes : (f : File) (limit : ℕ) → Fits f limit → length (nodes_of f) ≤ limit
few_nodes f limit fits = omega (arith, length-nodes f, few_numbered f limit fits, fits.within)
