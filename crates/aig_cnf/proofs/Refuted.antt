-- Wrong clauses of small circuits, of which the definitions are false.
use Rattle.aig_base.proofs.Words.{◌≡◌, ℕ, Bool, true, false, List, [], ◌∷◌, Some, IsTrue, refl, sym, ap, ◌∙◌, arith, empty, false≢true, All-from_recursion}
use Rattle.std.specs.Prelude.{◌==◌, if◌then◌else◌, Option, unwrap_or, length}
use Rattle.aig_base.specs.declared.logic.literal.Lit.{Lit}
use Rattle.aig_base.specs.Clauses.{lit_to, are_true, Satisfies, literal_value}
use Rattle.aig_circuit.specs.declared.edge.AigEdge.{AigEdge}
use Rattle.aig_circuit.specs.declared.node.AigNodeType.{AigNodeType}
use Rattle.aig_circuit.specs.declared.node.AigNodeType.TheVariants.{False, Leaf, And}
use Rattle.aig_circuit.specs.declared.node.AigNode.{AigNode}
use Rattle.aig_circuit.specs.declared.node.AigLatch.{AigLatch}
use Rattle.aig_circuit.proofs.Words.{Circuit, no_properties, edge_to, nodes_of, roots_of, IsReached, root}
use Rattle.aig_circuit.specs.Tree.{tree_of, node_value}
use Rattle.aig_cnf.specs.declared.form.Form.TheVariants.{AndOf, XorOf, IteOf}
use Rattle.aig_cnf.specs.Cnf.{HasForm, xor, ite, IsXor, by_0_1, clauses_of, form_value, FixesRoots, FormNames, HasClauses, NodeValuesSatisfy}

abbrev node : ℕ → AigNodeType → AigNode
node n kind = record { node_id = n; typ = kind }

abbrev and_of : ℕ → Bool → ℕ → Bool → AigNodeType
and_of a i b j = And (edge_to a i) (edge_to b j)

-- false, the leaves 1 and 2, and these nodes, with these latches, outputs and bads
abbrev over_two : List AigNode → List AigLatch → List AigEdge → List AigEdge → Circuit
over_two nodes latchs outputs bads =
    record { nodes = node 0 False ∷ node 1 Leaf ∷ node 2 Leaf ∷ nodes; inputs = []; latchs = latchs; properties = record no_properties { outputs = outputs; bads = bads }; names = empty }

-- node 0 is false
abbrev zero_false : List (List Lit)
zero_false = (lit_to 0 false ∷ []) ∷ []

-- ---- no clauses

abbrev only_three : ℕ → Bool
only_three n = n == 3

-- the output and(1,2) may be true where 1 and 2 are false
no_clauses : ¬ FixesRoots (over_two (node 3 (and_of 1 false 2 false) ∷ []) [] (edge_to 3 false ∷ []) []) (zero_false ∷ [] ∷ [] ∷ [] ∷ [])
unfolding node_value tree_of literal_value
no_clauses f = false≢true (sym (f.properties.outputs 0 (edge_to 0 false) (omega arith) only_three satisfied))
  where
    satisfied : Satisfies only_three (zero_false ∷ [] ∷ [] ∷ [] ∷ [])
    satisfied = All-from_recursion (λ clauses. IsTrue (are_true only_three clauses)) (zero_false ∷ [] ∷ [] ∷ [] ∷ []) (refl, (refl, (refl, (refl, tt))))

abbrev all_true : ℕ → Bool
all_true n = true

-- without the unit clause of node 0 the output true may be false
no_clause_of_zero : ¬ FixesRoots (over_two [] [] (edge_to 0 true ∷ []) []) ([] ∷ [] ∷ [] ∷ [])
unfolding node_value tree_of
no_clause_of_zero f = false≢true (f.properties.outputs 0 (edge_to 0 false) (omega arith) all_true satisfied)
  where
    satisfied : Satisfies all_true ([] ∷ [] ∷ [] ∷ [])
    satisfied = All-from_recursion (λ clauses. IsTrue (are_true all_true clauses)) ([] ∷ [] ∷ [] ∷ []) (refl, (refl, (refl, tt)))

-- ---- clauses too many

-- the bad edge 1 is asserted: the values of a state that isn't bad don't satisfy
asserted_bad : ¬ NodeValuesSatisfy (over_two [] [] [] (edge_to 1 false ∷ [])) (zero_false ∷ ((lit_to 1 true ∷ []) ∷ []) ∷ [] ∷ [])
unfolding node_value tree_of literal_value
asserted_bad s = let h : false ≡ true = s (λ n. false) 1 [] (omega arith) in false≢true h

-- the initial edge false of latch 1 is asserted: the values of a later step don't satisfy
asserted_start : ¬ NodeValuesSatisfy (over_two [] (record { input = 1; next = edge_to 2 false; init = Some (edge_to 0 false) } ∷ []) [] []) (zero_false ∷ ((lit_to 1 false ∷ []) ∷ []) ∷ [] ∷ [])
unfolding node_value tree_of literal_value
asserted_start s = let h : false ≡ true = s all_true 1 [] (omega arith) in false≢true h

-- ---- clauses of another form

-- 4 = and(1,2), 5 = and(!1,3) and 6 = and(!4,!5), which is !2 where 1 is true, and else !3
abbrev choice : Circuit
choice = over_two (node 3 Leaf ∷ node 4 (and_of 1 false 2 false) ∷ node 5 (and_of 1 true 3 false) ∷ node 6 (and_of 4 true 5 true) ∷ []) [] (edge_to 6 false ∷ []) []

abbrev exchanged : List (List (List Lit))
exchanged = zero_false ∷ [] ∷ [] ∷ [] ∷ [] ∷ [] ∷ clauses_of 6 (IteOf (edge_to 1 false) (edge_to 3 true) (edge_to 2 true)) ∷ []

abbrev one_two_six : ℕ → Bool
one_two_six n = if n == 1 then true else (if n == 2 then true else n == 6)

-- with its branches exchanged it may be true where 1 and 2 are
exchanged_branches : ¬ FixesRoots choice exchanged
unfolding node_value tree_of literal_value
exchanged_branches f = false≢true (sym (f.properties.outputs 0 (edge_to 0 false) (omega arith) one_two_six satisfied))
  where
    satisfied : Satisfies one_two_six exchanged
    satisfied = All-from_recursion (λ clauses. IsTrue (are_true one_two_six clauses)) exchanged (refl, (refl, (refl, (refl, (refl, (refl, (refl, tt)))))))

-- 3 = and(1,2), 4 = and(!1,!2) and 5 = and(!3,!4), the exclusive or of 1 and 2
abbrev different : Circuit
different = over_two (node 3 (and_of 1 false 2 false) ∷ node 4 (and_of 1 true 2 true) ∷ node 5 (and_of 3 true 4 true) ∷ []) [] (edge_to 5 false ∷ []) []

abbrev all_plain : List (List (List Lit))
all_plain = zero_false ∷ [] ∷ [] ∷ clauses_of 3 (AndOf (edge_to 1 false) (edge_to 2 false)) ∷ clauses_of 4 (AndOf (edge_to 1 true) (edge_to 2 true)) ∷ clauses_of 5 (AndOf (edge_to 3 true) (edge_to 4 true)) ∷ []

-- the plain clauses aren't the optimised ones
plain_clauses : ¬ HasClauses different true all_plain
plain_clauses h =
    let needs : IsReached (FormNames different.nodes true) (nodes_of (roots_of different)) 5 = root (0, omega arith, refl) in
    let has = h.needed 5 (XorOf (edge_to 1 false) (edge_to 2 false)) needs is_xor in
    let counts : length (clauses_of 5 (AndOf (edge_to 3 true) (edge_to 4 true))) ≡ length (clauses_of 5 (XorOf (edge_to 1 false) (edge_to 2 false))) = ap (λ (o : Option (List (List Lit))). length (unwrap_or o [])) has in
    absurd (omega (arith, counts))
  where
    is_xor : HasForm different.nodes true 5 (XorOf (edge_to 1 false) (edge_to 2 false))
    is_xor = xor refl refl (record { first = record { inverted = refl; gate = refl }; second = record { inverted = refl; gate = refl }; different = λ (e : 1 ≡ 2). absurd (omega arith) })

-- nor is the exclusive or of one node with itself one: 2 = and(1,1), 3 = and(!1,!1) and 4 = and(!2,!3)
no_xor_of_one : (x y : AigEdge) → ¬ IsXor (node 0 False ∷ node 1 Leaf ∷ node 2 (and_of 1 false 1 false) ∷ node 3 (and_of 1 true 1 true) ∷ node 4 (and_of 2 true 3 true) ∷ []) (edge_to 2 true) (edge_to 3 true) x y
no_xor_of_one x y f =
    let one : Some (And (edge_to 1 false) (edge_to 1 false)) ≡ Some (And x y) = f.first.gate in
    let a : edge_to 1 false ≡ x = cc in
    let b : edge_to 1 false ≡ y = cc in
    let n : x.node_id ≡ y.node_id = ap (λ (e : AigEdge). e.node_id) (sym a ∙ b) in
    f.different n

-- ---- a choice by the second operand: 4 = and(2,3), 5 = and(!1,!2) and 6 = and(!4,!5)

abbrev by_second : List AigNode
by_second = node 0 False ∷ node 1 Leaf ∷ node 2 Leaf ∷ node 3 Leaf ∷ node 4 (and_of 2 false 3 false) ∷ node 5 (and_of 1 true 2 true) ∷ node 6 (and_of 4 true 5 true) ∷ []

by_second-form : ¬ ((x : AigEdge) × (y : AigEdge) × IsXor by_second (edge_to 4 true) (edge_to 5 true) x y) → HasForm by_second true 6 (IteOf (edge_to 2 false) (edge_to 3 true) (edge_to 1 false))
by_second-form none = ite refl refl (λ x y h. none (x, y, h)) (record {
  p0 = edge_to 2 false;
  p1 = edge_to 3 false;
  q0 = edge_to 1 true;
  q1 = edge_to 2 true;
  first = record { inverted = refl; gate = refl };
  second = record { inverted = refl; gate = refl };
  chooses = by_0_1 (λ (e : edge_to 2 false ≡ edge_to 1 false). let n : 2 ≡ 1 = ap (λ (f : AigEdge). f.node_id) e in absurd (omega arith)) refl;
  c_t = λ (e : 2 ≡ 3). absurd (omega arith);
  c_e = λ (e : 2 ≡ 1). absurd (omega arith);
  t_e = λ (e : 3 ≡ 1). absurd (omega arith);
})

abbrev leaves : Bool → Bool → Bool → ℕ → Bool
leaves a b c n = if n == 1 then a else (if n == 2 then b else (if n == 3 then c else false))

by_second-value : (a b c : Bool) → node_value by_second (leaves a b c) 6 ≡ form_value (leaves a b c) (IteOf (edge_to 2 false) (edge_to 3 true) (edge_to 1 false))
unfolding node_value tree_of
by_second-value true true true = refl
by_second-value true true false = refl
by_second-value true false true = refl
by_second-value true false false = refl
by_second-value false true true = refl
by_second-value false true false = refl
by_second-value false false true = refl
by_second-value false false false = refl
