-- A known value of three is the value on every filling.
use Rattle.aig_base.proofs.Words.{◌≡◌, ℕ, zero, suc, ◌+◌, ◌<◌, Bool, true, false, not, cond, ◌&&◌, Some, None, List, [], ◌∷◌, ◌++◌, length, map, get_or, refl, sym, ap, subst, ◌∙◌, arith, All, slice_get, slice_index_or, ◌==◌, AllByRecursion, AllZip, eqb-true, same_Some, slice_get-get_or, recursion_from_All}
use Rattle.aig_base.specs.declared.logic.three.Lbool.{Lbool}
use Rattle.aig_base.specs.declared.logic.three.Lbool.TheVariants.{FALSE, TRUE, NONE}
use Rattle.aig_base.specs.Three.{Agrees, lbool_and, lbool_not_if}
use Rattle.aig_circuit.specs.declared.edge.AigEdge.{AigEdge}
use Rattle.aig_circuit.specs.declared.node.AigNode.{AigNode}
use Rattle.aig_circuit.specs.declared.node.AigNodeType.TheVariants.{False}
use Rattle.aig_circuit.specs.declared.node.AigLatch.{AigLatch}
use Rattle.aig_circuit.proofs.Words.{inverted_if, Circuit, IsCircuit, IsInRange, latch_leaves}
use Rattle.aig_circuit.specs.Tree.{AndTree, FalseTree, LeafTree, Tree, edge_value, node_value, tree_of, value_of_tree}
use Rattle.aig_ternary.specs.Ternary.{IsFilling, KnownValuesHold, Simulation, given_values, next_state, three_edge_value, three_node_value, three_value_of_tree, three_values, value_for, values_in}

-- ---- joining and inverting

agrees_and : (a b : Lbool) (p q : Bool) → Agrees a p → Agrees b q → Agrees (lbool_and a b) (p && q)
agrees_and FALSE b p q h k = ap (λ v. v && q) h
agrees_and TRUE FALSE p q h k = ap (λ v. v && q) h ∙ k
agrees_and TRUE TRUE p q h k = ap (λ v. v && q) h ∙ k
agrees_and TRUE NONE p q h k = tt
agrees_and NONE FALSE p q h k = ap (λ v. p && v) k ∙ none p
  where
    none : (p : Bool) → (p && false) ≡ false
    none true = refl
    none false = refl
agrees_and NONE TRUE p q h k = tt
agrees_and NONE NONE p q h k = tt

agrees_not_if : (i : Bool) (a : Lbool) (p : Bool) → Agrees a p → Agrees (lbool_not_if i a) (inverted_if i p)
agrees_not_if false a p h = h
agrees_not_if true FALSE p h = ap not h
agrees_not_if true TRUE p h = ap not h
agrees_not_if true NONE p h = tt

-- ---- trees, nodes and edges

module _ (y : ℕ → Lbool) (x : ℕ → Bool) (leaves : (n : ℕ) → Agrees (y n) (x n)) where
  agrees_tree : (t : Tree) → Agrees (three_value_of_tree y t) (value_of_tree x t)
  agrees_tree FalseTree = refl
  agrees_tree (LeafTree leaf) = leaves leaf
  agrees_tree (AndTree i s j t) =
      agrees_and (lbool_not_if i (three_value_of_tree y s)) (lbool_not_if j (three_value_of_tree y t)) (inverted_if i (value_of_tree x s)) (inverted_if j (value_of_tree x t))
      (agrees_not_if i (three_value_of_tree y s) (value_of_tree x s) (agrees_tree s)) (agrees_not_if j (three_value_of_tree y t) (value_of_tree x t) (agrees_tree t))

  agrees_node : (nodes : List AigNode) (n : ℕ) → Agrees (three_node_value nodes y n) (node_value nodes x n)
  unfolding three_node_value node_value
  agrees_node nodes n = agrees_tree (tree_of nodes n)

  agrees_edge : (nodes : List AigNode) (e : AigEdge) → Agrees (three_edge_value nodes y e) (edge_value nodes x e)
  agrees_edge nodes e = agrees_not_if e.compl (three_node_value nodes y e.node_id) (node_value nodes x e.node_id) (agrees_node nodes e.node_id)

-- ---- given values

-- known is the value at n, or unknown
abbrev AgreesAt : (ℕ → Bool) → ℕ → Lbool → Type 0
AgreesAt x n known = Agrees known (x n)

given_agrees : (x : ℕ → Bool) (ns : List ℕ) (values : List Lbool) → AllZip (AgreesAt x) ns values → (n : ℕ) → Agrees (value_for ns values n) (x n)
given_agrees x [] values all n = tt
given_agrees x (m ∷ ns) [] all n = tt
given_agrees x (m ∷ ns) (v ∷ values) all n = by_test (m == n) refl (given_agrees x ns values all.1 n)
  where
    by_test : (b : Bool) → (m == n) ≡ b → Agrees (value_for ns values n) (x n) → Agrees (cond b v (value_for ns values n)) (x n)
    by_test true is rest = subst (λ i. Agrees v (x i)) (eqb-true m n is) all.0
    by_test false is rest = rest

zip_append : (x : ℕ → Bool) (ms ns : List ℕ) (vs ws : List Lbool) → AllZip (AgreesAt x) ms vs → AllZip (AgreesAt x) ns ws → AllZip (AgreesAt x) (ms ++ ns) (vs ++ ws)
zip_append x [] ns [] ws h k = k
zip_append x [] ns (v ∷ vs) ws h k = absurd h
zip_append x (m ∷ ms) ns [] ws h k = absurd h
zip_append x (m ∷ ms) ns (v ∷ vs) ws h k = (h.0, zip_append x ms ns vs ws h.1 k)

-- ---- one step

get_map : (g : AigNode → Lbool) (nodes : List AigNode) (i : ℕ) (d : AigNode) → i < length nodes → get_or (map g nodes) i FALSE ≡ g (get_or nodes i d)
get_map g [] i d h = absurd (omega arith)
get_map g (n ∷ nodes) zero d h = refl
get_map g (n ∷ nodes) (suc i) d h = get_map g nodes i d (omega arith)

-- the value that the last step left is the edge's
pub value_is : (c : Circuit) → IsCircuit c → (y : ℕ → Lbool) (e : AigEdge) → IsInRange c.nodes e → lbool_not_if e.compl (slice_index_or (three_values c y) e.node_id FALSE) ≡ three_edge_value c.nodes y e
value_is c is y e h =
    let d : AigNode = record { node_id = 0; typ = False } in
    let number = is.nodes.numbered e.node_id (get_or c.nodes e.node_id d) (slice_get-get_or c.nodes e.node_id d h) in
    ap (lbool_not_if e.compl) (get_map (λ (node : AigNode). three_node_value c.nodes y node.node_id) c.nodes e.node_id d h ∙ ap (three_node_value c.nodes y) number)

-- the next state agrees with the next step
state_agrees : (nodes : List AigNode) (y : ℕ → Lbool) (x z : ℕ → Bool) → ((n : ℕ) → Agrees (y n) (x n)) → (latchs : List AigLatch) → AllByRecursion (λ (latch : AigLatch). z latch.input ≡ edge_value nodes x latch.next) latchs
    → AllZip (AgreesAt z) (latch_leaves latchs) (map (λ (latch : AigLatch). three_edge_value nodes y latch.next) latchs)
state_agrees nodes y x z leaves [] moves = tt
state_agrees nodes y x z leaves (l ∷ ls) moves = (
  subst (Agrees (three_edge_value nodes y l.next)) (sym moves.0) (agrees_edge y x leaves nodes l.next),
  state_agrees nodes y x z leaves ls moves.1,
)

-- ---- all steps

module _ (c : Circuit) (is : IsCircuit c) (e : AigEdge) (there : IsInRange c.nodes e) where
  shifted : (inputs next : List Lbool) (more : List (List Lbool)) (s : Simulation) → s.circuit ≡ c → (x : ℕ → ℕ → Bool) → IsFilling c s.state (inputs ∷ next ∷ more) x
      → ((n : ℕ) → Agrees (given_values c inputs s.state n) (x 0 n)) → IsFilling c (next_state c (given_values c inputs s.state)) (next ∷ more) (λ t. x (suc t))
  shifted inputs next more s same x f leaves = record {
    run = λ t h.
        let e1 : suc t + 1 ≡ suc (t + 1) = omega arith in
        subst (λ k. All (λ latch. x k latch.input ≡ edge_value c.nodes (x (suc t)) latch.next) c.latchs) e1 (f.run (suc t) (omega arith));
    first =
        let one : 0 + 1 ≡ 1 = omega arith in
        let moves = subst (λ k. All (λ latch. x k latch.input ≡ edge_value c.nodes (x 0) latch.next) c.latchs) one (f.run 0 (omega arith)) in
        state_agrees c.nodes (given_values c inputs s.state) (x 0) (x 1) leaves c.latchs (recursion_from_All (λ (latch : AigLatch). x 1 latch.input ≡ edge_value c.nodes (x 0) latch.next) c.latchs moves);
    each = λ t values h. f.each (suc t) values h;
  }

  -- the given values of a step agree with the filling
  leaves_agree : (inputs : List Lbool) (more : List (List Lbool)) (state : List Lbool) (x : ℕ → ℕ → Bool) → IsFilling c state (inputs ∷ more) x → (n : ℕ) → Agrees (given_values c inputs state n) (x 0 n)
  leaves_agree inputs more state x f = given_agrees (x 0) (c.inputs ++ latch_leaves c.latchs) (inputs ++ state) (zip_append (x 0) c.inputs (latch_leaves c.latchs) inputs state (f.each 0 inputs refl) f.first)

  nothing : {X : Type 0} (v : X) → None ≡ Some v → ⊥
  nothing v h = cc

  abbrev at_state : List Lbool → List Lbool → Simulation
  at_state state values = record { circuit = c; state = state; values = values }

  pub known : (steps : List (List Lbool)) (state values : List Lbool) (x : ℕ → ℕ → Bool) → IsFilling c state steps x → (t : ℕ) (v : Lbool)
      → slice_get (values_in e (at_state state values) steps) t ≡ Some v → Agrees v (edge_value c.nodes (x t) e)
  known [] state values x f t v h = absurd (nothing v h)
  known (inputs ∷ steps) state values x f zero v h =
      let y = given_values c inputs state in
      subst (λ w. Agrees w (edge_value c.nodes (x 0) e)) (sym (value_is c is y e there) ∙ same_Some _ _ h) (agrees_edge y (x 0) (leaves_agree inputs steps state x f) c.nodes e)
  known (inputs ∷ []) state values x f (suc t) v h = absurd (nothing v h)
  known (inputs ∷ next ∷ more) state values x f (suc t) v h =
      let y = given_values c inputs state in
      known (next ∷ more) (next_state c y) (three_values c y) (λ k. x (suc k)) (shifted inputs next more (at_state state values) refl x f (leaves_agree inputs (next ∷ more) state x f)) t v h

pub known_values : (c : Circuit) → IsCircuit c → (e : AigEdge) → IsInRange c.nodes e → (state : List Lbool) (steps : List (List Lbool)) → KnownValuesHold c e state steps (values_in e (record { circuit = c; state = state; values = [] }) steps)
known_values c is e there state steps x f t v h = known c is e there steps state [] x f t v h

-- the same of the answers of a simulation that goes on
pub known_answers : (s : Simulation) → IsCircuit s.circuit → (e : AigEdge) → IsInRange s.circuit.nodes e → (steps : List (List Lbool)) (answers : List Lbool) → answers ≡ values_in e s steps → KnownValuesHold s.circuit e s.state steps answers
known_answers s is e there steps answers are x f t v h = known s.circuit is e there steps s.state s.values x f t v (subst (λ vs. slice_get vs t ≡ Some v) are h)
