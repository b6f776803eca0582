-- Where every value is given, every value of a simulation is known, and is that of the one run.
use Rattle.aig_base.proofs.Words.{◌≡◌, ◌≢◌, ℕ, zero, suc, ◌+◌, ◌<◌, Bool, true, false, ◌&&◌, Option, List, [], ◌∷◌, ◌++◌, length, map, get_or, take, Some, None, refl, sym, ap, ap₂, subst, ◌∙◌, arith, All, AllByRecursion, AllZip, get_or-map, All-contains, All-from_recursion, slice_get-get_or}
use Rattle.aig_base.specs.declared.logic.three.Lbool.{Lbool}
use Rattle.aig_base.specs.declared.logic.three.Lbool.TheVariants.{FALSE, TRUE, NONE}
use Rattle.aig_base.specs.Three.{Agrees, lbool_and, lbool_not_if}
use Rattle.aig_circuit.specs.declared.edge.AigEdge.{AigEdge}
use Rattle.aig_circuit.specs.declared.node.AigNode.{AigNode}
use Rattle.aig_circuit.specs.declared.node.AigNodeType.{AigNodeType}
use Rattle.aig_circuit.specs.declared.node.AigNodeType.TheVariants.{False, Leaf, And}
use Rattle.aig_circuit.specs.declared.node.AigLatch.{AigLatch}
use Rattle.aig_circuit.proofs.Words.{IsOrdered, kind_at, inverted_if, Circuit, IsCircuit, IsClosed, IsInRange, IsLeaf, latch_leaves}
use Rattle.aig_circuit.specs.Tree.{Tree, edge_value, node_value, tree_of, tree_of_kind, value_of_tree}
use Rattle.aig_circuit.proofs.Circuits.{AreLeaves-of_circuit}
use Rattle.aig_circuit.proofs.Trees.{by_smaller, tree_of-is}
use Rattle.aig_circuit.proofs.Lists.{map-agrees}
use Rattle.aig_ternary.specs.Ternary.{IsFilling, Simulation, given_values, next_state, simulation_of, stepped, stepped_all, three_edge_value, three_node_value, three_value_of_tree, value_in}
use Rattle.aig_unroll.proofs.Lists.{all_from_zips}
use Rattle.aig_witness.specs.Witness.{Witness}
use Rattle.aig_witness.specs.Machine.{IsGiven}
use Rattle.aig_witness.specs.Shown.{known_of, simulated}
use Rattle.aig_witness.proofs.Simulated.{stepped_all-circuit, stepped_all-more}
use Rattle.aig_witness.proofs.Zips.{value_for-zip}

-- ---- values

known_and : (p q : Bool) → lbool_and (known_of p) (known_of q) ≡ known_of (p && q)
known_and true true = refl
known_and true false = refl
known_and false true = refl
known_and false false = refl

pub known_not : (i p : Bool) → lbool_not_if i (known_of p) ≡ known_of (inverted_if i p)
known_not true true = refl
known_not true false = refl
known_not false true = refl
known_not false false = refl

pub agrees_known : (v : Lbool) (b : Bool) → v ≢ NONE → Agrees v b → v ≡ known_of b
agrees_known FALSE b ne h = ap known_of (sym h)
agrees_known TRUE b ne h = ap known_of (sym h)
agrees_known NONE b ne h = absurd (ne refl)

-- ---- trees

module _ (nodes : List AigNode) (ordered : IsOrdered nodes) (y : ℕ → Lbool) (x : ℕ → Bool) (leaves : (n : ℕ) → IsLeaf nodes n → y n ≡ known_of (x n)) where
  -- the tree's value is known
  abbrev IsKnownTree : Tree → Type 0
  IsKnownTree t = three_value_of_tree y t ≡ known_of (value_of_tree x t)

  known_kind : (n : ℕ) → ((m : ℕ) → m < n → IsKnownTree (tree_of nodes m)) → (k : Option AigNodeType) → kind_at nodes n ≡ k → IsKnownTree (tree_of_kind (tree_of nodes) n k)
  known_kind n smaller None is = refl
  known_kind n smaller (Some False) is = refl
  known_kind n smaller (Some Leaf) is = leaves n is
  known_kind n smaller (Some (And a b)) is =
      let s = tree_of nodes a.node_id in
      let t = tree_of nodes b.node_id in
      let first = ap (lbool_not_if a.compl) (smaller a.node_id (ordered.first_before n a b is)) ∙ known_not a.compl (value_of_tree x s) in
      let second = ap (lbool_not_if b.compl) (smaller b.node_id (ordered.second_before n a b is)) ∙ known_not b.compl (value_of_tree x t) in
      ap₂ lbool_and first second ∙ known_and (inverted_if a.compl (value_of_tree x s)) (inverted_if b.compl (value_of_tree x t))

  known_tree : (n : ℕ) → IsKnownTree (tree_of nodes n)
  known_tree n = by_smaller (λ m. IsKnownTree (tree_of nodes m)) (λ m smaller. subst IsKnownTree (sym (tree_of-is nodes ordered m)) (known_kind m smaller (kind_at nodes m) refl)) n

  known_node : (n : ℕ) → three_node_value nodes y n ≡ known_of (node_value nodes x n)
  unfolding three_node_value node_value
  known_node n = known_tree n

  known_edge : (e : AigEdge) → three_edge_value nodes y e ≡ known_of (edge_value nodes x e)
  known_edge e = ap (lbool_not_if e.compl) (known_node e.node_id) ∙ known_not e.compl (node_value nodes x e.node_id)

-- the value that a step leaves is the edge's
pub value_is : (s : Simulation) (row : List Lbool) → IsCircuit s.circuit → (e : AigEdge) → IsInRange s.circuit.nodes e → value_in (stepped s row) e ≡ three_edge_value s.circuit.nodes (given_values s.circuit row s.state) e
value_is s row is e h =
    let nodes = s.circuit.nodes in
    let y = given_values s.circuit row s.state in
    let d : AigNode = record { node_id = 0; typ = False } in
    let number = is.nodes.numbered e.node_id (get_or nodes e.node_id d) (slice_get-get_or nodes e.node_id d h) in
    ap (lbool_not_if e.compl) (get_or-map (λ (node : AigNode). three_node_value nodes y node.node_id) nodes e.node_id d FALSE h ∙ ap (three_node_value nodes y) number)

-- ---- lists of known values

-- each number with the known value of its own
abbrev AreKnown : (ℕ → Bool) → List ℕ → List Lbool → Type 0
AreKnown x = AllZip (λ n v. v ≡ known_of (x n))

pub known_zip : (x : ℕ → Bool) (ns : List ℕ) (values : List Lbool) → AllByRecursion (λ v. v ≢ NONE) values → AllZip (λ n v. Agrees v (x n)) ns values → AreKnown x ns values
known_zip x [] [] given zip = tt
known_zip x [] (v ∷ values) given zip = absurd zip
known_zip x (n ∷ ns) [] given zip = absurd zip
known_zip x (n ∷ ns) (v ∷ values) given zip = (agrees_known v (x n) given.0 zip.0, known_zip x ns values given.1 zip.1)

known_map : (x : ℕ → Bool) (latchs : List AigLatch) → AreKnown x (latch_leaves latchs) (map (λ (latch : AigLatch). known_of (x latch.input)) latchs)
known_map x [] = tt
known_map x (latch ∷ latchs) = (refl, known_map x latchs)

known_append : (x : ℕ → Bool) (ms ns : List ℕ) (us vs : List Lbool) → AreKnown x ms us → AreKnown x ns vs → AreKnown x (ms ++ ns) (us ++ vs)
known_append x [] ns [] vs h k = k
known_append x [] ns (u ∷ us) vs h k = absurd h
known_append x (m ∷ ms) ns [] vs h k = absurd h
known_append x (m ∷ ms) ns (u ∷ us) vs h k = (h.0, known_append x ms ns us vs h.1 k)

pub zip_long : {A B : Type 0} (R : A → B → Type 0) (xs : List A) (ys : List B) → AllZip R xs ys → length ys ≡ length xs
zip_long R [] [] zip = refl
zip_long R [] (y ∷ ys) zip = absurd zip
zip_long R (x ∷ xs) [] zip = absurd zip
zip_long R (x ∷ xs) (y ∷ ys) zip = ap suc (zip_long R xs ys zip.1)

-- the given values of a step at every leaf
given_known : (c : Circuit) → IsCircuit c → IsClosed c → (x : ℕ → Bool) (row state : List Lbool) → AreKnown x c.inputs row → AreKnown x (latch_leaves c.latchs) state → (n : ℕ) → IsLeaf c.nodes n → given_values c row state n ≡ known_of (x n)
given_known c is closed x row state inputs latches n leaf =
    let ns = c.inputs ++ latch_leaves c.latchs in
    let all = known_append x c.inputs (latch_leaves c.latchs) row state inputs latches in
    let long = zip_long (λ n v. v ≡ known_of (x n)) ns (row ++ state) all in
    let own = value_for-zip ns (row ++ state) (AreLeaves-of_circuit c is).distinct long in
    let P = λ (m : ℕ). given_values c row state m ≡ known_of (x m) in
    All-contains P ns n (all_from_zips (λ m v. given_values c row state m ≡ v) (λ m v. v ≡ known_of (x m)) P ns (row ++ state) (λ m v p q. p ∙ q) own all) (closed n leaf)

-- ---- steps

module _ (c : Circuit) (is : IsCircuit c) (closed : IsClosed c) (w : Witness) (given : IsGiven w) (x : ℕ → ℕ → Bool) (filling : IsFilling c w.state w.steps x) where
  abbrev before : ℕ → Simulation
  before t = stepped_all (simulation_of c w.state) (take t w.steps)

  row_known : (t : ℕ) → t < length w.steps → AreKnown (x t) c.inputs (get_or w.steps t [])
  row_known t h =
      let row = get_or w.steps t [] in
      known_zip (x t) c.inputs row (All-from_recursion (AllByRecursion (λ v. v ≢ NONE)) w.steps given.steps t [] h) (filling.each t row (slice_get-get_or w.steps t [] h))

  -- the state before a step is that of the run
  state_known : (t : ℕ) → t < length w.steps → AreKnown (x t) (latch_leaves c.latchs) (before t).state
  state_known zero h = known_zip (x 0) (latch_leaves c.latchs) w.state given.state filling.first
  state_known (suc t) h =
      let low : t < length w.steps = omega arith in
      let row = get_or w.steps t [] in
      let s = before t in
      let next : t + 1 ≡ suc t = omega arith in
      let same : s.circuit ≡ c = stepped_all-circuit (simulation_of c w.state) (take t w.steps) in
      let y = given_values c row s.state in
      let leaves = given_known c is closed (x t) row s.state (row_known t low) (state_known t low) in
      let moves = subst (λ k. All (λ (latch : AigLatch). x k latch.input ≡ edge_value c.nodes (x t) latch.next) c.latchs) next (filling.run t (omega arith)) in
      let values : next_state c y ≡ map (λ (latch : AigLatch). known_of (x (suc t) latch.input)) c.latchs =
      map-agrees (λ (latch : AigLatch). three_edge_value c.nodes y latch.next) (λ (latch : AigLatch). known_of (x (suc t) latch.input)) c.latchs
      (λ i d lt. known_edge c.nodes is.nodes.ordered y (x t) leaves (get_or c.latchs i d).next ∙ ap known_of (sym (moves i d lt))) in
      let moved : (before (suc t)).state ≡ next_state c y =
      ap (λ k. (before k).state) (sym next) ∙ ap (λ (r : Simulation). r.state) (stepped_all-more (simulation_of c w.state) w.steps t low) ∙ ap (λ (d : Circuit). next_state d (given_values d row s.state)) same in
      subst (AreKnown (x (suc t)) (latch_leaves c.latchs)) (sym (moved ∙ values)) (known_map (x (suc t)) c.latchs)

  -- the value of an edge at a step is known
  pub value_known : (t : ℕ) → t < length w.steps → (e : AigEdge) → IsInRange c.nodes e → value_in (simulated c w t) e ≡ known_of (edge_value c.nodes (x t) e)
  value_known t h e there =
      let row = get_or w.steps t [] in
      let s = before t in
      let same : s.circuit ≡ c = stepped_all-circuit (simulation_of c w.state) (take t w.steps) in
      let leaves = given_known c is closed (x t) row s.state (row_known t h) (state_known t h) in
      ap (λ (r : Simulation). value_in r e) (stepped_all-more (simulation_of c w.state) w.steps t h)
      ∙ value_is s row (subst IsCircuit (sym same) is) e (subst (λ (d : Circuit). IsInRange d.nodes e) (sym same) there)
      ∙ ap (λ (d : Circuit). three_edge_value d.nodes (given_values d row s.state) e) same
      ∙ known_edge c.nodes is.nodes.ordered (given_values c row s.state) (x t) leaves e
