-- Wrong results of changes of small circuits, of which the definitions are false.
use Rattle.aig_base.proofs.Words.{◌≡◌, ◌≢◌, ℕ, zero, suc, Bool, true, false, Option, Some, None, List, [], ◌∷◌, length, refl, sym, ap, subst, ◌∙◌, inl, inr, arith, ◌==◌, if◌then◌else◌, All, slice_get, unwrap_or, AllZip, empty, false≢true}
use Rattle.aig_circuit.specs.declared.edge.AigEdge.{AigEdge}
use Rattle.aig_circuit.specs.declared.node.AigNodeType.{AigNodeType}
use Rattle.aig_circuit.specs.declared.node.AigNodeType.TheVariants.{False, Leaf, And}
use Rattle.aig_circuit.specs.declared.node.AigNode.{AigNode}
use Rattle.aig_circuit.specs.declared.node.AigLatch.{AigLatch}
use Rattle.aig_circuit.proofs.Words.{Folds, FoldsOrAdds, FoldsOrAddsEq, true_first, true_second, false_first, false_second, same, opposite, with_node, Circuit, no_properties, edge_to, inverse, HasConstantInit, IsRun, IsInitial}
use Rattle.aig_circuit.specs.Tree.{node_value, tree_of}
use Rattle.aig_change.specs.Merge.{merged}
use Rattle.aig_change.specs.Changes.{CompressesBads, ConstrainsInits, FoldsConstraints, constraints_held_latch}
use Rattle.aig_change.specs.Runs.{IsRunFromInitial}
use Rattle.aig_change.specs.Inits.{ImpliesInit, SayInSteps}

abbrev node : ℕ → AigNodeType → AigNode
node n kind = record { node_id = n; typ = kind }

abbrev and_of : ℕ → Bool → ℕ → Bool → AigNodeType
and_of a i b j = And (edge_to a i) (edge_to b j)

-- a circuit of these nodes, inputs, latches, bads and constraints
abbrev circuit_with : List AigNode → List ℕ → List AigLatch → List AigEdge → List AigEdge → Circuit
circuit_with nodes inputs latchs bads constraints =
    record {
      nodes = nodes;
      inputs = inputs;
      latchs = latchs;
      properties = record no_properties { bads = bads; constraints = constraints };
      names = empty;
    }

-- ---- merging

-- input 1, latch 2 with next 2 and initial edge 1
abbrev started_by_input : Circuit
started_by_input =
    circuit_with (node 0 False ∷ node 1 Leaf ∷ node 2 Leaf ∷ []) (1 ∷ [])
    (record { input = 2; next = edge_to 2 false; init = Some (edge_to 1 false) } ∷ []) [] []

-- the second copy's latch starts by the first copy's input
abbrev not_mapped : Circuit
not_mapped =
    circuit_with (node 0 False ∷ node 1 Leaf ∷ node 2 Leaf ∷ node 3 Leaf ∷ node 4 Leaf ∷ [])
    (1 ∷ 3 ∷ [])
    (record { input = 2; next = edge_to 2 false; init = Some (edge_to 1 false) }
    ∷ record { input = 4; next = edge_to 4 false; init = Some (edge_to 1 false) } ∷ []) [] []

-- the node of the second latch's initial edge
abbrev second_start : Circuit → ℕ
second_start c = by (slice_get c.latchs 1)
  where
    by : Option AigLatch → ℕ
    by (Some latch) = (unwrap_or latch.init (edge_to 0 false)).node_id
    by None = 0

no_start_of_the_first : merged started_by_input started_by_input ≢ not_mapped
no_start_of_the_first e = let n : ◌≡◌ {A = ℕ} 3 1 = ap second_start e in absurd (omega arith)

-- ---- another list is emptied

abbrev one_leaf : List AigNode
one_leaf = node 0 False ∷ node 1 Leaf ∷ []

-- justice set and output 1
abbrev with_properties : Circuit
with_properties =
    record (circuit_with one_leaf (1 ∷ []) [] [] [])
    { properties = record no_properties { outputs = edge_to 1 false ∷ []; justice = (edge_to 1 false ∷ []) ∷ [] } }

not_without_justice : (new : Circuit) → new.properties.justice ≡ [] → ¬ FoldsConstraints with_properties new
not_without_justice new none m =
    let was = ap (λ (c : Circuit). c.properties.justice) m.rest in
    let no : ◌≡◌ {A = List (List AigEdge)} [] ((edge_to 1 false ∷ []) ∷ []) = sym none ∙ was in cc

not_without_outputs : (new : Circuit) → new.properties.outputs ≡ [] → ¬ CompressesBads with_properties new
not_without_outputs new none m =
    let was = ap (λ (c : Circuit). c.properties.outputs) m.rest in
    let no : ◌≡◌ {A = List AigEdge} [] (edge_to 1 false ∷ []) = sym none ∙ was in cc

not_without_properties : (new : Circuit) → new.properties.outputs ≡ [] → ¬ ConstrainsInits with_properties new
not_without_properties new none m =
    let was = ap (λ (c : Circuit). c.properties.outputs) m.rest in
    let no : ◌≡◌ {A = List AigEdge} [] (edge_to 1 false ∷ []) = sym none ∙ was in cc

-- ---- edges that fold

-- where two edges fold, the edge is one that they fold to, and no node is added
folded : (old new : List AigNode) (a b e f : AigEdge) → Folds a b f → FoldsOrAdds old new a b e
    → Folds a b e × (new ≡ old)
folded old new a b e f folds (inl p) = p
folded old new a b e f folds (inr p) = absurd (p.0 f folds)

-- the bads 1 and true: both fold, and a gate of theirs is wrong
abbrev true_bad : Circuit
true_bad = circuit_with one_leaf (1 ∷ []) [] (edge_to 1 false ∷ edge_to 0 true ∷ []) []

not_unfolded : (new : Circuit) → length new.nodes ≡ 3 → ¬ CompressesBads true_bad new
not_unfolded new count m =
    let first = m.rule.2 in
    let second = m.rule.3.2 in
    let one =
    folded one_leaf m.rule.0 (edge_to 0 true) (edge_to 1 true) m.rule.1 (edge_to 1 true)
    (true_first refl refl) first in
    let two =
    folded m.rule.0 m.rule.3.0 m.rule.1 (edge_to 0 false) m.rule.3.1 (edge_to 0 false)
    (false_second refl refl) second in
    let all : new.nodes ≡ one_leaf = m.rule.3.3.0 ∙ two.1 ∙ one.1 in
    let n : ◌≡◌ {A = ℕ} 3 2 = sym count ∙ ap length all in absurd (omega arith)

-- no constraint: the next edge of the latch that is added folds to its leaf, and a gate of it is
-- wrong
abbrev no_constraint : Circuit
no_constraint = circuit_with one_leaf (1 ∷ []) [] [] []

not_unfolded_next : (new : Circuit) → length new.nodes ≡ 4 → ¬ FoldsConstraints no_constraint new
not_unfolded_next new count m =
    let s = m.steps.4 in
    let next =
    folded m.steps.0 m.steps.1 (edge_to 2 false) m.steps.3 m.next (edge_to 2 false)
    (true_second s.joins_rule.1 refl) s.rule in
    let all : new.nodes ≡ with_node one_leaf Leaf =
    s.joins_outputs.none refl ∙ s.joins_bads.none refl ∙ next.1 ∙ s.joins_rule.0 in
    let n : ◌≡◌ {A = ℕ} 4 3 = sym count ∙ ap length all in absurd (omega arith)

-- latch 1 with itself as its initial edge: their equality folds to true, and so does what it
-- implies
abbrev started_by_itself : Circuit
started_by_itself =
    circuit_with one_leaf []
    (record { input = 1; next = edge_to 1 false; init = Some (edge_to 1 false) } ∷ []) [] []

and_of_same : (i : Bool) (e : AigEdge) → Folds (edge_to 1 i) (edge_to 1 i) e → e ≡ edge_to 1 i
and_of_same i e (true_first a is) = is
and_of_same i e (true_second b is) = is
and_of_same i e (false_first a is) =
    let n : ◌≡◌ {A = ℕ} 1 0 = ap (λ (f : AigEdge). f.node_id) a in absurd (omega arith)
and_of_same i e (false_second b is) =
    let n : ◌≡◌ {A = ℕ} 1 0 = ap (λ (f : AigEdge). f.node_id) b in absurd (omega arith)
and_of_same i e (same a is) = is
and_of_same true e (opposite a is) =
    let n : true ≡ false = ap (λ (f : AigEdge). f.compl) a in absurd (false≢true (sym n))
and_of_same false e (opposite a is) =
    let n : false ≡ true = ap (λ (f : AigEdge). f.compl) a in absurd (false≢true n)

and_of_opposite : (e : AigEdge) → Folds (edge_to 1 true) (edge_to 1 false) e → e ≡ edge_to 0 false
and_of_opposite e (true_first a is) =
    let n : ◌≡◌ {A = ℕ} 1 0 = ap (λ (f : AigEdge). f.node_id) a in absurd (omega arith)
and_of_opposite e (true_second b is) =
    let n : ◌≡◌ {A = ℕ} 1 0 = ap (λ (f : AigEdge). f.node_id) b in absurd (omega arith)
and_of_opposite e (false_first a is) = is
and_of_opposite e (false_second b is) = is
and_of_opposite e (same a is) =
    let n : true ≡ false = ap (λ (f : AigEdge). f.compl) a in absurd (false≢true (sym n))
and_of_opposite e (opposite a is) = is

-- the equality of an edge with itself adds no gate, and is true
equal_to_itself : (old new : List AigNode) (e : AigEdge)
    → FoldsOrAddsEq old new (edge_to 1 false) (edge_to 1 false) e
    → (inverse e ≡ edge_to 0 false) × (new ≡ old)
equal_to_itself old new e q =
    let both =
    folded old q.one (edge_to 1 false) (edge_to 1 false) q.both (edge_to 1 false) (same refl refl)
    q.is_both in
    let neither =
    folded q.one q.two (edge_to 1 true) (edge_to 1 true) q.neither (edge_to 1 true)
    (same refl refl) q.is_neither in
    let first : inverse q.both ≡ edge_to 1 true = ap inverse (and_of_same false q.both both.0) in
    let second : inverse q.neither ≡ edge_to 1 false =
    ap inverse (and_of_same true q.neither neither.0) in
    let step =
    subst (λ b. FoldsOrAdds q.two new (edge_to 1 true) b (inverse e)) second
    (subst (λ a. FoldsOrAdds q.two new a (inverse q.neither) (inverse e)) first q.is_either) in
    let either =
    folded q.two new (edge_to 1 true) (edge_to 1 false) (inverse e) (edge_to 0 false)
    (opposite refl refl) step in
    (and_of_opposite (inverse e) either.0, either.1 ∙ neither.1 ∙ both.1)

not_unfolded_start : (new : Circuit) → length new.nodes ≡ 4
    → ¬ ConstrainsInits started_by_itself new
not_unfolded_start new count m = by m.constrained (m.steps variable)
  where
    variable : ¬ All HasConstantInit started_by_itself.latchs
    variable all =
        let e : ◌≡◌ {A = ℕ} 1 0 =
        all 0 (record { input = 0; next = edge_to 0 false; init = None }) (omega arith) in
        absurd (omega arith)

    by : (constrained : List AigEdge)
        → SayInSteps (with_node one_leaf Leaf) (edge_to 2 false) constrained
        started_by_itself.latchs new.nodes → ⊥
    by [] steps = steps
    by (e ∷ []) steps =
        let s = steps.1 in
        let start : ◌≡◌ {A = AigEdge} (edge_to 1 false) s.start = cc in
        let equal =
        equal_to_itself (with_node one_leaf Leaf) s.mid s.equal
        (subst (λ b. FoldsOrAddsEq (with_node one_leaf Leaf) s.mid (edge_to 1 false) b s.equal)
        (sym start) s.compares) in
        let implied =
        folded s.mid steps.0 (edge_to 2 false) (inverse s.equal) (inverse e) (edge_to 0 false)
        (false_second equal.0 refl) s.implies in
        let all : new.nodes ≡ with_node one_leaf Leaf = steps.2 ∙ implied.1 ∙ equal.1 in
        let n : ◌≡◌ {A = ℕ} 4 3 = sym count ∙ ap length all in absurd (omega arith)
    by (e ∷ f ∷ more) steps = steps.2

-- ---- constraints at the present step alone

-- input 1 is a constraint, and true is bad
abbrev always_bad : Circuit
always_bad = circuit_with one_leaf (1 ∷ []) [] (edge_to 0 true ∷ []) (edge_to 1 false ∷ [])

-- the bad edge is the constraint: it holds at a step though the constraint failed before
abbrev present_alone : Circuit
present_alone =
    circuit_with (node 0 False ∷ node 1 Leaf ∷ node 2 Leaf ∷ node 3 (and_of 1 false 2 false) ∷ [])
    (1 ∷ []) (constraints_held_latch 2 (edge_to 3 false) ∷ []) (edge_to 1 false ∷ []) []

-- input 1 from step 1 on, and the latch at step 0
abbrev fails_once : ℕ → ℕ → Bool
fails_once t n = if t == 0 then n == 2 else n == 1

not_present_alone : ¬ FoldsConstraints always_bad present_alone
unfolding node_value tree_of
not_present_alone m =
    let says =
    m.bads.first 1 fails_once from_start 1 (edge_to 0 true) (edge_to 1 false) (omega arith) refl
    refl in
    let held = (says.0 refl).1 0 (omega arith) 0 (edge_to 1 false) (omega arith) in false≢true held
  where
    from_start : IsRunFromInitial present_alone 1 fails_once
    from_start = record { run = runs; start = starts }
      where
        starts : IsInitial present_alone (fails_once 0)
        starts zero d h = refl
        starts (suc k) d h = absurd (omega arith)

        runs : IsRun present_alone 1 fails_once
        runs zero lt zero d h = refl
        runs zero lt (suc k) d h = absurd (omega arith)
        runs (suc t) lt k d h = absurd (omega arith)

-- ---- the initial edge's equality at every step

-- the constraint that latch 2 equals input 1: !6 with 4 = and(1,2), 5 = and(!1,!2) and 6 =
-- and(!4,!5)
abbrev always_equal : Circuit
always_equal =
    circuit_with
    (node 0 False ∷ node 1 Leaf ∷ node 2 Leaf ∷ node 3 Leaf ∷ node 4 (and_of 1 false 2 false)
    ∷ node 5 (and_of 1 true 2 true) ∷ node 6 (and_of 4 true 5 true) ∷ []) (1 ∷ [])
    (record { input = 2; next = edge_to 2 false; init = None }
    ∷ record { input = 3; next = edge_to 0 false; init = Some (edge_to 0 true) } ∷ []) []
    (edge_to 6 true ∷ [])

-- input 1 alone
abbrev one_alone : ℕ → Bool
one_alone n = n == 1

not_always_equal : ¬ ConstrainsInits started_by_input always_equal
unfolding node_value tree_of
not_always_equal m =
    let each =
    subst
    (λ constrained. AllZip
    (ImpliesInit (with_node started_by_input.nodes Leaf) always_equal.nodes (edge_to 3 false))
    constrained started_by_input.latchs) (sym m.constraints) (m.each variable) in
    let says : false ≡ true =
    (each.0 one_alone).1 (λ (not_first : false ≡ true). absurd (false≢true not_first)) in
    false≢true says
  where
    variable : ¬ All HasConstantInit started_by_input.latchs
    variable all =
        let e : ◌≡◌ {A = ℕ} 1 0 =
        all 0 (record { input = 0; next = edge_to 0 false; init = None }) (omega arith) in
        absurd (omega arith)
