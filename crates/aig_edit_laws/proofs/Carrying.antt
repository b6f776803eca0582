-- A witness of one circuit is a witness of another that gives its properties the same values.
use Rattle.aig_base.proofs.Words.{◌≡◌, ℕ, ◌+◌, ◌≤◌, Bool, ◌||◌, Option, Some, None, List, [], ◌∷◌, IsTrue, get_or, sym, refl, ap, ◌∙◌, arith, All, IfSome, AllByRecursion, list_any, All-from_recursion, recursion_from_All}
use Rattle.aig_circuit.specs.declared.edge.AigEdge.{AigEdge}
use Rattle.aig_circuit.specs.declared.node.AigNode.{AigNode}
use Rattle.aig_circuit.proofs.Words.{Circuit, IsCircuit, edge_value}
use Rattle.aig_circuit.specs.Runs.{AgreeOnLeaves, HaveSameProperties, HaveSameValues, IsRun, IsInitial}
use Rattle.aig_circuit.proofs.Values.{edge_value_by_leaves}
use Rattle.aig_runs.specs.CircuitQueries.{IsCircuitWitness}

-- ---- values, entry for entry

module _ (xs ys : List AigNode) (x y : ℕ → Bool) where
  -- an edge of the first circuit holds, and one of the second
  abbrev First : AigEdge → Type 0
  First e = IsTrue (edge_value xs x e)

  abbrev Second : AigEdge → Type 0
  Second e = IsTrue (edge_value ys y e)

  any_same : (es fs : List AigEdge) → HaveSameValues xs x es ys y fs → list_any (edge_value xs x) es ≡ list_any (edge_value ys y) fs
  any_same [] [] same = refl
  any_same [] (f ∷ fs) same = absurd same
  any_same (e ∷ es) [] same = absurd same
  any_same (e ∷ es) (f ∷ fs) same = ap (λ b. b || list_any (edge_value xs x) es) same.0 ∙ ap (λ b. edge_value ys y f || b) (any_same es fs same.1)

  rec_forth : (es fs : List AigEdge) → HaveSameValues xs x es ys y fs → AllByRecursion First es → AllByRecursion Second fs
  rec_forth [] [] same all = tt
  rec_forth [] (f ∷ fs) same all = absurd same
  rec_forth (e ∷ es) [] same all = absurd same
  rec_forth (e ∷ es) (f ∷ fs) same all = (sym same.0 ∙ all.0, rec_forth es fs same.1 all.1)

  rec_back : (es fs : List AigEdge) → HaveSameValues xs x es ys y fs → AllByRecursion Second fs → AllByRecursion First es
  rec_back [] [] same all = tt
  rec_back [] (f ∷ fs) same all = absurd same
  rec_back (e ∷ es) [] same all = absurd same
  rec_back (e ∷ es) (f ∷ fs) same all = (same.0 ∙ all.0, rec_back es fs same.1 all.1)

  all_forth : (es fs : List AigEdge) → HaveSameValues xs x es ys y fs → All First es → All Second fs
  all_forth es fs same all = All-from_recursion Second fs (rec_forth es fs same (recursion_from_All First es all))

  all_back : (es fs : List AigEdge) → HaveSameValues xs x es ys y fs → All Second fs → All First es
  all_back es fs same all = All-from_recursion First es (rec_back es fs same (recursion_from_All Second fs all))

-- ---- witnesses

module _ (c d : Circuit) (k : ℕ) (x y : ℕ → ℕ → Bool) (properties : (t : ℕ) → HaveSameProperties c (x t) d (y t)) where
  pub witness_forth : IsRun d k y → IsInitial d (y 0) → IsCircuitWitness c k x → IsCircuitWitness d k y
  witness_forth is start w = record {
    is_run = is;
    start = start;
    constraints = λ t h. all_forth c.nodes d.nodes (x t) (y t) c.properties.constraints d.properties.constraints (properties t).constraints (w.constraints t h);
    bad = sym (any_same c.nodes d.nodes (x k) (y k) c.properties.bads d.properties.bads (properties k).bads) ∙ w.bad;
  }

  pub witness_back : IsRun c k x → IsInitial c (x 0) → IsCircuitWitness d k y → IsCircuitWitness c k x
  witness_back is start w = record {
    is_run = is;
    start = start;
    constraints = λ t h. all_back c.nodes d.nodes (x t) (y t) c.properties.constraints d.properties.constraints (properties t).constraints (w.constraints t h);
    bad = any_same c.nodes d.nodes (x k) (y k) c.properties.bads d.properties.bads (properties k).bads ∙ w.bad;
  }

-- ---- leaves

module _ (c : Circuit) (is : IsCircuit c) (k : ℕ) (x z : ℕ → ℕ → Bool) (agree : AgreeOnLeaves c k x z) where
  same_at : (t : ℕ) → t ≤ k → (e : AigEdge) → edge_value c.nodes (x t) e ≡ edge_value c.nodes (z t) e
  same_at t h e = edge_value_by_leaves c.nodes is.nodes.ordered (x t) (z t) (λ n leaf. agree t n h leaf) e

  init_same : (leaf : ℕ) (init : Option AigEdge) → x 0 leaf ≡ z 0 leaf → IfSome init (λ e. edge_value c.nodes (x 0) e ≡ x 0 leaf) → IfSome init (λ e. edge_value c.nodes (z 0) e ≡ z 0 leaf)
  init_same leaf None same h = tt
  init_same leaf (Some e) same h = sym (same_at 0 (omega arith) e) ∙ h ∙ same

  any_alike : (t : ℕ) → t ≤ k → (es : List AigEdge) → list_any (edge_value c.nodes (x t)) es ≡ list_any (edge_value c.nodes (z t)) es
  any_alike t h [] = refl
  any_alike t h (e ∷ es) = ap (λ b. b || list_any (edge_value c.nodes (x t)) es) (same_at t h e) ∙ ap (λ b. edge_value c.nodes (z t) e || b) (any_alike t h es)

  -- a witness goes by the values of leaves at its steps
  pub witness_agrees : IsCircuitWitness c k x → IsCircuitWitness c k z
  witness_agrees w = record {
    is_run = λ t h i d lt.
        let latch = get_or c.latchs i d in
        let leaf = (is.latchs i d lt).leaf in
        sym (agree (t + 1) latch.input (omega arith) leaf) ∙ w.is_run t h i d lt ∙ same_at t (omega arith) latch.next;
    start = λ i d lt.
        let latch = get_or c.latchs i d in
        init_same latch.input latch.init (agree 0 latch.input (omega arith) (is.latchs i d lt).leaf) (w.start i d lt);
    constraints = λ t h i d lt. sym (same_at t h (get_or c.properties.constraints i d)) ∙ w.constraints t h i d lt;
    bad = sym (any_alike k (omega arith) c.properties.bads) ∙ w.bad;
  }
