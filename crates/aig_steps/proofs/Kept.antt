-- What the fields of an unrolling say of its circuit and its steps.
use Rattle.aig_base.proofs.Words.{◌≡◌, ℕ, zero, suc, ◌+◌, ◌-◌, ◌*◌, ◌/◌, ◌<◌, ◌≤◌, ◌^◌, List, [], ◌∷◌, ◌++◌, length, get_or, drop, take, refl, sym, ap, subst, ◌∙◌, add-one, arith, cases_lt, inl, inr, All, All-drop, All-same, All-take, drop-take, length-append, suc-mul}
use Rattle.std.proofs.Math.Nat.{div-eq_of_eq-mul_left, mul_comm}
use Rattle.aig_base.specs.Clauses.{AreBelow}
use Rattle.aig_base.specs.Formula.{IsSatisfiable}
use Rattle.aig_circuit.specs.declared.edge.AigEdge.{AigEdge}
use Rattle.aig_circuit.specs.declared.node.AigNode.{AigNode}
use Rattle.aig_circuit.specs.declared.node.AigNodeType.TheVariants.{False}
use Rattle.aig_circuit.proofs.Words.{Circuit, IsCircuit, IsInRange}
use Rattle.aig_circuit.proofs.Trees.{kind_at-within}
use Rattle.aig_unroll.specs.Frame.{with_step, with_steps}
use Rattle.aig_unroll.specs.Places.{other_leaves}
use Rattle.aig_unroll.specs.Unroll.{UnrollsOnce, UnrollsTo}
use Rattle.aig_unroll.proofs.MoreSteps.{unrolls_more}
use Rattle.aig_steps.specs.Ends.{HasVariables, constraints_at, entries_at, first_later, later_nodes}
use Rattle.aig_steps.specs.Kept.{IsKept, ends_to}
use Rattle.aig_steps.specs.Induction.{IsCircuitInductive}
use Rattle.aig_steps.specs.Stepwise.{bads_at, initial_clauses, step_clauses, stepwise_query, stepwise_window}
use Rattle.aig_steps.specs.Unrolling.{IsStepped, SteppedCircuit, inputs_after, next_size}
use Rattle.aig_runs.specs.Safety.{IsCircuitSafeAt}
use Rattle.aig_steps.proofs.Below.{initial_below, step_below}
use Rattle.aig_steps.proofs.Runs.{queries_ask}
use Rattle.aig_steps.proofs.Windows.{windows_inductive}
use Rattle.aig_steps.proofs.Ends.{all_have, bads_long, bads_there, constraints_long, constraints_there, edges_below, end_at, first_bads_there, inputs_long, inputs_there, nodes_long, nodes_to, room}

-- what is taken after what is dropped
pub taken : {X : Type 0} (first end : ℕ) (xs : List X) → first ≤ end
    → take (end - first) (drop first xs) ≡ drop first (take end xs)
taken first end xs h =
    let same : first + (end - first) ≡ end = omega arith in
    sym (drop-take first (end - first) xs) ∙ ap (λ n. drop first (take n xs)) same

-- the clauses of steps and of initial values have numbers
module _ (s : SteppedCircuit) (is : IsStepped s) where
  pub steps_below : (t : ℕ) → t ≤ s.steps → AreBelow (2 ^ 31 - 1) (step_clauses s.circuit t)
  steps_below t h = step_below s.circuit t (2 ^ 31 - 1) is.circuit (is.each t h).0
      (nodes_long s.circuit 0 t (omega arith))
      (omega (arith, nodes_long s.circuit t s.steps h, is.few))

  pub initials_below : AreBelow (2 ^ 31 - 1) (initial_clauses s.circuit)
  initials_below = initial_below s.circuit 0 (2 ^ 31 - 1) is.circuit is.circuit (omega arith)
      (omega (arith, nodes_long s.circuit 0 s.steps (omega arith), is.few))

module _ (c d : Circuit) (ends : List ℕ) (s : SteppedCircuit) (kept : IsKept c d ends)
    (same : record { circuit = c; steps = length ends - 1 } ≡ s) where
  abbrev k : ℕ
  k = length ends - 1

  circuit : c ≡ s.circuit
  circuit = ap (λ (x : SteppedCircuit). x.circuit) same

  steps : k ≡ s.steps
  steps = ap (λ (x : SteppedCircuit). x.steps) same

  low : (t : ℕ) → t ≤ s.steps → t ≤ k
  low t h = omega (arith, steps)

  -- a step is within the ends
  pub within : (t : ℕ) → t ≤ s.steps → t < length ends
  within t h = omega (arith, steps, kept.some)

  -- where a step ends
  pub end_is : (t d0 : ℕ) → t ≤ s.steps → get_or ends t d0 ≡ length (with_steps s.circuit t).nodes
  end_is t d0 h = ap (λ l. get_or l t d0) kept.counted ∙ end_at c t k d0 (low t h)
      ∙ ap (λ (x : Circuit). length (with_steps x t).nodes) circuit

  -- where its nodes but node 0 begin
  pub first_is : (t e d0 : ℕ) → t ≤ s.steps → ¬ (t ≡ 0) → e ≡ get_or ends (t - 1) d0
      → e ≡ first_later s.circuit t
  first_is zero e d0 h ne is = absurd (ne refl)
  first_is (suc t) e d0 h ne is =
      let before : suc t - 1 ≡ t = omega arith in
      is ∙ ap (λ n. get_or ends n d0) before ∙ end_is t d0 (omega arith)

  some_nodes : 0 < length c.nodes
  some_nodes = omega (arith, kind_at-within c.nodes 0 False kept.stepped.circuit.nodes.false_first)

  -- ---- bad edges and constraints

  module _ (t : ℕ) (h : t ≤ s.steps) (few all : List AigEdge) where
    pub bads_room : few ≡ c.properties.bads → all ≡ d.properties.bads
        → (t + 1) * length few ≤ length all
    bads_room few_are all_are =
        let count = ap (λ (es : List AigEdge). (t + 1) * length es) few_are in
        let whole = ap length all_are ∙ ap (λ (x : Circuit). length x.properties.bads) kept.same
        ∙ bads_long c k in
        omega (arith, count, whole, room c (length c.properties.bads) t k (low t h))

    pub bads_are : (some : List AigEdge) → few ≡ c.properties.bads → all ≡ d.properties.bads
        → some ≡ entries_at (length few) t all → some ≡ bads_at s.circuit t
    bads_are some few_are all_are is =
        is
        ∙ ap (λ (es : List AigEdge). entries_at (length es) t all) few_are
        ∙ ap (entries_at (length c.properties.bads) t)
        (all_are ∙ ap (λ (x : Circuit). x.properties.bads) kept.same)
        ∙ bads_there c t k (low t h)
        ∙ ap (λ (x : Circuit). bads_at x t) circuit

    -- those of the steps up to it
    pub first_bads_are : few ≡ c.properties.bads → all ≡ d.properties.bads
        → take ((t + 1) * length few) all ≡ (with_steps s.circuit t).properties.bads
    first_bads_are few_are all_are =
        ap (λ (es : List AigEdge). take ((t + 1) * length es) all) few_are
        ∙ ap (take ((t + 1) * length c.properties.bads))
        (all_are ∙ ap (λ (x : Circuit). x.properties.bads) kept.same)
        ∙ first_bads_there c t k (low t h)
        ∙ ap (λ (x : Circuit). (with_steps x t).properties.bads) circuit

    pub constraints_room : few ≡ c.properties.constraints → all ≡ d.properties.constraints
        → (t + 1) * length few ≤ length all
    constraints_room few_are all_are =
        let count = ap (λ (es : List AigEdge). (t + 1) * length es) few_are in
        let whole = ap length all_are ∙ ap
        (λ (x : Circuit). length x.properties.constraints) kept.same ∙ constraints_long c k in
        omega (arith, count, whole, room c (length c.properties.constraints) t k (low t h))

    pub constraints_are : (some : List AigEdge) → few ≡ c.properties.constraints
        → all ≡ d.properties.constraints → some ≡ entries_at (length few) t all
        → some ≡ constraints_at s.circuit t
    constraints_are some few_are all_are is =
        is
        ∙ ap (λ (es : List AigEdge). entries_at (length es) t all) few_are
        ∙ ap (entries_at (length c.properties.constraints) t)
        (all_are ∙ ap (λ (x : Circuit). x.properties.constraints) kept.same)
        ∙ constraints_there c t k (low t h)
        ∙ ap (λ (x : Circuit). constraints_at x t) circuit

    -- their nodes have variables
    entries_below : (some : List AigEdge) → All (IsInRange (with_steps c k).nodes) all
        → some ≡ entries_at (length few) t all → All (λ e. e.node_id < 2 ^ 31) some
    entries_below some in_range is =
        All-same (λ e. e.node_id < 2 ^ 31) some (entries_at (length few) t all) is
        (All-take (λ e. e.node_id < 2 ^ 31) (length few) (drop (t * length few) all)
        (All-drop (λ e. e.node_id < 2 ^ 31) (t * length few) all
        (edges_below (with_steps c k) all kept.stepped.few in_range)))

    pub bads_below : (some : List AigEdge) → all ≡ d.properties.bads
        → some ≡ entries_at (length few) t all → All (λ e. e.node_id < 2 ^ 31) some
    bads_below some all_are is =
        let range = IsInRange (with_steps c k).nodes in
        entries_below some (All-same range all (with_steps c k).properties.bads
        (all_are ∙ ap (λ (x : Circuit). x.properties.bads) kept.same)
        (kept.stepped.each k (omega arith)).0.properties.bads) is

    pub constraints_below : (some : List AigEdge) → all ≡ d.properties.constraints
        → some ≡ entries_at (length few) t all → All (λ e. e.node_id < 2 ^ 31) some
    constraints_below some all_are is =
        let range = IsInRange (with_steps c k).nodes in
        entries_below some (All-same range all (with_steps c k).properties.constraints
        (all_are ∙ ap (λ (x : Circuit). x.properties.constraints) kept.same)
        (kept.stepped.each k (omega arith)).0.properties.constraints) is

  -- ---- nodes

  module _ (t first end : ℕ) (h : t ≤ s.steps) (first_at : first ≡ first_later s.circuit t)
      (end_at_is : end ≡ length (with_steps s.circuit t).nodes) (nodes : List AigNode)
      (nodes_are : nodes ≡ d.nodes) where
    here : nodes ≡ (with_steps s.circuit s.steps).nodes
    here = nodes_are ∙ ap (λ (x : Circuit). x.nodes) kept.same
        ∙ ap (λ (x : SteppedCircuit). (with_steps x.circuit x.steps).nodes) same

    pub ends_within : end ≤ length nodes
    ends_within = omega (arith, end_at_is, ap length here, nodes_long s.circuit t s.steps h)

    pub in_order : first ≤ end
    in_order = by t h first_at end_at_is
      where
        by : (n : ℕ) → n ≤ s.steps → first ≡ first_later s.circuit n
            → end ≡ length (with_steps s.circuit n).nodes → first ≤ end
        by zero low_n f e = omega (arith, f, e, some_here)
          where
            some_here : 0 < length s.circuit.nodes
            some_here = subst (λ (x : Circuit). 0 < length x.nodes) circuit some_nodes
        by (suc n) low_n f e = omega (arith, f, e, nodes_long s.circuit n (suc n) (omega arith))

    pub nodes_there : take (end - first) (drop first nodes) ≡ later_nodes s.circuit t
    nodes_there =
        taken first end nodes in_order
        ∙ ap (λ n. drop first (take n nodes)) end_at_is
        ∙ ap (λ l. drop first (take (length (with_steps s.circuit t).nodes) l)) here
        ∙ ap (drop first) (nodes_to s.circuit t s.steps h)
        ∙ ap (λ n. drop n (with_steps s.circuit t).nodes) first_at

    pub nodes_have : All HasVariables (take (end - first) (drop first nodes))
    nodes_have =
        All-take HasVariables (end - first) (drop first nodes)
        (All-drop HasVariables first nodes (All-same HasVariables nodes (with_steps c k).nodes
        (nodes_are ∙ ap (λ (x : Circuit). x.nodes) kept.same)
        (all_have (with_steps c k) (kept.stepped.each k (omega arith)).0 kept.stepped.few)))

-- ---- what is checked

module _ (s : SteppedCircuit) (stepped : IsStepped s) (t : ℕ) (h : t ≤ s.steps) where
  pub one_node : 1 ≤ length (with_steps s.circuit t).nodes
  one_node = omega (
    arith,
    kind_at-within (with_steps s.circuit t).nodes 0 False
        (stepped.each t h).0.nodes.false_first,
  )

  pub few_nodes : length (with_steps s.circuit t).nodes < 2 ^ 31
  few_nodes = omega (arith, nodes_long s.circuit t s.steps h, stepped.few)

  -- where the query of the step is refuted, the circuit is safe there
  pub refuted_safe : ¬ IsSatisfiable (stepwise_query s.circuit t) → IsCircuitSafeAt s.circuit t
  refuted_safe none witness = none ((queries_ask s.circuit
      (with_steps s.circuit t) t stepped.circuit (stepped.each t h).0
      (stepped.each t h).1).1 witness)

  -- where a window that ends there is, none is bad first at its end
  pub refuted_inductive : (k : ℕ) → k + 1 ≡ t → ¬ IsSatisfiable (stepwise_window s.circuit k)
      → IsCircuitInductive s.circuit k
  refuted_inductive k same =
      let there = subst (λ n. IsCircuit (with_steps s.circuit n)
      × UnrollsTo s.circuit n (with_steps s.circuit n)) (sym same) (stepped.each t h) in
      windows_inductive s.circuit (with_steps s.circuit (k + 1)) k stepped.circuit there.0 there.1

-- ---- the first circuit, and one step more

pub kept_first : (c d e : Circuit) (ends : List ℕ) → d ≡ c → e ≡ c → IsCircuit c → UnrollsTo c 0 c
    → length c.nodes < 2 ^ 31 → ends ≡ length c.nodes ∷ [] → IsKept d e ends
kept_first c d e ends first second is none few are =
    subst (λ x. IsKept x e ends) (sym first)
    (subst (λ x. IsKept c x ends) (sym second) (subst (IsKept c c) (sym are) (record {
      stepped = record {
        circuit = is;
        each = λ t h. let zero_is : t ≡ 0 =
            omega arith in subst (λ n. IsCircuit (with_steps c n) × UnrollsTo c n (with_steps c n))
            (sym zero_is) (is, none);
        few = few;
      };
      same = refl;
      counted = refl;
      some = omega arith;
    })))

module _ (c d : Circuit) (ends : List ℕ) (s : SteppedCircuit) (kept : IsKept c d ends)
    (same : record { circuit = c; steps = length ends - 1 } ≡ s) (e : Circuit) (more : List ℕ)
    (once : UnrollsOnce c d e) (is : IsCircuit e) (room : next_size s < 2 ^ 31)
    (are : more ≡ ends ++ length e.nodes ∷ []) where
  abbrev last : ℕ
  last = length ends - 1

  longer : length more - 1 ≡ suc last
  longer = omega (arith, kept.some, ap length are ∙ length-append ends (length e.nodes ∷ []))

  old_is : IsCircuit d
  old_is = subst IsCircuit (sym kept.same) (kept.stepped.each last (omega arith)).0

  old_unrolls : UnrollsTo c last d
  old_unrolls = subst (UnrollsTo c last) (sym kept.same) (kept.stepped.each last (omega arith)).1

  next_is : e ≡ with_steps c (suc last)
  next_is = once.exact ∙ ap (with_step c) kept.same

  new_unrolls : UnrollsTo c (suc last) e
  new_unrolls = subst (λ n. UnrollsTo c n e) (add-one last)
      (unrolls_more c d e last kept.stepped.circuit old_is old_unrolls once)

  each : (t : ℕ) → t ≤ suc last → IsCircuit (with_steps c t) × UnrollsTo c t (with_steps c t)
  each t h = elim (cases_lt last t) [
    | inl past ↦ (
        let here : t ≡ suc last = omega arith in
        subst (λ n. IsCircuit (with_steps c n) × UnrollsTo c n (with_steps c n)) (sym here)
        (subst IsCircuit next_is is, subst (UnrollsTo c (suc last)) next_is new_unrolls))
    | inr low ↦ kept.stepped.each t low
  ]

  few : length (with_steps c (suc last)).nodes < 2 ^ 31
  few =
      let size : next_size (record { circuit = c; steps = last }) < 2 ^ 31 =
      subst (λ x. next_size x < 2 ^ 31) (sym same) room in
      omega (
        arith,
        once.size,
        size,
        ap (λ (x : Circuit). length x.nodes) next_is,
        ap
            (λ (x : Circuit). length x.nodes) kept.same,
      )

  pub kept_next : IsKept c e more
  kept_next = record {
    stepped = subst (λ n. IsStepped (record { circuit = c; steps = n })) (sym longer)
        (record { circuit = kept.stepped.circuit; each = each; few = few });
    same = subst (λ n. e ≡ with_steps c n) (sym longer) next_is;
    counted = subst (λ n. more ≡ ends_to c n) (sym longer) (are
        ∙ ap (λ l. l ++ length e.nodes ∷ []) kept.counted
        ∙ ap (λ (x : Circuit). ends_to c last ++ length x.nodes ∷ []) next_is);
    some = omega (arith, longer);
  }

-- ---- inputs

module _ (c d : Circuit) (ends : List ℕ) (s : SteppedCircuit) (kept : IsKept c d ends)
    (same : record { circuit = c; steps = length ends - 1 } ≡ s) (t n : ℕ) (first : 0 < t)
    (last : t ≤ s.steps) (n_is : n ≡ s.steps) (own all again : List ℕ) (own_are : own ≡ c.inputs)
    (all_are : all ≡ d.inputs) (again_are : again ≡ d.inputs) where
  abbrev last_step : ℕ
  last_step = length ends - 1

  abbrev others : ℕ
  others = length (other_leaves c)

  abbrev count : ℕ
  count = (length all - length own) / n

  unrolls : (j : ℕ) → j ≤ last_step → UnrollsTo c j (with_steps c j)
  unrolls j h = (kept.stepped.each j h).1

  n_steps : n ≡ last_step
  n_steps = n_is ∙ sym (ap (λ (x : SteppedCircuit). x.steps) same)

  added : length all - length own ≡ others * n
  added =
      let longer : length all ≡ length c.inputs + last_step * others =
      ap length (all_are ∙ ap (λ (x : Circuit). x.inputs) kept.same)
      ∙ inputs_long c last_step unrolls last_step (omega arith) in
      let turned : last_step * others ≡ others * n =
      mul_comm last_step others ∙ ap (λ m. others * m) (sym n_steps) in
      omega (arith, longer, turned, ap length own_are)

  count_is : count ≡ others
  count_is =
      let some : 0 < n = omega (arith, n_is) in
      div-eq_of_eq-mul_left some added

  pub inputs_are : take (length own + (t - 1) * count + count - (length own + (t - 1) * count))
      (drop (length own + (t - 1) * count) again) ≡ inputs_after s.circuit (t - 1)
  inputs_are =
      let j = t - 1 in
      let start : length own + j * count ≡ length c.inputs + j * others =
      ap (λ l. length l + j * count) own_are ∙ ap (λ q. length c.inputs + j * q) count_is in
      let stop : length own + j * count + count ≡ length c.inputs + suc j * others =
      omega (arith, start, count_is, suc-mul j others) in
      let low : suc j ≤ last_step = omega (arith, n_is, n_steps) in
      taken (length own + j * count) (length own + j * count + count) again (omega arith)
      ∙ ap (λ l. drop (length own + j * count) (take (length own + j * count + count) l))
      (again_are ∙ ap (λ (x : Circuit). x.inputs) kept.same)
      ∙ ap (λ m. drop m
      (take (length own + j * count + count) (with_steps c last_step).inputs)) start
      ∙ ap (λ m. drop (length c.inputs + j * others) (take m (with_steps c last_step).inputs)) stop
      ∙ inputs_there c last_step unrolls j low
      ∙ ap (λ (x : SteppedCircuit). inputs_after x.circuit j) same
