-- Where the steps of an unrolled circuit end, and what of its lists each step has.
use Rattle.aig_base.proofs.Words.{◌≡◌, ℕ, zero, suc, ◌+◌, ◌-◌, ◌*◌, ◌<◌, ◌≤◌, ◌^◌, Some, List, [], ◌∷◌, ◌++◌, length, get_or, drop, map, take, refl, sym, ap, subst, ◌∙◌, add-one, append_assoc, arith, cases_lt, inl, inr, All, All-weaker, flat_map, get_or-append-add, get_or_append_left, length-append, length-map, length-replicate, mul-le-mul_right, replicate, same_Some, slice_get-get_or}
use Rattle.aig_base.specs.declared.logic.literal.Lit.{Lit}
use Rattle.aig_base.specs.Formula.{clauses_in}
use Rattle.aig_circuit.specs.declared.edge.AigEdge.{AigEdge}
use Rattle.aig_circuit.specs.declared.node.AigNode.{AigNode}
use Rattle.aig_circuit.specs.declared.node.AigNodeType.TheVariants.{False, And}
use Rattle.aig_circuit.proofs.Words.{AreNodes, Circuit, IsCircuit, IsInRange, inverse, kind_at, lit_of}
use Rattle.aig_circuit.proofs.Trees.{kind_at-read}
use Rattle.aig_runs.specs.Queries.{asking_clauses, unit_clauses}
use Rattle.aig_unroll.specs.Frame.{image_in, frame_to, next_of, with_steps}
use Rattle.aig_unroll.specs.Places.{other_leaves}
use Rattle.aig_unroll.specs.Unroll.{UnrollsTo}
use Rattle.aig_steps.specs.Ends.{HasVariables, all_later, constraints_at, entries_at, first_clauses, later_clauses}
use Rattle.aig_steps.specs.Kept.{ends_to}
use Rattle.aig_steps.specs.Stepwise.{Begins, bads_at, kind_clauses, node_clauses, step_clauses, stepwise_clauses, stepwise_query, stepwise_window}
use Rattle.aig_steps.specs.Unrolling.{inputs_after}
use Rattle.aig_steps.proofs.Beginnings.{begins_all, drop_begins, entries_first, entries_last, entries_next, long, take_begins}
use Rattle.aig_steps.proofs.Further.{constraints_begin, step_begins}

module _ (c : Circuit) where
  -- ---- ends

  pub ends_long : (k : ℕ) → length (ends_to c k) ≡ k + 1
  ends_long zero = refl
  ends_long (suc k) = length-append (ends_to c k) (length (with_steps c (suc k)).nodes ∷ [])
      ∙ omega (arith, ends_long k)

  pub end_at : (t k d : ℕ) → t ≤ k → get_or (ends_to c k) t d ≡ length (with_steps c t).nodes
  end_at t zero d h =
      let none : t ≡ 0 = omega arith in
      subst (λ n. get_or (ends_to c zero) n d ≡ length (with_steps c n).nodes) (sym none) refl
  end_at t (suc k) d h =
      let last = length (with_steps c (suc k)).nodes ∷ [] in
      elim (cases_lt k t) [
        | inl past ↦ (
            let here : t ≡ length (ends_to c k) + 0 = omega (arith, ends_long k) in
            let same : suc k ≡ t = omega arith in
            ap (λ n. get_or (ends_to c k ++ last) n d) here
            ∙ get_or-append-add (ends_to c k) last 0 d
            ∙ ap (λ n. length (with_steps c n).nodes) same)
        | inr low ↦ get_or_append_left (ends_to c k) last d t (omega (arith, ends_long k))
            ∙ end_at t k d low
      ]

  -- ---- nodes

  nodes_begin : (t k : ℕ) → t ≤ k → Begins (with_steps c t).nodes (with_steps c k).nodes
  nodes_begin = begins_all (λ t. (with_steps c t).nodes) (λ t. step_begins c (with_steps c t))

  pub nodes_long : (t k : ℕ) → t ≤ k → length (with_steps c t).nodes ≤ length (with_steps c k).nodes
  nodes_long t k h =
      let begins = nodes_begin t k h in
      omega (arith, ap length begins.1 ∙ length-append (with_steps c t).nodes begins.0)

  -- the nodes up to the end of a step
  pub nodes_to : (t k : ℕ) → t ≤ k → take (length (with_steps c t).nodes) (with_steps c k).nodes ≡
      (with_steps c t).nodes
  nodes_to t k h = take_begins (with_steps c t).nodes (with_steps c k).nodes (nodes_begin t k h)

  -- ---- constraints and bad edges

  abbrev next_constraints : (t : ℕ) → Begins (with_steps c t).properties.constraints
      (with_steps c (suc t)).properties.constraints
  next_constraints t = constraints_begin c (with_steps c t)

  as_many_constraints : (t : ℕ) → length (next_constraints t).0 ≡ length c.properties.constraints
  as_many_constraints t =
      let old = with_steps c t in
      length-map c.properties.constraints
      (image_in (frame_to c.nodes (next_of old.latchs) old.nodes (length c.nodes)).images)

  abbrev next_bads : (t : ℕ) → Begins (with_steps c t).properties.bads
      (with_steps c (suc t)).properties.bads
  next_bads t =
      let old = with_steps c t in (
        map (image_in (frame_to c.nodes (next_of old.latchs) old.nodes
            (length c.nodes)).images) c.properties.bads,
        refl,
      )

  as_many_bads : (t : ℕ) → length (next_bads t).0 ≡ length c.properties.bads
  as_many_bads t =
      let old = with_steps c t in
      length-map c.properties.bads
      (image_in (frame_to c.nodes (next_of old.latchs) old.nodes (length c.nodes)).images)

  -- the constraints of a step
  pub constraints_there : (t k : ℕ) → t ≤ k
      → entries_at (length c.properties.constraints) t
      (with_steps c k).properties.constraints ≡ constraints_at c t
  constraints_there zero k h = entries_first
      (λ t. (with_steps c t).properties.constraints) next_constraints
      (length c.properties.constraints) refl as_many_constraints k
  constraints_there (suc t) k h = entries_next
      (λ t. (with_steps c t).properties.constraints) next_constraints
      (length c.properties.constraints) refl as_many_constraints t k h

  pub constraints_long : (k : ℕ) → length (with_steps c k).properties.constraints ≡
      (k + 1) * length c.properties.constraints
  constraints_long = long (λ t. (with_steps c t).properties.constraints) next_constraints
      (length c.properties.constraints) refl as_many_constraints

  -- the bad edges of a step
  pub bads_there : (t k : ℕ) → t ≤ k → entries_at (length c.properties.bads) t
      (with_steps c k).properties.bads ≡ bads_at c t
  bads_there = entries_last (λ t. (with_steps c t).properties.bads) next_bads
      (length c.properties.bads) refl as_many_bads

  pub bads_long : (k : ℕ) → length (with_steps c k).properties.bads ≡
      (k + 1) * length c.properties.bads
  bads_long = long (λ t. (with_steps c t).properties.bads) next_bads
      (length c.properties.bads) refl as_many_bads

  -- those of the steps up to one
  pub first_bads_there : (t k : ℕ) → t ≤ k
      → take ((t + 1) * length c.properties.bads) (with_steps c k).properties.bads ≡
      (with_steps c t).properties.bads
  first_bads_there t k h =
      let all = λ (t : ℕ). (with_steps c t).properties.bads in
      ap (λ n. take n (all k)) (sym (bads_long t))
      ∙ take_begins (all t) (all k) (begins_all all next_bads t k h)

  -- there is room for the entries of a step
  pub room : (count t k : ℕ) → t ≤ k → (t + 1) * count ≤ (k + 1) * count
  room count t k h = let up : t + 1 ≤ k + 1 = omega arith in mul-le-mul_right count up

  -- ---- inputs

  abbrev next_inputs : (t : ℕ) → Begins (with_steps c t).inputs (with_steps c (suc t)).inputs
  next_inputs t = (inputs_after c t, refl)

  module _ (k : ℕ) (to : (t : ℕ) → t ≤ k → UnrollsTo c t (with_steps c t)) where
    abbrev others : ℕ
    others = length (other_leaves c)

    pub inputs_long : (t : ℕ) → t ≤ k → length
        (with_steps c t).inputs ≡ length c.inputs + t * others
    inputs_long t h = (to t h).inputs

    -- those that a step adds
    pub inputs_there : (t : ℕ) → suc t ≤ k
        → drop (length c.inputs + t * others)
        (take (length c.inputs + suc t * others) (with_steps c k).inputs) ≡ inputs_after c t
    inputs_there t h =
        let old = (with_steps c t).inputs in
        let new = (with_steps c (suc t)).inputs in
        let all = (with_steps c k).inputs in
        let low : t ≤ k = omega arith in
        ap (λ n. drop (length c.inputs + t * others) (take n all)) (sym (inputs_long (suc t) h))
        ∙ ap (drop (length c.inputs + t * others)) (take_begins new all
        (begins_all (λ t. (with_steps c t).inputs) next_inputs (suc t) k h))
        ∙ ap (λ n. drop n new) (sym (inputs_long t low))
        ∙ drop_begins old new (next_inputs t)

-- ---- what has variables

pub all_have : (d : Circuit) → IsCircuit d → length d.nodes < 2 ^ 31 → All HasVariables d.nodes
all_have d is few n none h =
    let node = get_or d.nodes n none in
    let number : node.node_id ≡ n = is.nodes.numbered n node (slice_get-get_or d.nodes n none h) in
    let gate = λ (a b : AigEdge) (e : node.typ ≡ And a b). kind_at-read d.nodes n none (And a b) h
    (sym e) in
    record {
      own = omega (arith, number);
      first = λ a b e. omega (arith, is.nodes.ordered.first_before n a b (gate a b e));
      second = λ a b e. omega (arith, is.nodes.ordered.second_before n a b (gate a b e));
    }

pub edges_below : (d : Circuit) (es : List AigEdge) → length d.nodes < 2 ^ 31
    → All (IsInRange d.nodes) es → All (λ e. e.node_id < 2 ^ 31) es
edges_below d es few all =
    All-weaker (IsInRange d.nodes) (λ e. e.node_id < 2 ^ 31) (λ e h. omega arith) es all

-- ---- the clause of node 0

first_node_is : (nodes : List AigNode) → AreNodes nodes
    → flat_map node_clauses nodes ≡ first_clauses 0 ++ flat_map node_clauses (drop 1 nodes)
first_node_is [] are = absurd (none are.false_first)
  where
    none : kind_at [] 0 ≡ Some False → ⊥
    none e = cc
first_node_is (n ∷ ns) are =
    let kind : n.typ ≡ False = same_Some n.typ False are.false_first in
    let number : n.node_id ≡ 0 = are.numbered 0 n refl in
    ap (λ cs. cs ++ flat_map node_clauses ns)
    (ap (λ m. kind_clauses m n.typ) number ∙ ap (kind_clauses 0) kind)

module _ (c : Circuit) (is : IsCircuit c) where
  -- a step has first the clause of node 0, at step 0
  pub first_is : (k : ℕ) → step_clauses c k ≡ first_clauses k ++ later_clauses c k
  first_is zero =
      ap (λ cs. cs ++ unit_clauses c.properties.constraints) (first_node_is c.nodes is.nodes)
  first_is (suc k) = refl

  pub all_are : (k : ℕ) → stepwise_clauses c k ≡ first_clauses 0 ++ all_later c (suc k)
  all_are zero = first_is zero
  all_are (suc k) = ap (λ cs. cs ++ step_clauses c (suc k)) (all_are k)

-- no clauses of so many variables
no_more : (count : ℕ) → clauses_in (replicate count []) ≡ []
no_more zero = refl
no_more (suc count) = no_more count

-- what is checked are the clause of node 0 and further ones
pub checked_is : (names : List (List (List Lit))) (further : List (List Lit)) (count : ℕ)
    → names ≡ first_clauses 0 ∷ replicate count []
    → clauses_in names ++ further ≡ first_clauses 0 ++ further
checked_is names further count named =
    ap (λ ns. clauses_in ns ++ further) named
    ∙ ap (λ cs. (first_clauses 0 ++ cs) ++ further) (no_more count)

module _ (c : Circuit) (is : IsCircuit c) where
  first_then : (k n : ℕ) → n ≡ suc k → first_clauses 0 ++ all_later c n ≡ stepwise_clauses c k
  first_then k n same = ap (λ m. first_clauses 0 ++ all_later c m) same ∙ sym (all_are c is k)

  -- and so those of a query
  pub query_is : (k : ℕ) (clauses : List (List Lit))
      → clauses ≡ all_later c (k + 1) ++ asking_clauses c.latchs [] (bads_at c k)
      → first_clauses 0 ++ clauses ≡ stepwise_query c k
  query_is k clauses made =
      ap (λ cs. first_clauses 0 ++ cs) made
      ∙ ap (λ cs. cs ++ asking_clauses c.latchs [] (bads_at c k))
      (first_then k (k + 1) (add-one k))

  -- or of a window
  pub window_is : (k last : ℕ) (clauses : List (List Lit)) → k + 1 ≡ last
      → clauses ≡ all_later c (last + 1)
      ++ unit_clauses (map inverse (with_steps c k).properties.bads)
      ++ map lit_of (bads_at c last) ∷ []
      → first_clauses 0 ++ clauses ≡ stepwise_window c k
  window_is k last clauses same made =
      let end = λ (n : ℕ). map lit_of (bads_at c n) ∷ [] in
      let inverses = λ (es : List AigEdge). unit_clauses (map inverse es) in
      let early = (with_steps c k).properties.bads in
      ap (λ cs. first_clauses 0 ++ cs) made
      ∙ ap (λ cs. cs ++ inverses early ++ end last) (first_then last (last + 1) (add-one last))
      ∙ ap (λ n. stepwise_clauses c n ++ inverses early ++ end n) (sym same)
      ∙ ap (λ es. stepwise_clauses c (k + 1) ++ inverses es ++ end (k + 1))
      (sym (first_bads_there c k (k + 1) (omega arith)))

-- so many names have so many nodes
pub names_long : (names : List (List (List Lit))) (nodes : ℕ) → 1 ≤ nodes
    → names ≡ first_clauses 0 ∷ replicate (nodes - 1) [] → length names ≡ nodes
names_long names nodes some are =
    omega (arith, ap length are, length-replicate {A = List (List Lit)} (nodes - 1) [], some)

-- clauses with those of one step more
pub later_more : (c : Circuit) (old now next : List (List Lit)) (s n : ℕ)
    → now ≡ old ++ all_later c s → next ≡ now ++ later_clauses c s → n ≡ suc s
    → next ≡ old ++ all_later c n
later_more c old now next s n before more is =
    more
    ∙ ap (λ cs. cs ++ later_clauses c s) before
    ∙ append_assoc old (all_later c s) (later_clauses c s)
    ∙ ap (λ m. old ++ all_later c m) (sym is)
