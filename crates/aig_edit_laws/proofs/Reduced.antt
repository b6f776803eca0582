-- A circuit that has a written form has one when it is reduced.
use Rattle.aig_base.proofs.Words.{◌≡◌, ℕ, ◌<◌, ◌^◌, Bool, true, false, cond, List, [], ◌∷◌, ◌++◌, length, map, sym, subst, inl, inr, arith, All, Contains, filter, option_to_list, ◌==◌, length-map, All-append, All-cons, All-contains, All-contains_itself, All-filter, All-map, All-nil, All-weaker, Contains-append_cases, Contains-append_left, Contains-append_right, filter_passes, count_by-le-length, length-filter}
use Rattle.aig.proofs.Strashed.{IsWritable-strashed}
use Rattle.aig_circuit.specs.declared.edge.AigEdge.{AigEdge}
use Rattle.aig_circuit.specs.declared.node.AigLatch.{AigLatch}
use Rattle.aig_circuit.proofs.Words.{Circuit, IsCircuit, IsClosed, IsLeaf, latch_leaves, HasConstantInit, initial_edges, property_edges, DependsOn, is_in, position_of, renumbered_edge, renumbered_latch}
use Rattle.aig_circuit.proofs.Listed.{All-entries_of}
use Rattle.aig_circuit.proofs.Lists.{All-first, All-flat_map, All-second}
use Rattle.aig_cone.specs.Refine.{AreKept, refined, refining_roots, variable_nodes}
use Rattle.aig_cone.proofs.Keeping.{kept-few, reached_within}
use Rattle.aig_format.specs.Writable.{FitsFormat, HasLineFeed, IsWritable, list_lengths, named_nodes}
use Rattle.aig_edit_laws.specs.Reduction.{IsAskedCone, IsReduced, asked_alone}
use Rattle.aig_edit_laws.proofs.AskedCones.{bads_in, constraints_in, latch_leaves-asked, starts_in, step_in}
use Rattle.aig_renumber.proofs.Kept.{is_in-back, is_in-there}
use Rattle.aig_renumber.proofs.NodesInOrder.{length-nodes_in_order}
use Rattle.aig_strash.specs.Strash.{strashed}
use Rattle.aig_edit_laws.proofs.PlainForms.{filter_has, plain-cut}

-- nodes that aren't 0
variable_in : (P : ℕ → Type 0) (es : List AigEdge) → All (λ (e : AigEdge). P e.node_id) es
    → All P (variable_nodes es)
variable_in P es all =
    All-flat_map P (λ (e : AigEdge). cond (e.node_id == 0) [] (e.node_id ∷ [])) es
    (All-weaker (λ (e : AigEdge). P e.node_id) _ (λ e h. one (e.node_id == 0) e.node_id h) es all)
  where
    one : (b : Bool) (n : ℕ) → P n → All P (cond b [] (n ∷ []))
    one true n h = All-nil P
    one false n h = All-cons P n [] h (All-nil P)

module _ (c : Circuit) (is : IsCircuit c) (cone : List ℕ) (is_cone : IsAskedCone c cone) where
  abbrev asked : Circuit
  asked = asked_alone cone c

  abbrev In : ℕ → Type 0
  In = Contains cone

  abbrev read : AigLatch → Bool
  read latch = is_in cone latch.input

  leaves_in : All In (latch_leaves asked.latchs)
  leaves_in =
      let leaves = latch_leaves c.latchs in
      subst (All In) (sym (latch_leaves-asked cone c))
      (All-weaker (λ n. is_in cone n ≡ true) In (λ n. is_in-back cone n)
      (filter (is_in cone) leaves) (filter_passes (is_in cone) leaves))

  nodes_in : All In (map (λ (e : AigEdge). e.node_id) (property_edges asked))
  nodes_in =
      let InCone = λ (e : AigEdge). In e.node_id in
      All-map In (λ (e : AigEdge). e.node_id) (property_edges asked)
      (All-entries_of InCone asked.properties (record {
        outputs = All-nil InCone;
        bads = bads_in c is cone is_cone;
        constraints = constraints_in c is cone is_cone;
        justice = All-nil (All InCone);
        fairness = All-nil InCone;
      }))

  starting_in : All In (variable_nodes (initial_edges asked.latchs))
  starting_in =
      let InCone = λ (e : AigEdge). In e.node_id in
      let starts = λ (latch : AigLatch). option_to_list latch.init in
      variable_in In (initial_edges asked.latchs)
      (All-flat_map InCone starts asked.latchs
      (All-filter read (λ latch. All InCone (starts latch)) c.latchs (starts_in c is cone is_cone)))

  roots_in : All In (refining_roots asked)
  roots_in =
      let nodes = map (λ (e : AigEdge). e.node_id) (property_edges asked) in
      All-append In (nodes ++ latch_leaves asked.latchs) (variable_nodes (initial_edges asked.latchs))
      (All-append In nodes (latch_leaves asked.latchs) nodes_in leaves_in) starting_in

  along : (n m : ℕ) → In n → DependsOn asked n m → In m
  along n m has (inl gate) = step_in c is cone is_cone n m has (inl gate)
  along n m has (inr (latch, (k, low, at), from, to)) =
      let old : Contains c.latchs latch =
      subst (Contains c.latchs) at (All-filter read (Contains c.latchs) c.latchs (All-contains_itself c.latchs) k latch low) in
      step_in c is cone is_cone n m has (inr (latch, old, from, to))

  -- what is kept is in the cone
  kept_in : (kept : List ℕ) → AreKept asked kept → (n : ℕ) → Contains kept n → In n
  kept_in kept are n has = elim ((are.exactly n).0 has) [
    | inl zeroth ↦ (is_cone n).1 (inl zeroth)
    | inr reached ↦ reached_within In (λ m. All-contains In (refining_roots asked) m roots_in) along n reached
  ]

  -- so of the circuit's leaves those that are kept are inputs or read latches'
  closed_in : IsClosed c → (kept : List ℕ) → AreKept asked kept → (n : ℕ) → Contains kept n
      → IsLeaf c.nodes n → Contains (named_nodes asked) n
  closed_in closed kept are n has leaf = elim (Contains-append_cases c.inputs (latch_leaves c.latchs) n (closed n leaf)) [
    | inl input ↦ Contains-append_left c.inputs (latch_leaves asked.latchs) n input
    | inr latch ↦ Contains-append_right c.inputs (latch_leaves asked.latchs) n
        (subst (λ ns. Contains ns n) (sym (latch_leaves-asked cone c))
        (filter_has (is_in cone) (latch_leaves c.latchs) n (is_in-there cone n (kept_in kept are n has)) latch))
  ]

  names_in : All (λ n. ¬ HasLineFeed c.names n) (named_nodes c)
      → All (λ n. ¬ HasLineFeed c.names n) (named_nodes asked)
  names_in names =
      let P : ℕ → Type 0 = λ n. ¬ HasLineFeed c.names n in
      let leaves = latch_leaves c.latchs in
      All-append P c.inputs (latch_leaves asked.latchs) (All-first P c.inputs leaves names)
      (subst (All P) (sym (latch_leaves-asked cone c)) (All-filter (is_in cone) P leaves (All-second P c.inputs leaves names)))

-- counts of a header that are few, among them three that are 0
few_counts : (i l b n : ℕ) → i < 2 ^ 32 → l < 2 ^ 32 → b < 2 ^ 32 → n < 2 ^ 32
    → All (λ n. n < 2 ^ 32) (i ∷ l ∷ 0 ∷ b ∷ n ∷ 0 ∷ 0 ∷ [])
few_counts i l b n few_i few_l few_b few_n =
    let P : ℕ → Type 0 = λ n. n < 2 ^ 32 in
    let none : 0 < 2 ^ 32 = omega arith in
    let last = All-cons P 0 (0 ∷ []) none (All-cons P 0 [] none (All-nil P)) in
    let middle = All-cons P b (n ∷ 0 ∷ 0 ∷ []) few_b (All-cons P n (0 ∷ 0 ∷ []) few_n last) in
    let from_latchs = All-cons P l (0 ∷ b ∷ n ∷ 0 ∷ 0 ∷ []) few_l
    (All-cons P 0 (b ∷ n ∷ 0 ∷ 0 ∷ []) none middle) in
    All-cons P i (l ∷ 0 ∷ b ∷ n ∷ 0 ∷ 0 ∷ []) few_i from_latchs

module _ (c : Circuit) (cone kept : List ℕ) (is : IsCircuit c) (w : IsWritable c)
    (is_cone : IsAskedCone c cone) (is_asked : IsCircuit (asked_alone cone c))
    (are : AreKept (asked_alone cone c) kept) where
  abbrev cut : Circuit
  cut = refined kept (asked_alone cone c)

  abbrev edge : AigEdge → AigEdge
  edge = renumbered_edge (position_of kept)

  few_lists : All (λ n. n < 2 ^ 32) (list_lengths cut)
  few_lists =
      let counts = w.small.lists in
      let number = position_of kept in
      let fewer = length-filter (is_in kept) c.inputs in
      let most = count_by-le-length (is_in kept) c.inputs in
      let inputs = length-map (filter (is_in kept) c.inputs) number in
      let read = λ (latch : AigLatch). is_in cone latch.input in
      let read_latchs = length-filter read c.latchs in
      let most_latchs = count_by-le-length read c.latchs in
      let latchs = length-map (filter read c.latchs) (renumbered_latch number) in
      few_counts (length cut.inputs) (length cut.latchs) (length cut.properties.bads)
      (length cut.properties.constraints)
      (omega (arith, counts 0 0 (omega arith), inputs, fewer, most))
      (omega (arith, counts 1 0 (omega arith), latchs, read_latchs, most_latchs))
      (omega (arith, counts 3 0 (omega arith), length-map c.properties.bads edge))
      (omega (arith, counts 4 0 (omega arith), length-map c.properties.constraints edge))

  fits : FitsFormat cut
  fits = record {
    nodes =
        let few = kept-few (asked_alone cone c) kept is_asked are in
        omega (arith, w.small.nodes, length-nodes_in_order c.nodes (position_of kept) 0 kept, few);
    lists = few_lists;
    sets = All-nil (λ (set : List AigEdge). length set < 2 ^ 32);
  }

  cut_writable : IsWritable cut
  cut_writable =
      let read = λ (latch : AigLatch). is_in cone latch.input in
      let plain =
      plain-cut (asked_alone cone c) kept is_asked are (closed_in c is cone is_cone w.closed kept are)
      (All-filter read HasConstantInit c.latchs w.start) (names_in c is cone is_cone w.names) in
      record { closed = plain.closed; start = plain.start; names = plain.names; small = fits }

  pub writable : (is_cut : IsCircuit cut) → IsWritable (strashed cut)
  writable is_cut = IsWritable-strashed cut is_cut cut_writable

pub reduced_writable : ((c : Circuit) (cone : List ℕ) → IsCircuit c
    → IsCircuit (asked_alone cone c))
    → ((c : Circuit) (kept : List ℕ) → IsCircuit c → AreKept c kept → IsCircuit (refined kept c))
    → (c d : Circuit) → IsCircuit c → IsWritable c → IsReduced c d → IsWritable d
reduced_writable asks cuts c d is w reduced =
    let cone = reduced.cone in
    let kept = reduced.kept in
    let is_asked = asks c cone is in
    let is_cut = cuts (asked_alone cone c) kept is_asked reduced.are_kept in
    subst IsWritable (sym reduced.exact)
    (writable c cone kept is w reduced.is_cone is_asked reduced.are_kept is_cut)
