-- What the functions make is what the definitions say.
use Rattle.aig_base.proofs.Words.{◌≡◌, ◌≢◌, ℕ, ◌+◌, ◌-◌, ◌<◌, ◌≤◌, ◌^◌, List, [], ◌∷◌, ◌++◌, length, map, take, drop, get_or, replicate, sym, ap, subst, ◌∙◌, arith, length-append, All, AllPairs, slice_index, drop_at, length-map, take_at, take_rest, All-append, All-drop, All-map, All-nil, All-take, All-weaker, Contains-get_or, map-map}
use Rattle.aig_circuit.specs.declared.edge.AigEdge.{AigEdge}
use Rattle.aig_circuit.specs.declared.node.AigNode.{AigNode}
use Rattle.aig_circuit.specs.declared.node.AigLatch.{AigLatch}
use Rattle.aig_circuit.proofs.Words.{AddsGates, AreNodes, Circuit, IsCircuit, IsInRange, latch_leaves, inverse, AllProperties, Properties, append_properties, map_properties, no_properties, nodes_in_order, renumbered_edge, renumbered_latch}
use Rattle.aig_circuit.proofs.Joining.{All-inverse}
use Rattle.aig_renumber.specs.Numbers.{IsEdgeIn, IsLatchIn}
use Rattle.aig_renumber.proofs.Circuits.{SpeaksOf-nodes}
use Rattle.aig_renumber.proofs.Places.{rising_from}
use Rattle.aig_join.specs.Joined.{CanShare, added_numbers, further_leaves, joined, joined_by, number_in_joint, other_numbers, shared_of_first, shared_of_second}
use Rattle.aig_join.specs.Names.{is_taken, with_names}
use Rattle.aig_join.specs.Numbers.{AreJointNumbers, AreShared, PutsAt, unnumbered}
use Rattle.aig_join.specs.Miter.{DifferInSteps, HaveSameCounts, IsMiter, compared, moved_compared}
use Rattle.aig_join.specs.Certificate.{certified}
use Rattle.aig_join.proofs.Agreeing.{joined_by-agrees}
use Rattle.aig_join.proofs.Differing.{DifferInSteps-there}
use Rattle.aig_join.proofs.Grown.{IsCircuit-over_gates}
use Rattle.aig_join.proofs.Joined.{AreShared-leaves}
use Rattle.aig_join.proofs.Naming.{Names}
use Rattle.aig_join.proofs.Shared.{IsOther, IsOther-has, others-rise}
use Rattle.aig_join.proofs.Tables.{AreJointNumbers-made, others-distinct, others-there, unnumbered-others}

-- ---- the table

-- there are no more others than nodes
others-few : (ys : List AigNode) (are : AreNodes ys) (shared theirs : List ℕ) (count : ℕ)
    (is : AreShared ys shared theirs) → length (other_numbers shared ys) ≤ length ys
others-few ys are shared theirs count is =
    let list = other_numbers shared ys in
    let low : All (λ n. n < length ys) list = λ k d h.
    (IsOther-has ys are shared theirs count is (get_or list k d)
    (Contains-get_or list k d h)).within in
    few list (others-rise ys are shared theirs count is) low
  where
    few : (ns : List ℕ) → AllPairs (λ m n. m < n) ns → All (λ n. n < length ys) ns → length ns
        ≤ length ys
    few [] rise all = omega arith
    few (n ∷ ns) rise all =
        let last : length ns < length (n ∷ ns) = omega arith in
        let high = rising_from 0 (n ∷ ns) rise (λ k d h. omega arith) (length ns) last in
        omega (arith, high, all (length ns) 0 last)

-- what the others' numbers want
pub record Wants (ys : List AigNode) (count : ℕ) (one list : List ℕ) : Type 0 where
  pub distinct : AllPairs (λ m n. m ≢ n) list
  pub there : All (λ n. n < length one) list
  pub room : count + length list < 2 ^ 64

module _ (ys : List AigNode) (are : AreNodes ys) (shared theirs : List ℕ) (count : ℕ)
    (is : AreShared ys shared theirs) (zeros one : List ℕ) (none : zeros ≡ replicate (length ys) 0)
    (puts : PutsAt zeros one shared (slice_index theirs)) where
  -- the list of those without a number is that of the others
  pub list-is : (read list : List ℕ) → read ≡ one → list ≡ unnumbered read ys → list
      ≡ other_numbers shared ys
  list-is read list same made = made ∙ ap (λ l. unnumbered l ys) same
      ∙ unnumbered-others ys are shared theirs count is zeros one none puts

  pub wants : (table list : List ℕ) → table ≡ one → list ≡ other_numbers shared ys
      → count + length ys < 2 ^ 64 → Wants ys count table list
  wants table list same others room =
      let distinct = others-distinct ys are shared theirs count is zeros one none puts in
      let there = others-there ys are shared theirs count is zeros one none puts in
      let few = others-few ys are shared theirs count is in
      subst (Wants ys count table) (sym others) (subst
      (λ t. Wants ys count t (other_numbers shared ys)) (sym same)
      (record { distinct = distinct; there = there; room = omega arith }))

  pub numbers-made : (table two list : List ℕ) → table ≡ one → list ≡ other_numbers shared ys
      → PutsAt table two list (λ i. count + i) → AreJointNumbers ys shared theirs count two
  numbers-made table two list same others more =
      AreJointNumbers-made ys are shared theirs count is zeros one none puts two
      (subst (λ l. PutsAt one two l (λ i. count + i)) others
      (subst (λ t. PutsAt t two list (λ i. count + i)) same more))

-- ---- the joint lists

module _ (latches : ℕ) (first second : Circuit) (is : IsCircuit first) (other : IsCircuit second)
    (can : CanShare latches first second) where
  pub made-shared : (nodes : List AigNode) (shared theirs : List ℕ) → nodes ≡ second.nodes → shared
      ≡ shared_of_second latches first second → theirs ≡ shared_of_first latches first second
      → AreShared nodes shared theirs
  made-shared nodes shared theirs a b c =
      subst (λ ns. AreShared ns shared theirs) (sym a)
      (subst (λ s. AreShared second.nodes s theirs) (sym b)
      (subst (AreShared second.nodes (shared_of_second latches first second)) (sym c)
      (AreShared-leaves latches first second is other can)))

  added : (k d : ℕ) → k < length (added_numbers latches first second)
      → IsOther second.nodes (shared_of_second latches first second)
      (get_or (added_numbers latches first second) k d)
  added k d h =
      IsOther-has second.nodes other.nodes (shared_of_second latches first second)
      (shared_of_first latches first second) (length first.nodes)
      (AreShared-leaves latches first second is other can)
      (get_or (added_numbers latches first second) k d)
      (Contains-get_or (added_numbers latches first second) k d h)

  pub added-there : (nodes : List AigNode) (others : List ℕ) → nodes ≡ second.nodes → others
      ≡ added_numbers latches first second → All (λ n. n < length nodes) others
  added-there nodes others a b = subst (λ (ns : List AigNode). All (λ n. n < length ns) others)
      (sym a) (subst (All (λ n. n < length second.nodes)) (sym b) (λ k d h. (added k d h).within))

  pub added-some : (others : List ℕ) → others ≡ added_numbers latches first second
      → All (λ n. 0 < n) others
  added-some others b = subst (All (λ n. 0 < n)) (sym b) (λ k d h. (added k d h).some)

  -- what is read of lists past a place
  pub rest-inputs : (inputs : List ℕ) (skip count : ℕ) → inputs ≡ second.inputs → count
      ≡ length second.nodes → All (λ n. n < count) (take (length inputs - skip) (drop skip inputs))
  rest-inputs inputs skip count a b =
      subst (All (λ n. n < count)) (sym (take_rest inputs skip))
      (subst (λ l. All (λ n. n < count) (drop skip l)) (sym a)
      (subst (λ n. All (λ m. m < n) (drop skip second.inputs)) (sym b)
      (All-drop (λ n. n < length second.nodes) skip second.inputs
      (SpeaksOf-nodes second other).inputs)))

  pub rest-latches : (latchs : List AigLatch) (skip count : ℕ) → latchs ≡ second.latchs → count
      ≡ length second.nodes → All (IsLatchIn (λ n. n < count))
      (take (length latchs - skip) (drop skip latchs))
  rest-latches latchs skip count a b =
      subst (All (IsLatchIn (λ n. n < count))) (sym (take_rest latchs skip))
      (subst (λ l. All (IsLatchIn (λ n. n < count)) (drop skip l)) (sym a)
      (subst (λ n. All (IsLatchIn (λ m. m < n)) (drop skip second.latchs)) (sym b)
      (All-drop (IsLatchIn (λ n. n < length second.nodes)) skip second.latchs
      (SpeaksOf-nodes second other).latchs)))

  pub properties-in : (properties : Properties AigEdge) (count : ℕ) → properties ≡ second.properties
      → count ≡ length second.nodes → AllProperties (IsEdgeIn (λ n. n < count)) properties
  properties-in properties count a b =
      subst (AllProperties {E = AigEdge} (IsEdgeIn (λ n. n < count))) (sym a)
      (subst (λ n. AllProperties {E = AigEdge} (IsEdgeIn (λ m. m < n)) second.properties)
      (sym b) (SpeaksOf-nodes second other).properties)

  -- the further leaves are nodes of the second
  pub further-there : All (λ n. n < length second.nodes) (further_leaves latches first second)
  further-there =
      let Low : ℕ → Type 0 = λ n. n < length second.nodes in
      let all = SpeaksOf-nodes second other in
      let latchs = All-drop (IsLatchIn Low) latches second.latchs all.latchs in
      All-append Low (drop (length first.inputs) second.inputs)
      (latch_leaves (drop latches second.latchs))
      (All-drop Low (length first.inputs) second.inputs all.inputs)
      (All-map Low (λ (latch : AigLatch). latch.input) (drop latches second.latchs)
      (λ k d h. (latchs k d h).leaf))

  -- what is made over the lists of the first circuit
  pub joined_over : (lists : Circuit) → lists ≡ first → (table others : List ℕ)
      → AreJointNumbers second.nodes (shared_of_second latches first second)
      (shared_of_first latches first second) (length first.nodes) table → others
      ≡ added_numbers latches first second
      → (nodes : List AigNode) (inputs : List ℕ) (latchs : List AigLatch)
      (properties : Properties AigEdge) (names : Names)
      → nodes ≡ lists.nodes ++ nodes_in_order second.nodes (slice_index table) (length lists.nodes)
      others
      → inputs ≡ lists.inputs ++ map (slice_index table) (drop (length first.inputs) second.inputs)
      → latchs ≡ lists.latchs ++ map (renumbered_latch (slice_index table))
      (drop latches second.latchs)
      → properties ≡ append_properties lists.properties
      (map_properties (renumbered_edge (slice_index table)) second.properties)
      → names ≡ with_names (slice_index table) (is_taken first) second.names lists.names
      (further_leaves latches first second)
      → record
      { nodes = nodes; inputs = inputs; latchs = latchs; properties = properties; names = names }
      ≡ joined latches first second
  joined_over lists same table others numbers others_are nodes inputs latchs properties names a b c
      d e =
      (λ i. record { nodes = a i; inputs = b i; latchs = c i; properties = d i; names = e i })
      ∙ ap (λ (l : Circuit). record l {
        nodes = l.nodes ++ nodes_in_order second.nodes (slice_index table) (length l.nodes) others;
        inputs = l.inputs ++ map (slice_index table) (drop (length first.inputs) second.inputs);
        latchs = l.latchs ++ map (renumbered_latch (slice_index table))
            (drop latches second.latchs);
        properties = append_properties l.properties (map_properties
            (renumbered_edge (slice_index table)) second.properties);
        names = with_names (slice_index table) (is_taken first) second.names l.names
            (further_leaves latches first second);
      }) same
      ∙ ap (λ ns. joined_by (slice_index table) ns latches first second) others_are
      ∙ joined_by-agrees (slice_index table) (number_in_joint latches first second)
      (added_numbers latches first second) latches first second other numbers.numbers

-- ---- the miter

module _ (a b lists : Circuit) (same : lists ≡ joined 0 a b) where
  abbrev moved : List AigEdge → List AigEdge
  moved es = map (renumbered_edge (number_in_joint 0 a b)) es

  outputs-are : lists.properties.outputs ≡ a.properties.outputs ++ moved b.properties.outputs
  outputs-are = ap (λ (c : Circuit). c.properties.outputs) same

  bads-are : lists.properties.bads ≡ a.properties.bads ++ moved b.properties.bads
  bads-are = ap (λ (c : Circuit). c.properties.bads) same

  pub front-is : (n m : ℕ) → n ≡ length a.properties.outputs → m ≡ length a.properties.bads
      → take n lists.properties.outputs ++ take m lists.properties.bads ≡ compared a
  front-is n m e f =
      ap (λ es. take n es ++ take m lists.properties.bads) outputs-are
      ∙ ap (λ es. es ++ take m lists.properties.bads)
      (take_at a.properties.outputs (moved b.properties.outputs) n (sym e))
      ∙ ap (λ es. a.properties.outputs ++ es) (ap (take m) bads-are
      ∙ take_at a.properties.bads (moved b.properties.bads) m (sym f))

  pub back-is : (n m : ℕ) → n ≡ length a.properties.outputs → m ≡ length a.properties.bads
      → drop n lists.properties.outputs ++ drop m lists.properties.bads ≡ moved_compared a b
  back-is n m e f =
      ap (λ es. drop n es ++ drop m lists.properties.bads) outputs-are
      ∙ ap (λ es. es ++ drop m lists.properties.bads)
      (drop_at a.properties.outputs (moved b.properties.outputs) n (sym e))
      ∙ ap (λ es. moved b.properties.outputs ++ es) (ap (drop m) bads-are
      ∙ drop_at a.properties.bads (moved b.properties.bads) m (sym f))

  -- there are as many of both
  pub count-is : HaveSameCounts a b → length (compared a) ≡ length (moved_compared a b)
  count-is counts =
      let outputs = length-map b.properties.outputs (renumbered_edge (number_in_joint 0 a b)) in
      let bads = length-map b.properties.bads (renumbered_edge (number_in_joint 0 a b)) in
      let one = length-append a.properties.outputs a.properties.bads in
      let two = length-append (moved b.properties.outputs) (moved b.properties.bads) in
      omega (arith, counts.outputs, counts.bads)

  pub IsMiter-made : (nodes : List AigNode) (edges others bads : List AigEdge) → edges ≡ compared a
      → others ≡ moved_compared a b → AddsGates lists.nodes nodes
      → DifferInSteps lists.nodes edges others bads nodes
      → IsMiter a b (record lists {
        nodes = nodes;
        properties = record no_properties
            { bads = bads; constraints = lists.properties.constraints };
      })
  IsMiter-made nodes edges others bads e f gates steps = record {
    gates = subst (λ (c : Circuit). AddsGates c.nodes nodes) same gates;
    steps = subst (λ (c : Circuit). DifferInSteps c.nodes (compared a) (moved_compared a b)
        bads nodes) same
        (subst (λ es. DifferInSteps lists.nodes es (moved_compared a b) bads nodes) e
        (subst (λ fs. DifferInSteps lists.nodes edges fs bads nodes) f steps));
    rest = ap (λ (c : Circuit). record c {
      nodes = nodes;
      properties = record no_properties
          { bads = bads; constraints = c.properties.constraints };
    }) same;
  }

-- what is compared of joint lists is there
pub compared-there : (lists : Circuit) → IsCircuit lists → (n m : ℕ)
    → All (IsInRange lists.nodes) (take n lists.properties.outputs ++ take m lists.properties.bads)
compared-there lists is n m = All-append (IsInRange lists.nodes) (take n lists.properties.outputs)
    (take m lists.properties.bads)
    (All-take (IsInRange lists.nodes) n lists.properties.outputs is.properties.outputs)
    (All-take (IsInRange lists.nodes) m lists.properties.bads is.properties.bads)

pub others-compared-there : (lists : Circuit) → IsCircuit lists → (n m : ℕ)
    → All (IsInRange lists.nodes) (drop n lists.properties.outputs ++ drop m lists.properties.bads)
others-compared-there lists is n m = All-append (IsInRange lists.nodes)
    (drop n lists.properties.outputs) (drop m lists.properties.bads)
    (All-drop (IsInRange lists.nodes) n lists.properties.outputs is.properties.outputs)
    (All-drop (IsInRange lists.nodes) m lists.properties.bads is.properties.bads)

pub IsCircuit-mitered : (lists : Circuit) → IsCircuit lists
    → (nodes : List AigNode) (edges others bads : List AigEdge) → AddsGates lists.nodes nodes
    → DifferInSteps lists.nodes edges others bads nodes
    → IsCircuit (record lists {
      nodes = nodes;
      properties = record no_properties
          { bads = bads; constraints = lists.properties.constraints };
    })
IsCircuit-mitered lists is nodes edges others bads gates steps = IsCircuit-over_gates lists is nodes
    gates.grows (record no_properties { bads = bads; constraints = lists.properties.constraints })
    (record {
      outputs = All-nil (IsInRange nodes);
      bads = DifferInSteps-there lists.nodes edges others bads nodes steps;
      constraints = All-weaker (IsInRange lists.nodes) (IsInRange nodes)
          (λ e h. let longer = gates.grows.longer in omega arith) lists.properties.constraints
          is.properties.constraints;
      justice = All-nil (All (IsInRange nodes));
      fairness = All-nil (IsInRange nodes);
    })

-- ---- the certified circuit

pub IsCircuit-certifying : (lists : Circuit) → IsCircuit lists → (count : ℕ)
    → IsCircuit (record lists {
      properties = record no_properties {
        bads = lists.properties.bads ++ map inverse (drop count lists.properties.constraints);
        constraints = take count lists.properties.constraints;
      };
    })
IsCircuit-certifying lists is count = record {
  nodes = is.nodes;
  inputs = is.inputs;
  inputs_distinct = is.inputs_distinct;
  latchs = is.latchs;
  latchs_distinct = is.latchs_distinct;
  apart = is.apart;
  properties = record {
    outputs = All-nil (IsInRange lists.nodes);
    bads = All-append (IsInRange lists.nodes) lists.properties.bads
        (map inverse (drop count lists.properties.constraints)) is.properties.bads
        (All-inverse lists.nodes (drop count lists.properties.constraints)
        (All-drop (IsInRange lists.nodes) count lists.properties.constraints
        is.properties.constraints));
    constraints = All-take (IsInRange lists.nodes) count lists.properties.constraints
        is.properties.constraints;
    justice = All-nil (All (IsInRange lists.nodes));
    fairness = All-nil (IsInRange lists.nodes);
  };
  named = is.named;
}

pub certified_over : (model witness lists : Circuit) → lists
    ≡ joined (length model.latchs) model witness → (count : ℕ) → count
    ≡ length model.properties.constraints
    → (properties : Properties AigEdge) → properties.outputs ≡ [] → properties.bads
    ≡ lists.properties.bads ++ map inverse (drop count lists.properties.constraints)
    → properties.constraints ≡ take count lists.properties.constraints → properties.justice ≡ []
    → properties.fairness ≡ []
    → record lists { properties = properties } ≡ certified model witness
certified_over model witness lists same count count_is properties o b c j f =
    let number = number_in_joint (length model.latchs) model witness in
    let moved = map (renumbered_edge number) witness.properties.constraints in
    let constraints = ap (λ (d : Circuit). d.properties.constraints) same in
    let rest : drop count lists.properties.constraints ≡ moved = ap (drop count) constraints
    ∙ drop_at model.properties.constraints moved count (sym count_is) in
    let front : take count lists.properties.constraints
    ≡ model.properties.constraints = ap (take count) constraints
    ∙ take_at model.properties.constraints moved count (sym count_is) in
    let bads = b ∙ ap (λ es. lists.properties.bads ++ map inverse es) rest
    ∙ ap (λ (d : Circuit). d.properties.bads ++ map inverse moved) same
    ∙ ap (λ es. model.properties.bads ++ map (renumbered_edge number) witness.properties.bads ++ es)
    (map-map inverse (renumbered_edge number) witness.properties.constraints) in
    let held = c ∙ front in
    (λ i. record lists {
      properties = record {
        outputs = o i;
        bads = bads i;
        constraints = held i;
        justice = j i;
        fairness = f i;
      };
    })
    ∙ ap (λ (d : Circuit). record d { properties = (certified model witness).properties }) same
