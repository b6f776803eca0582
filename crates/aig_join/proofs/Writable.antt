-- What is joined of circuits that have a written form has one, where it isn't too large.
use lib.Utf8.{encode}
use Rattle.aig_base.proofs.Words.{◌≡◌, ◌⊎◌, ℕ, ◌<◌, arith, eqb, Option, Some, None, List, [], ◌∷◌, ◌++◌, length, map, take, drop, get_or, refl, sym, ap, subst, ◌∙◌, inl, inr, All, Contains, IfSome, IsSomeAnd, IsUtf8, is_some, option_map, get, cases_lt, eq-eqb, false≢true, All-append, All-cons, All-contains, All-drop, All-map, All-nil, Contains-append_cases, Contains-append_left, Contains-append_right, Contains-get_or, list_any_at}
use Rattle.std.specs.Str.{chars, is_utf8}
use Rattle.std.proofs.lemmas.List.{drop-map, map-append, take-append-drop, take-map}
use Rattle.std.proofs.lemmas.Str.{IsUtf8-append, IsUtf8-from_is_utf8}
use Rattle.aig_circuit.specs.declared.edge.AigEdge.{AigEdge}
use Rattle.aig_circuit.specs.declared.node.AigLatch.{AigLatch}
use Rattle.aig_circuit.specs.declared.node.AigNode.{AigNode}
use Rattle.aig_circuit.specs.declared.node.AigNodeType.{AigNodeType}
use Rattle.aig_circuit.specs.declared.node.AigNodeType.TheVariants.{False, Leaf, And}
use Rattle.aig_circuit.proofs.Words.{AddsGates, AreNodes, Circuit, IsCircuit, IsClosed, IsLeaf, latch_leaves, HasConstantInit, Properties, no_properties, renumbered_edge, renumbered_kind, renumbered_latch, with_node}
use Rattle.aig_circuit.proofs.Building.{Grows-kept, and_of-cases}
use Rattle.aig_circuit.proofs.Circuits.{AreLeaves-of_circuit}
use Rattle.aig_circuit.proofs.Trees.{kind_at-within}
use Rattle.aig_change.proofs.Grown.{AddsLeaf-gates}
use Rattle.aig_format.specs.Writable.{AreTexts, FitsFormat, HasLineFeed, IsWritable, named_nodes}
use Rattle.aig_renumber.proofs.Circuits.{latch_leaves-map}
use Rattle.aig_renumber.proofs.Kept.{is_in-there}
use Rattle.aig_renumber.proofs.Places.{Contains-map}
use Rattle.aig_join.specs.Joined.{CanShare, further_leaves, joined, number_in_joint, shared_of_first, shared_of_second}
use Rattle.aig_join.specs.Names.{is_taken, other_prefix}
use Rattle.aig_join.specs.Miter.{HaveSameCounts, IsMiter}
use Rattle.aig_join.specs.Certificate.{HasLeavesOf, certified}
use Rattle.aig_join.proofs.Certified.{can-share}
use Rattle.aig_join.proofs.Joined.{AreShared-leaves, Contains-drop, IsCircuit-joined, grows, their-leaves}
use Rattle.aig_join.proofs.Miters.{can}
use Rattle.aig_join.proofs.Naming.{AllNames, with_names-have}
use Rattle.aig_join.proofs.Nodes.{added, kind-back}
use Rattle.aig_join.proofs.Shared.{IsOther-at, number-at}

-- what is in a list is in its front or in its rest
in_front-or_rest : (k : ℕ) (ns : List ℕ) (n : ℕ) → Contains ns n → Contains (take k ns) n
    ⊎ Contains (drop k ns) n
in_front-or_rest k ns n has = Contains-append_cases (take k ns) (drop k ns) n
    (subst (λ (l : List ℕ). Contains l n) (sym (take-append-drop k ns)) has)

-- a leaf under new numbers was one
leaf_back : (number : ℕ → ℕ) (k : AigNodeType) → renumbered_kind number (Some k) ≡ Leaf → k ≡ Leaf
leaf_back number False e = cc
leaf_back number Leaf e = refl
leaf_back number (And a b) e = elim (and_of-cases (renumbered_edge number a)
    (renumbered_edge number b)) [
      | inl p ↦ absurd (no_leaf _ _ (sym p.0 ∙ e))
      | inr p ↦ absurd
          (no_leaf _ _ (sym p.0 ∙ e))
    ]
  where
    no_leaf : (a b : AigEdge) → And a b ≡ Leaf → ⊥
    no_leaf a b e = cc

abbrev leaf_of : AigLatch → ℕ
leaf_of latch = latch.input

-- the prefix is text
prefix-text : IsUtf8 other_prefix
unfolding is_utf8 chars encode
prefix-text = IsUtf8-from_is_utf8 other_prefix refl

-- a name without a line feed has none behind the prefix
prefix-plain : (name : List ℕ) → ¬ Contains name 10 → ¬ Contains (other_prefix ++ name) 10
prefix-plain name plain feed = elim (Contains-append_cases other_prefix name 10 feed) [
  | inl has ↦ false≢true (list_any_at (eqb 10) other_prefix has.0 10 has.1
      (eq-eqb 10 (get_or other_prefix has.0 10) (sym has.2)))
  | inr has ↦ plain has
]

module _ (latches : ℕ) (first second : Circuit) (is : IsCircuit first) (other : IsCircuit second)
    (can : CanShare latches first second) where
  abbrev both : Circuit
  both = joined latches first second

  abbrev number : ℕ → ℕ
  number = number_in_joint latches first second

  abbrev shared : List ℕ
  shared = shared_of_second latches first second

  abbrev rest_inputs : List ℕ
  rest_inputs = drop (length first.inputs) second.inputs

  abbrev rest_latchs : List AigLatch
  rest_latchs = drop latches second.latchs

  -- the node's name, if it is written, has no line feed
  abbrev PlainIfNamed : ℕ → List ℕ → Type 0
  PlainIfNamed n name = Contains (named_nodes both) n → ¬ Contains name 10

  abbrev others : List ℕ
  others = added first.nodes second.nodes is.nodes other.nodes shared
      (shared_of_first latches first second) (AreShared-leaves latches first second is other can)
      (their-leaves latches first second is other can)

  leaves_joined : latch_leaves both.latchs ≡ latch_leaves first.latchs
      ++ map number (latch_leaves rest_latchs)
  leaves_joined = map-append leaf_of first.latchs (map (renumbered_latch number) rest_latchs)
      ∙ ap (λ ns. latch_leaves first.latchs ++ ns) (latch_leaves-map number rest_latchs)

  in_inputs : (n : ℕ) → Contains both.inputs n
      → Contains (both.inputs ++ latch_leaves both.latchs) n
  in_inputs n has = Contains-append_left both.inputs (latch_leaves both.latchs) n has

  in_latches : (n : ℕ) → Contains (latch_leaves first.latchs
      ++ map number (latch_leaves rest_latchs)) n
      → Contains (both.inputs ++ latch_leaves both.latchs) n
  in_latches n has = Contains-append_right both.inputs (latch_leaves both.latchs) n
      (subst (λ (l : List ℕ). Contains l n) (sym leaves_joined) has)

  -- a leaf of the first circuit
  first-named : IsClosed first → (n : ℕ) → IsLeaf first.nodes n
      → Contains (both.inputs ++ latch_leaves both.latchs) n
  first-named closed n leaf = elim (Contains-append_cases first.inputs (latch_leaves first.latchs) n
      (closed n leaf)) [
        | inl input ↦ in_inputs n
            (Contains-append_left first.inputs (map number rest_inputs) n input)
        | inr latch ↦ in_latches n (Contains-append_left (latch_leaves first.latchs)
            (map number (latch_leaves rest_latchs)) n latch)
      ]

  -- a leaf of the second that isn't shared
  second-named : IsClosed second → (m : ℕ) → IsLeaf second.nodes m → ¬ Contains shared m
      → Contains (both.inputs ++ latch_leaves both.latchs) (number m)
  second-named closed m leaf none = elim (Contains-append_cases second.inputs
      (latch_leaves second.latchs) m (closed m leaf)) [
        | inl input ↦ elim (in_front-or_rest (length first.inputs) second.inputs m input) [
          | inl front ↦ absurd (none
              (Contains-append_left (take (length first.inputs) second.inputs)
              (latch_leaves (take latches second.latchs)) m front))
          | inr rest ↦ in_inputs (number m)
              (Contains-append_right first.inputs (map number rest_inputs)
              (number m) (Contains-map number rest_inputs m rest))
        ]
        | inr latch ↦ elim (in_front-or_rest latches (latch_leaves second.latchs) m latch) [
          | inl front ↦ absurd (none
              (Contains-append_right (take (length first.inputs) second.inputs)
              (latch_leaves (take latches second.latchs)) m (subst (λ (l : List ℕ). Contains l m)
              (take-map leaf_of latches second.latchs) front)))
          | inr rest ↦ in_latches (number m) (Contains-append_right (latch_leaves first.latchs)
              (map number (latch_leaves rest_latchs)) (number m)
              (Contains-map number (latch_leaves rest_latchs) m
              (subst (λ (l : List ℕ). Contains l m) (drop-map leaf_of latches second.latchs) rest)))
        ]
      ]

  -- of closed circuits the joint one is closed
  pub IsClosed-joined : IsClosed first → IsClosed second → IsClosed both
  IsClosed-joined closed also n leaf =
      elim (kind-back first.nodes second.nodes is.nodes other.nodes shared
      (shared_of_first latches first second) (AreShared-leaves latches first second is other
      can) (their-leaves latches first second is other can) n Leaf leaf) [
        | inl r ↦ first-named closed n r.1
        | inr r ↦ (
            let m = get_or others r.0 0 in
            let old : IsLeaf second.nodes m = r.4 ∙ ap Some (leaf_back number r.1 r.5) in
            let fresh = IsOther-at second.nodes other.nodes shared
            (shared_of_first latches first second) (length first.nodes)
            (AreShared-leaves latches first second is other can) r.0 r.2 in
            let none : ¬ Contains shared m = λ has. false≢true
            (sym fresh.unshared ∙ is_in-there shared m has) in
            let at : number m ≡ n = number-at second.nodes other.nodes shared
            (shared_of_first latches first second) (length first.nodes)
            (AreShared-leaves latches first second is other can) r.0 r.2 ∙ r.3 in
            subst (Contains (both.inputs ++ latch_leaves both.latchs)) at
            (second-named also m old none))
      ]

  -- constant initial edges stay constant
  moved-constant : (o : Option AigEdge) → IfSome o (λ e. e.node_id ≡ 0)
      → IfSome (option_map (renumbered_edge number) o) (λ e. e.node_id ≡ 0)
  moved-constant (Some e) h = ap number h
  moved-constant None h = tt

  pub HasConstantInits-joined : All HasConstantInit first.latchs → All HasConstantInit second.latchs
      → All HasConstantInit both.latchs
  HasConstantInits-joined plain also = All-append HasConstantInit first.latchs
      (map (renumbered_latch number) rest_latchs) plain
      (All-map HasConstantInit (renumbered_latch number) rest_latchs
      (λ k d h. moved-constant (get_or rest_latchs k d).init
      (All-drop HasConstantInit latches second.latchs also k d h)))

  -- a named node of the first circuit has no line feed in its name there
  first-plain : IsClosed first → All (λ n. ¬ HasLineFeed first.names n) (named_nodes first)
      → IsCircuit both → AllNames PlainIfNamed first.names
  first-plain closed names is_both n = by_name (get first.names n) refl
    where
      by_name : (o : Option (List ℕ)) → get first.names n ≡ o → IfSome o (PlainIfNamed n)
      by_name (Some name) at = λ named feed.
          let low : n < length first.nodes = is.named n (ap is_some at) in
          let leaf = All-contains (IsLeaf both.nodes) (named_nodes both) n
          (AreLeaves-of_circuit both is_both).leaves named in
          All-contains (λ m. ¬ HasLineFeed first.names m) (named_nodes first) n names
          (closed n (sym (Grows-kept first.nodes both.nodes
          (grows latches first second is other can) n low) ∙ leaf))
          (subst (λ o. IsSomeAnd o (λ (name : List ℕ). Contains name 10)) (sym at) feed)
      by_name None at = tt

  -- the second one's further inputs and latches are named nodes of it
  further-named : (n : ℕ) → Contains (further_leaves latches first second) n
      → Contains (named_nodes second) n
  further-named n has = elim (Contains-append_cases rest_inputs (latch_leaves rest_latchs) n has) [
    | inl input ↦ Contains-append_left second.inputs (latch_leaves second.latchs) n
        (Contains-drop (length first.inputs) second.inputs n input)
    | inr leaf ↦ Contains-append_right second.inputs (latch_leaves second.latchs) n
        (Contains-drop latches (latch_leaves second.latchs) n (subst (λ (l : List ℕ). Contains l n)
        (sym (drop-map leaf_of latches second.latchs)) leaf))
  ]

  second-plain : All (λ n. ¬ HasLineFeed second.names n) (named_nodes second)
      → All (λ n. IfSome (get second.names n)
      (λ name. PlainIfNamed (number n) (other_prefix ++ name)))
      (further_leaves latches first second)
  second-plain names k d h =
      let n = get_or (further_leaves latches first second) k d in
      by_name n (get second.names n) (All-contains (λ n. ¬ HasLineFeed second.names n)
      (named_nodes second) n names (further-named n (Contains-get_or
      (further_leaves latches first second) k d h)))
    where
      by_name : (n : ℕ) (o : Option (List ℕ)) → ¬ IsSomeAnd o (λ name. Contains name 10)
          → IfSome o (λ name. PlainIfNamed (number n) (other_prefix ++ name))
      by_name n (Some name) plain = λ named feed. prefix-plain name plain feed
      by_name n None plain = tt

  -- no name that is written holds a line feed
  names-joined : IsClosed first → IsCircuit both
      → All (λ n. ¬ HasLineFeed first.names n) (named_nodes first)
      → All (λ n. ¬ HasLineFeed second.names n) (named_nodes second)
      → All (λ n. ¬ HasLineFeed both.names n) (named_nodes both)
  names-joined closed is_both names also k d h =
      let n = get_or (named_nodes both) k d in
      by_name (get both.names n) (with_names-have PlainIfNamed number (is_taken first) second.names
      first.names (further_leaves latches first second) (first-plain closed names is_both)
      (second-plain also) n)
    where
      by_name : (o : Option (List ℕ))
          → IfSome o (PlainIfNamed (get_or (named_nodes both) k d))
          → ¬ IsSomeAnd o (λ name. Contains name 10)
      by_name (Some name) plain feed = plain (Contains-get_or (named_nodes both) k d h) feed
      by_name None plain feed = feed

  -- names are texts
  pub AreTexts-joined : AreTexts first.names → AreTexts second.names → AreTexts both.names
  AreTexts-joined texts also = with_names-have (λ n name. IsUtf8 name) number (is_taken first)
      second.names first.names (further_leaves latches first second) texts
      (λ k d h. by_name (get second.names (get_or (further_leaves latches first second) k d))
      (also (get_or (further_leaves latches first second) k d)))
    where
      by_name : (o : Option (List ℕ)) → IfSome o IsUtf8
          → IfSome o (λ name. IsUtf8 (other_prefix ++ name))
      by_name (Some name) text = IsUtf8-append other_prefix name
          prefix-text text
      by_name None text = tt

  -- so it has a written form
  pub IsWritable-joined : IsWritable first → IsWritable second → FitsFormat both → IsWritable both
  IsWritable-joined one two small = record {
    closed = IsClosed-joined one.closed two.closed;
    start = HasConstantInits-joined one.start two.start;
    names = names-joined one.closed (IsCircuit-joined latches first second is other can) one.names
        two.names;
    small = small;
  }

-- no refusal applies but that it may be too large
pub record IsWritableIfSmall (c : Circuit) : Type 0 where
  pub closed : IsClosed c
  pub start : All HasConstantInit c.latchs
  pub names : All (λ n. ¬ HasLineFeed c.names n) (named_nodes c)

pub if_small : (c : Circuit) → IsWritable c → IsWritableIfSmall c
if_small c writable =
    record { closed = writable.closed; start = writable.start; names = writable.names }

-- ---- one more leaf

-- where gates alone are added a leaf is an old one
leaf-kept : (old new : List AigNode) → AddsGates old new → (n : ℕ) → IsLeaf new n → IsLeaf old n
leaf-kept old new adds n leaf = elim (cases_lt n (length old)) [
  | inl low ↦ sym (Grows-kept old new adds.grows n low) ∙ leaf
  | inr past ↦ (let gate = adds.gates n past (kind_at-within new n Leaf leaf) in absurd
      (no_leaf gate.0 gate.1 (sym gate.2 ∙ leaf)))
]
  where
    no_leaf : (a b : AigEdge) → Some (And a b) ≡ Some Leaf → ⊥
    no_leaf a b e = cc

-- a node that the circuit doesn't have has no name
pub unnamed-past : (c : Circuit) → IsCircuit c → ¬ HasLineFeed c.names (length c.nodes)
unnamed-past c is feed = by_name (get c.names (length c.nodes)) refl feed
  where
    by_name : (o : Option (List ℕ)) → get c.names (length c.nodes) ≡ o
        → IsSomeAnd o (λ (name : List ℕ). Contains name 10) → ⊥
    by_name (Some name) at has =
        let low = is.named (length c.nodes) (ap is_some at) in absurd (omega arith)
    by_name None at has = has

module _ (old new : Circuit)
    (named : named_nodes new ≡ named_nodes old ++ length old.nodes ∷ []) where
  -- where a leaf is added, that is listed, and else gates alone, all leaves are listed
  pub closed-with_leaf : AreNodes old.nodes → AddsGates (with_node old.nodes Leaf) new.nodes
      → IsClosed old → IsClosed new
  closed-with_leaf are adds closed n leaf =
      let last = length old.nodes in
      subst (λ ns. Contains ns n) (sym named)
      (elim ((AddsLeaf-gates old.nodes new.nodes are adds).only n leaf) [
        | inl was ↦ Contains-append_left (named_nodes old) (last ∷ []) n (closed n was)
        | inr same ↦ Contains-append_right (named_nodes old) (last ∷ []) n
            (0, omega arith, sym same)
      ])

  -- and where it has no name, no name that is written holds a line feed
  pub names-with_leaf : new.names ≡ old.names → ¬ HasLineFeed old.names (length old.nodes)
      → All (λ n. ¬ HasLineFeed old.names n) (named_nodes old)
      → All (λ n. ¬ HasLineFeed new.names n) (named_nodes new)
  names-with_leaf same fresh names =
      let Plain = λ (n : ℕ). ¬ HasLineFeed old.names n in
      subst (λ m. All (λ n. ¬ HasLineFeed m n) (named_nodes new)) (sym same)
      (subst (All Plain) (sym named) (All-append Plain (named_nodes old) (length old.nodes ∷ [])
      names (All-cons Plain (length old.nodes) [] fresh (All-nil Plain))))

-- ---- more gates, other properties

gates-closed : (c : Circuit) (nodes : List AigNode) (properties : Properties AigEdge)
    → AddsGates c.nodes nodes → IsClosed c
    → IsClosed (record c { nodes = nodes; properties = properties })
gates-closed c nodes properties adds closed n leaf =
    closed n (leaf-kept c.nodes nodes adds n leaf)

IsWritable-over : (c d : Circuit) → d.inputs ≡ c.inputs → d.latchs ≡ c.latchs → d.names ≡ c.names
    → IsClosed d → All HasConstantInit c.latchs → All (λ n. ¬ HasLineFeed c.names n) (named_nodes c)
    → FitsFormat d → IsWritable d
IsWritable-over c d inputs latchs names closed start texts small =
    let listed : named_nodes c ≡ named_nodes d = λ i. sym inputs i ++ latch_leaves (sym latchs i) in
    record {
      closed = closed;
      start = subst (All HasConstantInit) (sym latchs) start;
      names = subst (λ m. All (λ n. ¬ HasLineFeed m n) (named_nodes d)) (sym names)
          (subst (All (λ n. ¬ HasLineFeed c.names n)) listed texts);
      small = small;
    }

-- a miter has a written form
pub IsWritable-miter : (a b m : Circuit) → IsCircuit a → IsCircuit b → HaveSameCounts a b
    → IsMiter a b m → IsWritableIfSmall a → IsWritableIfSmall b → FitsFormat m → IsWritable m
IsWritable-miter a b m is_a is_b counts miters one two small =
    let share = can a b m is_a is_b counts miters in
    let both = joined 0 a b in
    let closed = gates-closed both m.nodes (record no_properties
    { bads = m.properties.bads; constraints = both.properties.constraints }) miters.gates
    (IsClosed-joined 0 a b is_a is_b share one.closed two.closed) in
    IsWritable-over both m (ap (λ (c : Circuit). c.inputs) miters.rest)
    (ap (λ (c : Circuit). c.latchs) miters.rest) (ap (λ (c : Circuit). c.names) miters.rest)
    (subst IsClosed (sym miters.rest) closed)
    (HasConstantInits-joined 0 a b is_a is_b share one.start two.start)
    (names-joined 0 a b is_a is_b share one.closed (IsCircuit-joined 0 a b is_a is_b share)
    one.names two.names) small

-- and so has a model beside a witness circuit
pub IsWritable-certified : (model witness : Circuit) → IsCircuit model → IsCircuit witness
    → HasLeavesOf witness model → IsWritable model → IsWritable witness
    → FitsFormat (certified model witness) → IsWritable (certified model witness)
IsWritable-certified model witness is_m is_w has one two small =
    let share = can-share model witness is_m is_w has in
    let n = length model.latchs in
    record {
      closed = IsClosed-joined n model witness is_m is_w share one.closed two.closed;
      start = HasConstantInits-joined n model witness is_m is_w share one.start two.start;
      names = names-joined n model witness is_m is_w share one.closed
          (IsCircuit-joined n model witness is_m is_w share) one.names two.names;
      small = small;
    }
