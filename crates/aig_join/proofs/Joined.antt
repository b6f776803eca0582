-- Two circuits joined are a circuit, and its runs are pairs of runs.
use Rattle.aig_base.proofs.Words.{◌≡◌, ◌≢◌, ◌↔◌, ℕ, suc, ◌+◌, ◌-◌, ◌<◌, ◌≤◌, Bool, cond, ltb, Option, Some, None, List, [], ◌∷◌, ◌++◌, length, map, take, drop, get_or, refl, sym, ap, subst, ◌∙◌, arith, inl, inr, length-append, length-drop, contains_key, get, AllZip, le-ltb, lt-ltb}
use Rattle.std.specs.Prelude.{All, AllPairs, Contains, IfSome, IsTrue, option_map}
use Rattle.std.proofs.lemmas.List.{get_or-drop, get_or-take, get_or_default, length-map, length-take, length-take-le, map-append, take-map, drop-map}
use Rattle.std.proofs.lemmas.List.Elements.{All-append, All-contains, All-drop, All-map, All-take, All-weaker, AllZip-get_or, Contains-append_cases, Contains-get_or}
use Rattle.aig_circuit.specs.declared.edge.AigEdge.{AigEdge}
use Rattle.aig_circuit.specs.declared.node.AigNode.{AigNode}
use Rattle.aig_circuit.specs.declared.node.AigNodeType.TheVariants.{Leaf}
use Rattle.aig_circuit.specs.declared.node.AigLatch.{AigLatch}
use Rattle.aig_circuit.proofs.Words.{Grows, edge_value, Circuit, IsCircuit, IsInRange, IsLatch, IsLeaf, latch_leaves, AllProperties, append_properties, map_properties, IsRun, IsInitial, renumbered_edge, renumbered_latch}
use Rattle.aig_circuit.proofs.Building.{Grows-kept, Grows-longer, edge_value-Grows}
use Rattle.aig_circuit.proofs.Circuits.{AllPairs-append, init_grown, latch_leaves-leaves}
use Rattle.aig_circuit.proofs.Listed.{AllProperties-append, AllProperties-map, AllProperties-weaker}
use Rattle.aig_circuit.proofs.Lists.{All-first, All-second, AllZip-map, All-from_map}
use Rattle.aig_circuit.proofs.Trees.{kind_at-within}
use Rattle.aig_circuit.proofs.Values.{edge_value-renumbered}
use Rattle.aig_renumber.proofs.Circuits.{latch_leaves-map}
use Rattle.aig_renumber.proofs.Places.{AllPairs-map_numbers, Contains-map_back}
use Rattle.aig_join.specs.Joined.{CanShare, first_leaves, further_leaves, joined, number_in_joint, shared_of_first, shared_of_second}
use Rattle.aig_join.specs.Names.{is_taken, other_name}
use Rattle.aig_join.specs.Numbers.{AreShared}
use Rattle.aig_join.specs.Pairs.{AgreeOnShared, JoinsRuns, without_latches}
use Rattle.aig_join.proofs.Grown.{init-back, init-forth}
use Rattle.aig_join.proofs.Naming.{any-name, get-with_names, get-with_names_other, names-within, unnamed, with_names-have, within-names}
use Rattle.aig_join.proofs.Shared.{IsOther, cases, leaf-some, number-shared}
use Rattle.aig_join.proofs.Nodes.{AreNodes-joint, Grows-joint, IsOrdered-joint, Renumbers-joint, added, joint, kind-number, number-of_other, number-of_shared, number-within, other-past, others-apart}

-- ---- fronts and rests of lists

pub AllPairs-take : {X : Type 0} (R : X → X → Type 0) (n : ℕ) (xs : List X) → AllPairs R xs
    → AllPairs R (take n xs)
AllPairs-take {X} R n xs pairs i j d h l =
    let count = length-take n xs in
    let second : j < n = omega (arith, count) in
    let first : i < n = omega arith in
    let there : j < length xs = omega (arith, count) in
    rw (get_or-take n xs i d first, get_or-take n xs j d second) (pairs i j d h there)

pub AllPairs-drop : {X : Type 0} (R : X → X → Type 0) (n : ℕ) (xs : List X) → AllPairs R xs
    → AllPairs R (drop n xs)
AllPairs-drop {X} R n xs pairs i j d h l =
    let count = length-drop n xs in
    rw (get_or-drop n xs i d, get_or-drop n xs j d)
    (pairs (n + i) (n + j) d (omega arith) (omega (arith, count)))

-- of distinct numbers none is both in the front and in the rest
pub front-apart : (k : ℕ) (ns : List ℕ) → AllPairs (λ m n. m ≢ n) ns → (n : ℕ)
    → Contains (take k ns) n → Contains (drop k ns) n → ⊥
front-apart k ns differ n s t =
    let count = length-take k ns in
    let rest = length-drop k ns in
    let i = s.0 in
    let j = t.0 in
    let before : i < k = let low = s.1 in omega (arith, count) in
    let there : k + j < length ns = let low = t.1 in omega (arith, rest) in
    let at_i : get_or ns i n ≡ n = sym (get_or-take k ns i n before) ∙ s.2 in
    let at_j : get_or ns (k + j) n ≡ n = sym (get_or-drop k ns j n) ∙ t.2 in
    differ i (k + j) n (omega arith) there (at_i ∙ sym at_j)

pub Contains-take : {X : Type 0} (k : ℕ) (xs : List X) (x : X) → Contains (take k xs) x
    → Contains xs x
Contains-take {X} k xs x has =
    let count = length-take k xs in
    let low : has.0 < k = let l = has.1 in omega (arith, count) in
    (has.0, (let l = has.1 in omega (arith, count)), sym (get_or-take k xs has.0 x low) ∙ has.2)

pub Contains-drop : {X : Type 0} (k : ℕ) (xs : List X) (x : X) → Contains (drop k xs) x
    → Contains xs x
Contains-drop {X} k xs x has = (
  k + has.0,
  (let l = has.1 in omega (arith, length-drop k xs)),
  sym
      (get_or-drop k xs has.0 x) ∙ has.2,
)

-- entries that stand in a relation place by place do so one for one
pub AllZip-places : (R : ℕ → ℕ → Type 0) (ms ns : List ℕ) → length ms ≡ length ns
    → ((i : ℕ) → i < length ms → R (get_or ms i 0) (get_or ns i 0)) → AllZip R ms ns
AllZip-places R [] [] same each = tt
AllZip-places R [] (n ∷ ns) same each = absurd (omega (arith, same))
AllZip-places R (m ∷ ms) [] same each = absurd (omega (arith, same))
AllZip-places R (m ∷ ms) (n ∷ ns) same each = (
  each 0 (omega arith),
  AllZip-places R ms ns
      (omega (arith, same)) (λ i h. each (suc i) (omega arith)),
)

-- each entry beside itself
pub AllZip-itself : {X : Type 0} (R : X → X → Type 0) (xs : List X) → All (λ x. R x x) xs
    → AllZip R xs xs
AllZip-itself R [] all = tt
AllZip-itself R (x ∷ xs) all = (
  all 0 x (omega arith),
  AllZip-itself R xs
      (λ k d h. all (suc k) d (omega arith)),
)

-- ---- the first leaves

abbrev leaf_of : AigLatch → ℕ
leaf_of latch = latch.input

module _ (c : Circuit) (is : IsCircuit c) (inputs latches : ℕ) where
  pub first_leaves-leaves : All (IsLeaf c.nodes) (first_leaves inputs latches c)
  first_leaves-leaves = All-append (IsLeaf c.nodes) (take inputs c.inputs)
      (latch_leaves (take latches c.latchs))
      (All-take (IsLeaf c.nodes) inputs c.inputs is.inputs)
      (subst (All (IsLeaf c.nodes)) (take-map leaf_of latches c.latchs)
      (All-take (IsLeaf c.nodes) latches (latch_leaves c.latchs) (latch_leaves-leaves c is)))

  taken : (n : ℕ) → Contains (latch_leaves (take latches c.latchs)) n
      → Contains (take latches (latch_leaves c.latchs)) n
  taken n has = subst (λ (l : List ℕ). Contains l n) (sym (take-map leaf_of latches c.latchs)) has

  pub first_leaves-distinct : AllPairs (λ m n. m ≢ n) (first_leaves inputs latches c)
  first_leaves-distinct = AllPairs-append (λ m n. m ≢ n) (take inputs c.inputs)
      (latch_leaves (take latches c.latchs))
      (AllPairs-take (λ m n. m ≢ n) inputs c.inputs is.inputs_distinct)
      (subst (AllPairs (λ m n. m ≢ n)) (take-map leaf_of latches c.latchs)
      (AllPairs-take (λ m n. m ≢ n) latches (latch_leaves c.latchs) is.latchs_distinct))
      (λ k d h i e l same.
      let input = Contains-take inputs c.inputs (get_or (take inputs c.inputs) k d)
      (Contains-get_or (take inputs c.inputs) k d h) in
      let leaf = Contains-take latches (latch_leaves c.latchs)
      (get_or (latch_leaves (take latches c.latchs)) i e)
      (taken (get_or (latch_leaves (take latches c.latchs)) i e)
      (Contains-get_or (latch_leaves (take latches c.latchs)) i e l)) in
      All-contains (λ n. ¬ Contains c.inputs n) (latch_leaves c.latchs)
      (get_or (latch_leaves (take latches c.latchs)) i e) is.apart leaf
      (subst (Contains c.inputs) same input))

  pub first_leaves-length : inputs ≤ length c.inputs → latches ≤ length c.latchs
      → length (first_leaves inputs latches c) ≡ inputs + latches
  first_leaves-length h l =
      let one = length-take-le inputs c.inputs h in
      let two = length-take-le latches c.latchs l in
      omega (
        arith,
        length-append (take inputs c.inputs) (latch_leaves (take latches c.latchs)),
        length-map (take latches c.latchs) leaf_of,
      )

  -- an input past the first ones is none of the first leaves
  pub input-past : (n : ℕ) → Contains (drop inputs c.inputs) n
      → ¬ Contains (first_leaves inputs latches c) n
  input-past n rest has = elim (Contains-append_cases (take inputs c.inputs)
      (latch_leaves (take latches c.latchs)) n has) [
        | inl front ↦ front-apart inputs c.inputs is.inputs_distinct n front rest
        | inr leaf ↦ All-contains (λ n. ¬ Contains c.inputs n) (latch_leaves c.latchs) n is.apart
            (Contains-take latches (latch_leaves c.latchs) n (taken n leaf))
            (Contains-drop inputs c.inputs n rest)
      ]

  -- nor is a latch past the first ones
  pub latch-past : (n : ℕ) → Contains (latch_leaves (drop latches c.latchs)) n
      → ¬ Contains (first_leaves inputs latches c) n
  latch-past n leaf has =
      let rest : Contains (drop latches (latch_leaves c.latchs)) n = subst
      (λ (l : List ℕ). Contains l n) (sym (drop-map leaf_of latches c.latchs)) leaf in
      elim (Contains-append_cases (take inputs c.inputs) (latch_leaves (take latches c.latchs)) n
      has) [
        | inl front ↦ All-contains (λ n. ¬ Contains c.inputs n) (latch_leaves c.latchs) n is.apart
            (Contains-drop latches (latch_leaves c.latchs) n rest)
            (Contains-take inputs c.inputs n front)
        | inr other ↦ front-apart latches (latch_leaves c.latchs) is.latchs_distinct n
            (taken n other) rest
      ]

-- ---- the joint circuit

module _ (latches : ℕ) (first second : Circuit) (is : IsCircuit first) (other : IsCircuit second)
    (can : CanShare latches first second) where
  abbrev shared : List ℕ
  shared = shared_of_second latches first second

  abbrev theirs : List ℕ
  theirs = shared_of_first latches first second

  abbrev count : ℕ
  count = length first.inputs

  pub their-leaves : All (IsLeaf first.nodes) theirs
  their-leaves = first_leaves-leaves first is count latches

  pub AreShared-leaves : AreShared second.nodes shared theirs
  AreShared-leaves = record {
    count = first_leaves-length second other count latches can.inputs can.second_latches
        ∙ sym (first_leaves-length first is count latches (omega arith) can.first_latches);
    leaves = first_leaves-leaves second other count latches;
    distinct = first_leaves-distinct second other count latches;
    no_false = λ k d h. leaf-some first.nodes is.nodes (get_or theirs k d) (their-leaves k d h);
  }

  abbrev pub number : ℕ → ℕ
  number = number_in_joint latches first second

  abbrev pub new : List AigNode
  new = joint first.nodes second.nodes is.nodes other.nodes shared theirs AreShared-leaves
      their-leaves

  pub grows : Grows first.nodes new
  grows = Grows-joint first.nodes second.nodes is.nodes other.nodes shared theirs AreShared-leaves
      their-leaves

  -- ---- the first circuit's entries

  pub longer : length first.nodes ≤ length new
  longer = Grows-longer first.nodes new grows

  leaf_kept : (n : ℕ) → IsLeaf first.nodes n → IsLeaf new n
  leaf_kept n leaf = Grows-kept first.nodes new grows n (kind_at-within first.nodes n Leaf leaf)
      ∙ leaf

  latch_kept : (latch : AigLatch) → IsLatch first.nodes latch → IsLatch new latch
  latch_kept latch h = record {
    leaf = leaf_kept latch.input h.leaf;
    next =
        (let low = h.next in omega (arith, longer));
    init = init_grown first.nodes new latch.init
        longer h.init;
  }

  -- ---- the second circuit's entries

  leaf_moved : (n : ℕ) → IsLeaf second.nodes n → IsLeaf new (number n)
  leaf_moved n leaf = kind-number first.nodes second.nodes is.nodes other.nodes shared theirs
      AreShared-leaves their-leaves n Leaf leaf

  pub edge_moved : (e : AigEdge) → IsInRange second.nodes e
      → IsInRange new (renumbered_edge number e)
  edge_moved e h = number-within first.nodes second.nodes is.nodes other.nodes shared theirs
      AreShared-leaves their-leaves e.node_id h

  init_moved : (o : Option AigEdge) → IfSome o (IsInRange second.nodes)
      → IfSome (option_map (renumbered_edge number) o) (IsInRange new)
  init_moved (Some e) h = edge_moved e h
  init_moved None h = tt

  latch_moved : (latch : AigLatch) → IsLatch second.nodes latch
      → IsLatch new (renumbered_latch number latch)
  latch_moved latch h = record {
    leaf = leaf_moved latch.input h.leaf;
    next = edge_moved latch.next
        h.next;
    init = init_moved latch.init h.init;
  }

  -- a leaf that isn't shared
  record IsFurther (n : ℕ) : Type 0 where
    leaf : IsLeaf second.nodes n
    unshared : IsOther second.nodes shared n

  unshared-other : (n : ℕ) → IsLeaf second.nodes n → ¬ Contains shared n
      → IsOther second.nodes shared n
  unshared-other n leaf none = elim (cases second.nodes other.nodes shared theirs
      (length first.nodes) AreShared-leaves n (kind_at-within second.nodes n Leaf leaf)) [
        | inl zero_is ↦ (
            let some = leaf-some second.nodes other.nodes n leaf in
            absurd (omega arith))
        | inr some ↦ elim some [
          | inl has ↦ absurd (none has)
          | inr fresh ↦ fresh
        ]
      ]

  abbrev rest_inputs : List ℕ
  rest_inputs = drop count second.inputs

  abbrev rest_latchs : List AigLatch
  rest_latchs = drop latches second.latchs

  rest_inputs-further : All IsFurther rest_inputs
  rest_inputs-further k d h =
      let n = get_or rest_inputs k d in
      let leaf = All-drop (IsLeaf second.nodes) count second.inputs other.inputs k d h in
      record {
        leaf = leaf;
        unshared = unshared-other n leaf
            (input-past second other count latches n (Contains-get_or rest_inputs k d h));
      }

  rest_latchs-are : All (IsLatch second.nodes) rest_latchs
  rest_latchs-are = All-drop (IsLatch second.nodes) latches second.latchs other.latchs

  rest_leaves-further : All IsFurther (latch_leaves rest_latchs)
  rest_leaves-further k d h =
      let n = get_or (latch_leaves rest_latchs) k d in
      let leaf = All-map (IsLeaf second.nodes) leaf_of rest_latchs
      (λ i e l. (rest_latchs-are i e l).leaf) k d h in
      record {
        leaf = leaf;
        unshared = unshared-other n leaf
            (latch-past second other count latches n (Contains-get_or (latch_leaves rest_latchs) k d
            h));
      }

  rest_leaves-distinct : AllPairs (λ m n. m ≢ n) (latch_leaves rest_latchs)
  rest_leaves-distinct = subst (AllPairs (λ m n. m ≢ n)) (drop-map leaf_of latches second.latchs)
      (AllPairs-drop (λ m n. m ≢ n) latches (latch_leaves second.latchs) other.latchs_distinct)

  further-past : (n : ℕ) → IsFurther n → length first.nodes ≤ number n
  further-past n f = other-past first.nodes second.nodes is.nodes other.nodes shared theirs
      AreShared-leaves their-leaves n f.unshared

  further-apart : (m n : ℕ) → IsFurther m → IsFurther n → number m ≡ number n → m ≡ n
  further-apart m n s t e = others-apart first.nodes second.nodes is.nodes other.nodes shared theirs
      AreShared-leaves their-leaves m n s.unshared t.unshared e

  -- the further latches of the second circuit have leaves past the first nodes
  pub rest_leaves-past : All (λ n. length first.nodes ≤ n)
      (latch_leaves (map (renumbered_latch number) rest_latchs))
  rest_leaves-past = subst (All (λ n. length first.nodes ≤ n))
      (sym (latch_leaves-map number rest_latchs)) (All-map (λ n. length first.nodes ≤ n) number
      (latch_leaves rest_latchs) (All-weaker IsFurther (λ n. length first.nodes ≤ number n)
      further-past (latch_leaves rest_latchs) rest_leaves-further))

  -- ---- both

  properties_joined : AllProperties (IsInRange new)
      (append_properties first.properties (map_properties (renumbered_edge number)
      second.properties))
  properties_joined = AllProperties-append (IsInRange new) first.properties
      (map_properties (renumbered_edge number) second.properties)
      (AllProperties-weaker (IsInRange first.nodes) (IsInRange new) (λ e h. omega (arith, longer))
      first.properties is.properties)
      (AllProperties-map (IsInRange new) (renumbered_edge number) second.properties
      (AllProperties-weaker (IsInRange second.nodes)
      (λ e. IsInRange new (renumbered_edge number e)) edge_moved second.properties
      other.properties))

  -- leaves of the first and further leaves of the second are apart
  leaves_apart : (m n : ℕ) → IsLeaf first.nodes m → IsFurther n → m ≢ number n
  leaves_apart m n p q e = absurd (omega (
    arith,
    e,
    kind_at-within first.nodes m Leaf p,
    further-past n q,
  ))

  numbers_apart : (ms ns : List ℕ) → All (IsLeaf first.nodes) ms → All IsFurther ns
      → AllPairs (λ m n. m ≢ n) ms → AllPairs (λ m n. m ≢ n) ns
      → AllPairs (λ m n. m ≢ n) (ms ++ map number ns)
  numbers_apart ms ns p q differ apart = AllPairs-append (λ m n. m ≢ n) ms (map number ns) differ
      (AllPairs-map_numbers IsFurther number ns further-apart q apart)
      (λ k d h. All-map (λ n. get_or ms k d ≢ n) number ns
      (λ i c l. leaves_apart (get_or ms k d) (get_or ns i c) (p k d h) (q i c l)))

  abbrev latchs_joined : List AigLatch
  latchs_joined = first.latchs ++ map (renumbered_latch number) rest_latchs

  leaves_joined : latch_leaves latchs_joined ≡ latch_leaves first.latchs
      ++ map number (latch_leaves rest_latchs)
  leaves_joined = map-append leaf_of first.latchs (map (renumbered_latch number) rest_latchs)
      ∙ ap (λ ns. latch_leaves first.latchs ++ ns) (latch_leaves-map number rest_latchs)

  abbrev inputs_joined : List ℕ
  inputs_joined = first.inputs ++ map number rest_inputs

  first_no_input : (n : ℕ) → IsLeaf first.nodes n → ¬ Contains first.inputs n
      → ¬ Contains inputs_joined n
  first_no_input n leaf none has = elim (Contains-append_cases first.inputs (map number rest_inputs)
      n has) [
        | inl old ↦ none old
        | inr moved ↦ (
            let from = Contains-map_back number rest_inputs n moved in
            leaves_apart n from.0 leaf
            (All-contains IsFurther rest_inputs from.0 rest_inputs-further
            from.1) (sym from.2))
      ]

  second_no_input : (n : ℕ) → IsFurther n → ¬ Contains second.inputs n
      → ¬ Contains inputs_joined (number n)
  second_no_input n further none has = elim (Contains-append_cases first.inputs
      (map number rest_inputs) (number n) has) [
        | inl old ↦ leaves_apart (number n) n
            (All-contains (IsLeaf first.nodes) first.inputs (number n)
            is.inputs old) further refl
        | inr moved ↦ (
            let from = Contains-map_back number rest_inputs (number n) moved in
            let same = further-apart from.0 n (All-contains IsFurther rest_inputs from.0
            rest_inputs-further from.1) further from.2 in
            none (subst (Contains second.inputs) same (Contains-drop count second.inputs from.0
            from.1)))
      ]

  rest_leaves-apart : All (λ n. ¬ Contains second.inputs n) (latch_leaves rest_latchs)
  rest_leaves-apart = subst (All (λ n. ¬ Contains second.inputs n))
      (drop-map leaf_of latches second.latchs) (All-drop (λ n. ¬ Contains second.inputs n) latches
      (latch_leaves second.latchs) other.apart)

  apart_joined : All (λ n. ¬ Contains inputs_joined n)
      (latch_leaves first.latchs ++ map number (latch_leaves rest_latchs))
  apart_joined =
      let old = latch_leaves-leaves first is in
      All-append (λ n. ¬ Contains inputs_joined n) (latch_leaves first.latchs)
      (map number (latch_leaves rest_latchs))
      (λ k d h. first_no_input (get_or (latch_leaves first.latchs) k d) (old k d h)
      (is.apart k d h))
      (All-map (λ n. ¬ Contains inputs_joined n) number (latch_leaves rest_latchs)
      (λ k d h. second_no_input (get_or (latch_leaves rest_latchs) k d) (rest_leaves-further k d h)
      (rest_leaves-apart k d h)))

  -- ---- names

  abbrev further : List ℕ
  further = further_leaves latches first second

  further-are : All IsFurther further
  further-are = All-append IsFurther rest_inputs (latch_leaves rest_latchs) rest_inputs-further
      rest_leaves-further

  further-distinct : AllPairs (λ m n. m ≢ n) further
  further-distinct = AllPairs-append (λ m n. m ≢ n) rest_inputs (latch_leaves rest_latchs)
      (AllPairs-drop (λ m n. m ≢ n) count second.inputs other.inputs_distinct) rest_leaves-distinct
      (λ k d h i c l same. rest_leaves-apart i c l (subst (Contains second.inputs) same
      (Contains-drop count second.inputs (get_or rest_inputs k d)
      (Contains-get_or rest_inputs k d h))))

  -- nodes alone are named
  named_joined : (n : ℕ) → IsTrue (contains_key (joined latches first second).names n)
      → n < length new
  named_joined = within-names (λ n. n < length new) (joined latches first second).names
      (with_names-have (λ n name. n < length new) number (is_taken first) second.names first.names
      further
      (names-within (λ n. n < length new) first.names
      (λ n has. let low = is.named n has in omega (arith, longer)))
      (λ k d h. any-name (number (get_or further k d) < length new)
      (get second.names (get_or further k d)) (kind_at-within new (number (get_or further k d)) Leaf
      (leaf_moved (get_or further k d) (further-are k d h).leaf))))

  -- nodes of the first circuit keep their names
  pub names-first : (n : ℕ) → n < length first.nodes
      → get (joined latches first second).names n ≡ get first.names n
  names-first n h = get-with_names_other (is_taken first) second.names number first.names further n
      (λ k d l e. let past = further-past (get_or further k d) (further-are k d l) in absurd
      (omega (arith, e)))

  -- and the second one's further inputs and latches have theirs behind the prefix
  pub names-second : All (λ n. get (joined latches first second).names (number n)
      ≡ other_name (is_taken first) (get second.names n)) further
  names-second = get-with_names (is_taken first) second.names number first.names further
      (λ i j d h l e. further-distinct i j d h l (further-apart (get_or further i d)
      (get_or further j d) (further-are i d (omega arith)) (further-are j d l) e))
      (λ k d h. unnamed first.names (number (get_or further k d)) (λ has.
      let low = is.named (number (get_or further k d)) has in
      let past = further-past (get_or further k d) (further-are k d h) in
      absurd (omega arith)))

  -- the two are a circuit
  pub IsCircuit-joined : IsCircuit (joined latches first second)
  IsCircuit-joined = record {
    nodes = AreNodes-joint first.nodes second.nodes is.nodes other.nodes shared theirs
        AreShared-leaves their-leaves;
    inputs = All-append (IsLeaf new) first.inputs (map number rest_inputs)
        (All-weaker (IsLeaf first.nodes) (IsLeaf new) leaf_kept first.inputs is.inputs)
        (All-map (IsLeaf new) number rest_inputs (All-weaker IsFurther (λ n. IsLeaf new (number n))
        (λ n f. leaf_moved n f.leaf) rest_inputs rest_inputs-further));
    inputs_distinct = numbers_apart first.inputs rest_inputs is.inputs rest_inputs-further
        is.inputs_distinct (AllPairs-drop (λ m n. m ≢ n) count second.inputs other.inputs_distinct);
    latchs = All-append (IsLatch new) first.latchs (map (renumbered_latch number) rest_latchs)
        (All-weaker (IsLatch first.nodes) (IsLatch new) latch_kept first.latchs is.latchs)
        (All-map (IsLatch new) (renumbered_latch number) rest_latchs
        (All-weaker (IsLatch second.nodes) (λ latch. IsLatch new
        (renumbered_latch number latch)) latch_moved rest_latchs rest_latchs-are));
    latchs_distinct = subst (AllPairs (λ m n. m ≢ n)) (sym leaves_joined)
        (numbers_apart (latch_leaves first.latchs) (latch_leaves rest_latchs)
        (latch_leaves-leaves first is) rest_leaves-further is.latchs_distinct
        rest_leaves-distinct);
    apart = subst (All (λ n. ¬ Contains inputs_joined n)) (sym leaves_joined) apart_joined;
    properties = properties_joined;
    named = named_joined;
  }

  -- ---- values

  pub first_value : (z : ℕ → Bool) (e : AigEdge) → IsInRange first.nodes e → edge_value new z e
      ≡ edge_value first.nodes z e
  first_value z e h = edge_value-Grows first.nodes new is.nodes grows z e h

  pub second_value : (z : ℕ → Bool) (e : AigEdge) → IsInRange second.nodes e
      → edge_value new z (renumbered_edge number e) ≡ edge_value second.nodes (λ n. z (number n)) e
  second_value z e h =
      edge_value-renumbered second.nodes new (λ n. n < length second.nodes) number
      other.nodes.ordered (IsOrdered-joint first.nodes second.nodes is.nodes other.nodes shared
      theirs AreShared-leaves their-leaves)
      (Renumbers-joint first.nodes second.nodes is.nodes other.nodes shared theirs AreShared-leaves
      their-leaves) (λ n. z (number n)) z (λ n s leaf. refl) e h

  -- ---- runs

  runs_joined : (last : ℕ) (z : ℕ → ℕ → Bool)
      → IsRun (joined latches first second) last z
      ↔ (IsRun first last z × IsRun (without_latches latches second) last (λ t n. z t (number n)))
  runs_joined last z = (
    λ run. (
      λ t h k d l.
          All-first (λ latch. z (t + 1) latch.input ≡ edge_value new (z t) latch.next) first.latchs
          (map (renumbered_latch number) rest_latchs) (run t h) k d l
          ∙ first_value (z t) (get_or first.latchs k d).next (is.latchs k d l).next,
      λ t h k d l.
          All-from_map (renumbered_latch number) (λ latch. z (t + 1) latch.input
          ≡ edge_value new (z t) latch.next) rest_latchs
          (All-second (λ latch. z (t + 1) latch.input ≡ edge_value new (z t) latch.next)
          first.latchs (map (renumbered_latch number) rest_latchs) (run t h)) k d l
          ∙ second_value (z t) (get_or rest_latchs k d).next (rest_latchs-are k d l).next,
    ),
    λ both t h. All-append (λ latch. z (t + 1) latch.input ≡ edge_value new (z t) latch.next)
        first.latchs (map (renumbered_latch number) rest_latchs)
        (λ k d l. both.0 t h k d l ∙ sym (first_value (z t) (get_or first.latchs k d).next
        (is.latchs k d l).next))
        (All-map (λ latch. z (t + 1) latch.input ≡ edge_value new (z t) latch.next)
        (renumbered_latch number) rest_latchs
        (λ k d l. both.1 t h k d l ∙ sym (second_value (z t) (get_or rest_latchs k d).next
        (rest_latchs-are k d l).next))),
  )

  second_forth : (z : ℕ → Bool) (n : ℕ) (o : Option AigEdge) → IfSome o (IsInRange second.nodes)
      → IfSome (option_map (renumbered_edge number) o) (λ e. edge_value new z e ≡ z (number n))
      → IfSome o (λ e. edge_value second.nodes (λ m. z (number m)) e ≡ z (number n))
  second_forth z n (Some e) s h = sym (second_value z e s) ∙ h
  second_forth z n None s h = tt

  second_back : (z : ℕ → Bool) (n : ℕ) (o : Option AigEdge) → IfSome o (IsInRange second.nodes)
      → IfSome o (λ e. edge_value second.nodes (λ m. z (number m)) e ≡ z (number n))
      → IfSome (option_map (renumbered_edge number) o) (λ e. edge_value new z e ≡ z (number n))
  second_back z n (Some e) s h = second_value z e s ∙ h
  second_back z n None s h = tt

  starts_joined : (z : ℕ → Bool)
      → IsInitial (joined latches first second) z
      ↔ (IsInitial first z × IsInitial (without_latches latches second) (λ n. z (number n)))
  starts_joined z = (
    λ start. (
      λ k d l.
          let latch = get_or first.latchs k d in
          init-forth first.nodes new z (first_value z) latch.input latch.init (is.latchs k d l).init
          (All-first (λ latch. IfSome latch.init (λ e. edge_value new z e ≡ z latch.input))
          first.latchs (map (renumbered_latch number) rest_latchs) start k d l),
      λ k d l.
          let latch = get_or rest_latchs k d in
          second_forth z latch.input latch.init (rest_latchs-are k d l).init
          (All-from_map (renumbered_latch number) (λ latch. IfSome latch.init
          (λ e. edge_value new z e ≡ z latch.input)) rest_latchs
          (All-second (λ latch. IfSome latch.init (λ e. edge_value new z e ≡ z latch.input))
          first.latchs (map (renumbered_latch number) rest_latchs) start) k d l),
    ),
    λ both. All-append (λ latch. IfSome latch.init (λ e. edge_value new z e ≡ z latch.input))
        first.latchs (map (renumbered_latch number) rest_latchs)
        (λ k d l. init-back first.nodes new z (first_value z) (get_or first.latchs k d).input
        (get_or first.latchs k d).init (is.latchs k d l).init (both.0 k d l))
        (All-map (λ latch. IfSome latch.init (λ e. edge_value new z e ≡ z latch.input))
        (renumbered_latch number) rest_latchs
        (λ k d l. second_back z (get_or rest_latchs k d).input (get_or rest_latchs k d).init
        (rest_latchs-are k d l).init (both.1 k d l))),
  )

  -- ---- pairs of leaf values

  agree : (z : ℕ → Bool) → AgreeOnShared latches first second z (λ n. z (number n))
  agree z = AllZip-places (λ m n. z m ≡ z (number n)) theirs shared (sym AreShared-leaves.count)
      (λ i h.
      ap z (sym (number-shared second.nodes other.nodes shared theirs (length first.nodes)
      AreShared-leaves i (subst (λ n. i < n) (sym AreShared-leaves.count) h))))

  abbrev paired : (ℕ → Bool) → (ℕ → Bool) → ℕ → Bool
  paired x y n = cond (ltb n (length first.nodes)) (x n)
      (y (get_or (added first.nodes second.nodes is.nodes other.nodes shared theirs AreShared-leaves
      their-leaves) (n - length first.nodes) 0))

  paired_first : (x y : ℕ → Bool) (n : ℕ) → n < length first.nodes → paired x y n ≡ x n
  paired_first x y n h = ap (λ b. cond b (x n) (y
      (get_or (added first.nodes second.nodes is.nodes other.nodes shared theirs AreShared-leaves
      their-leaves) (n - length first.nodes) 0))) (lt-ltb n (length first.nodes) h)

  paired_second : (x y : ℕ → Bool) → AgreeOnShared latches first second x y → (n : ℕ)
      → IsLeaf second.nodes n → paired x y (number n) ≡ y n
  paired_second x y same n leaf = elim (cases second.nodes other.nodes shared theirs
      (length first.nodes) AreShared-leaves n (kind_at-within second.nodes n Leaf leaf)) [
        | inl zero_is ↦ (
            let some = leaf-some second.nodes other.nodes n leaf in
            absurd (omega arith))
        | inr some ↦ elim some [
          | inl has ↦ (
              let i = has.0 in
              let at : get_or shared i 0 ≡ n = get_or_default shared i 0 n has.1 ∙ has.2 in
              let number_is : number n ≡ get_or theirs i 0 = ap number (sym at)
              ∙ number-shared second.nodes other.nodes shared theirs (length first.nodes)
              AreShared-leaves i has.1 in
              let leaves =
              number-of_shared first.nodes second.nodes is.nodes other.nodes shared theirs
              AreShared-leaves their-leaves n has in
              let low : i < length theirs = subst (λ m. i < m) AreShared-leaves.count has.1 in
              paired_first x y (number n) (kind_at-within first.nodes (number n) Leaf leaves.1)
              ∙ ap x number_is ∙ AllZip-get_or (λ m n. x m ≡ y n) theirs shared i 0 0 same low
              ∙ ap y at)
          | inr fresh ↦ (
              let list = added first.nodes second.nodes is.nodes other.nodes shared theirs
              AreShared-leaves their-leaves in
              let r = number-of_other first.nodes second.nodes is.nodes other.nodes shared theirs
              AreShared-leaves their-leaves n fresh in
              let past : length first.nodes ≤ number n = omega (arith, r.3) in
              let place : number n - length first.nodes ≡ r.0 = omega (arith, r.3) in
              ap (λ b. cond b (x (number n)) (y (get_or list (number n - length first.nodes) 0)))
              (le-ltb (number n) (length first.nodes) past)
              ∙ ap (λ k. y (get_or list k 0)) place ∙ ap y r.2)
        ]
      ]

  -- its runs are pairs of runs
  pub JoinsRuns-joined : JoinsRuns latches first second (joined latches first second) number
  JoinsRuns-joined = record {
    runs = runs_joined;
    starts = starts_joined;
    shared = agree;
    each = λ x y same. (
      paired x y,
      λ n leaf. paired_first x y n
          (kind_at-within first.nodes n Leaf leaf),
      paired_second x y same,
    );
    first_values = λ z es all. AllZip-itself (λ e f. edge_value first.nodes z e
        ≡ edge_value new z f) es (λ k d h. sym (first_value z (get_or es k d) (all k d h)));
    second_values = λ z es all. AllZip-map (renumbered_edge number)
        (λ e f. edge_value second.nodes (λ n. z (number n)) e ≡ edge_value new z f) es
        (λ k d h. sym (second_value z (get_or es k d) (all k d h)));
  }
