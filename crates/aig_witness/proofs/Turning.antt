-- The turns of leaves among those that are no latch's.
use Rattle.aig_base.proofs.Words.{◌≡◌, ◌≢◌, ℕ, zero, suc, ◌+◌, ◌-◌, ◌*◌, ◌<◌, ◌≤◌, Bool, true, false, cond, not, eqb, ◌&&◌, ◌||◌, List, [], ◌∷◌, ◌++◌, length, length-append, map, get_or, take, refl, sym, ap, subst, ◌∙◌, arith, add-one, ◌==◌, All, Contains, count_by, filter, slice_index, list_any, and_from, eq-eqb, eqb-true, false_from_ne_true, false≢true, ne_eqb, list_any-append, All-contains, All-filter, All-get_or, Contains-get_or, filter_passes, slice_get-get_or}
use borrow.Author.Count.{below_more}
use Rattle.std.proofs.Math.ListN.{set}
use Rattle.std.proofs.lemmas.Grind.{get_or-set_at}
use Rattle.std.proofs.lemmas.List.{get_or-append-add, get_or_append_left, get_or-set_other, map-append, take_more}
use Rattle.std.proofs.lemmas.List.Sums.{count_by_more_no, count_by_more_yes, length-filter}
use Rattle.aig_circuit.specs.declared.node.AigLatch.{AigLatch}
use Rattle.aig_circuit.specs.declared.node.AigNode.{AigNode}
use Rattle.aig_circuit.proofs.Words.{AreNodes, Circuit, IsLatch, IsLeaf, latch_leaves, is_leaf, is_in, position_of}
use Rattle.aig_circuit.specs.declared.node.AigNodeType.TheVariants.{Leaf}
use Rattle.aig_circuit.proofs.Counting.{is_leaf-Leaf}
use Rattle.aig_circuit.proofs.Trees.{kind_at-within}
use Rattle.aig_renumber.proofs.Places.{Contains-map_back, position_of-within}
use Rattle.aig_unroll.proofs.Others.{others-are}
use Rattle.aig_unroll.specs.Places.{is_other_leaf, other_leaves, place_at}
use Rattle.aig_witness.specs.Turns.{CountsOthers, HasStep, HasTurns, MarksLatchLeaves}

-- ---- turns

-- the place of a number among those of the nodes that pass is how many pass before it
position_of-passing : (test : AigNode → Bool) (nodes : List AigNode) (first k : ℕ) (d : AigNode) → ((i : ℕ) (e : AigNode) → i < length nodes → (get_or nodes i e).node_id ≡ first + i) → k < length nodes → test (get_or nodes k d) ≡ true
    → position_of (map (λ (node : AigNode). node.node_id) (filter test nodes)) (first + k) ≡ length (filter test (take k nodes))
position_of-passing test [] first k d numbered h passes = absurd (omega arith)
position_of-passing test (x ∷ xs) first zero d numbered h passes =
    let here : eqb x.node_id (first + zero) ≡ true = eq-eqb x.node_id (first + zero) (numbered zero x (omega arith)) in
    rw (passes, here) refl
position_of-passing test (x ∷ xs) first (suc k) d numbered h passes =
    by_test (test x) (position_of-passing test xs (suc first) k d (λ i e lt. let is = numbered (suc i) e (omega arith) in omega (arith, is)) (omega arith) passes)
  where
    number : AigNode → ℕ
    number node = node.node_id

    rest : List ℕ
    rest = map (λ (node : AigNode). node.node_id) (filter test xs)

    next : first + suc k ≡ suc first + k
    next = omega arith

    by_test : (b : Bool) → position_of rest (suc first + k) ≡ length (filter test (take k xs))
        → position_of (map (λ (node : AigNode). node.node_id) (cond b (x ∷ filter test xs) (filter test xs))) (first + suc k) ≡ length (cond b (x ∷ filter test (take k xs)) (filter test (take k xs)))
    by_test true so_far =
        let is = numbered zero x (omega arith) in
        let other : eqb x.node_id (first + suc k) ≡ false = ne_eqb x.node_id (first + suc k) (λ e. absurd (omega (arith, e, is))) in
        rw other (ap (λ m. position_of rest m + 1) next ∙ ap (λ m. m + 1) so_far ∙ add-one _)
    by_test false so_far = ap (position_of rest) next ∙ so_far

-- what is counted are turns
pub turns_from : (c : Circuit) (turns : List ℕ) (total : ℕ) → AreNodes c.nodes
    → CountsOthers c turns → total ≡ count_by (is_other_leaf c) c.nodes → HasTurns c turns total
turns_from c turns total are counts all = record {
  all = all ∙ sym (length-filter test c.nodes) ∙ sym (many (filter test c.nodes));
  count = counts.count;
  each = turn;
}
  where
    test : AigNode → Bool
    test = is_other_leaf c

    many : (nodes : List AigNode)
        → length (map (λ (node : AigNode). node.node_id) nodes) ≡ length nodes
    many [] = refl
    many (x ∷ xs) = ap suc (many xs)

    numbered : (i : ℕ) (e : AigNode) → i < length c.nodes → (get_or c.nodes i e).node_id ≡ 0 + i
    numbered i e h = let is = are.numbered i (get_or c.nodes i e) (slice_get-get_or c.nodes i e h) in omega (arith, is)

    turn : (n : ℕ) → Contains (other_leaves c) n → get_or turns n 0 ≡ position_of (other_leaves c) n
    turn n has =
        let from = Contains-map_back (λ (node : AigNode). node.node_id) (filter test c.nodes) n has in
        let x = from.0 in
        let passes : test x ≡ true = All-contains (λ (y : AigNode). test y ≡ true) (filter test c.nodes) x (filter_passes test c.nodes) from.1 in
        let there = All-contains (Contains c.nodes) (filter test c.nodes) x (All-filter test (Contains c.nodes) c.nodes (λ k d h. Contains-get_or c.nodes k d h)) from.1 in
        let i = there.0 in
        let number : x.node_id ≡ 0 + i = ap (λ (node : AigNode). node.node_id) (sym there.2) ∙ numbered i x there.1 in
        let same : i ≡ n = omega (arith, number, from.2) in
        let place = position_of-passing test c.nodes 0 i x numbered there.1 (ap test there.2 ∙ passes) in
        let zero_more : 0 + i ≡ i = omega arith in
        subst (λ m. get_or turns m 0 ≡ position_of (other_leaves c) m) same
        (counts.each i there.1 ∙ sym (length-filter test (take i c.nodes)) ∙ sym place ∙ ap (position_of (other_leaves c)) zero_more)

-- ---- marks

-- the leaf of a latch is a node
pub latch_within : (nodes : List AigNode) (latchs : List AigLatch) (i : ℕ) (d : AigLatch)
    → All (IsLatch nodes) latchs → i < length latchs → (get_or latchs i d).input < length nodes
latch_within nodes latchs i d all low = let is = All-get_or (IsLatch nodes) latchs i d low all in kind_at-within nodes (get_or latchs i d).input Leaf is.leaf

-- one latch more is marked
pub mark_more : (marks : List Bool) (latchs : List AigLatch) (i x n size : ℕ) (e : AigLatch) (d : Bool) → i < length latchs → x ≡ (get_or latchs i e).input → length marks ≡ size → n < size → get_or marks n d ≡ is_in (latch_leaves (take i latchs)) n
    → get_or (set marks x true) n d ≡ is_in (latch_leaves (take (i + 1) latchs)) n
mark_more marks latchs i x n size e d low at count within before =
    by_test (x == n) refl ∙ ap (λ m. is_in (latch_leaves (take i latchs)) n || (m == n || false)) at ∙ sym more
  where
    more : is_in (latch_leaves (take (i + 1) latchs)) n
        ≡ (is_in (latch_leaves (take i latchs)) n || ((get_or latchs i e).input == n || false))
    more =
        ap (λ ls. is_in (latch_leaves ls) n) (take_more latchs i e low)
        ∙ ap (λ ns. is_in ns n) (map-append (λ (latch : AigLatch). latch.input) (take i latchs) (get_or latchs i e ∷ []))
        ∙ list_any-append (λ m. m == n) (latch_leaves (take i latchs)) ((get_or latchs i e).input ∷ [])

    or_true : (b : Bool) → (b || (true || false)) ≡ true
    or_true true = refl
    or_true false = refl

    or_false : (b : Bool) → (b || (false || false)) ≡ b
    or_false true = refl
    or_false false = refl

    by_test : (b : Bool) → (x == n) ≡ b
        → get_or (set marks x true) n d
        ≡ (is_in (latch_leaves (take i latchs)) n || (x == n || false))
    by_test true is =
        let same : n ≡ x = sym (eqb-true x n is) in
        get_or-set_at marks x n true d same (omega (arith, same, count, within)) ∙ sym (ap (λ b. is_in (latch_leaves (take i latchs)) n || (b || false)) is ∙ or_true (is_in (latch_leaves (take i latchs)) n))
    by_test false is =
        let other : n ≢ x = λ same. false≢true (sym is ∙ eq-eqb x n (sym same)) in
        get_or-set_other marks x n true d other ∙ before ∙ sym (ap (λ b. is_in (latch_leaves (take i latchs)) n || (b || false)) is ∙ or_false (is_in (latch_leaves (take i latchs)) n))

-- ---- counting

module _ (c : Circuit) (marks : List Bool) (are : AreNodes c.nodes) (is : MarksLatchLeaves c marks) (i : ℕ) (d : AigNode) (e : Bool) (h : i < length c.nodes) where
  abbrev node : AigNode
  node = get_or c.nodes i d

  abbrev so_many : ℕ → ℕ
  so_many n = count_by (is_other_leaf c) (take n c.nodes)

  -- its mark says whether it is a latch's leaf
  marked : (b : Bool) → get_or marks i e ≡ b
      → list_any (λ n. n == node.node_id) (latch_leaves c.latchs) ≡ b
  marked b m = ap (is_in (latch_leaves c.latchs)) (are.numbered i node (slice_get-get_or c.nodes i d h)) ∙ sym (is.each i e h) ∙ m

  pub count_other : node.typ ≡ Leaf → get_or marks i e ≡ false → so_many (i + 1) ≡ so_many i + 1
  count_other leaf m = count_by_more_yes (is_other_leaf c) c.nodes i d h (and_from (is_leaf node.typ) (not (list_any (λ n. n == node.node_id) (latch_leaves c.latchs))) (ap is_leaf leaf) (ap not (marked false m)))

  pub count_latch : get_or marks i e ≡ true → so_many (i + 1) ≡ so_many i
  count_latch m = count_by_more_no (is_other_leaf c) c.nodes i d h (ap (λ b. is_leaf node.typ && not b) (marked true m) ∙ and_false (is_leaf node.typ))
    where
      and_false : (b : Bool) → (b && false) ≡ false
      and_false true = refl
      and_false false = refl

  pub count_inner : node.typ ≢ Leaf → so_many (i + 1) ≡ so_many i
  count_inner other =
      let inner : is_leaf node.typ ≡ false = false_from_ne_true (is_leaf node.typ) (λ leaf. other (is_leaf-Leaf node.typ leaf)) in
      count_by_more_no (is_other_leaf c) c.nodes i d h (ap (λ b. b && not (list_any (λ n. n == node.node_id) (latch_leaves c.latchs))) inner)

-- ---- places

-- the turn of a leaf at a step is within the inputs
turn_within : (t m turn before all : ℕ) → t ≢ 0 → before + t * m ≤ all → turn < m
    → before + (t - 1) * m + turn < all
turn_within zero m turn before all some step lt = absurd (some refl)
turn_within (suc s) m turn before all some step lt = let less : suc s - 1 ≡ s = omega arith in rw less (omega arith)

module _ (c d u : Circuit) (turns : List ℕ) (total t n : ℕ) (same : d ≡ c) (has : HasTurns d turns total) (leaf : Contains (other_leaves c) n) (step : HasStep c u t) (later : t ≢ 0) where
  pub leaf_there : AreNodes c.nodes → n < length turns
  leaf_there are =
      let other = All-contains (λ m. IsLeaf c.nodes m × ¬ Contains (latch_leaves c.latchs) m) (other_leaves c) n (others-are c are) leaf in
      let within = kind_at-within c.nodes n Leaf other.0 in
      omega (arith, within, has.count, ap (λ (x : Circuit). length x.nodes) same)

  turn_is : get_or turns n 0 ≡ position_of (other_leaves c) n
  turn_is = has.each n (subst (λ (x : Circuit). Contains (other_leaves x) n) (sym same) leaf) ∙ ap (λ (x : Circuit). position_of (other_leaves x) n) same

  total_is : total ≡ length (other_leaves c)
  total_is = has.all ∙ ap (λ (x : Circuit). length (other_leaves x)) same

  pub place_within : (inputs : List ℕ) → inputs ≡ d.inputs
      → length inputs + (t - 1) * total + get_or turns n 0 < length u.inputs
  place_within inputs are =
      rw (are, same, total_is, turn_is) (turn_within t (length (other_leaves c)) (position_of (other_leaves c) n) (length c.inputs) (length u.inputs) later step (position_of-within (other_leaves c) n leaf))

  pub place_is : (inputs : List ℕ) → inputs ≡ d.inputs
      → get_or u.inputs (length inputs + (t - 1) * total + get_or turns n 0) 0 ≡ place_at c u t n
  place_is inputs are = rw (are, same, total_is, turn_is) (by_step t later)
    where
      by_step : (s : ℕ) → s ≢ 0
          → get_or u.inputs
          (length c.inputs + (s - 1) * length (other_leaves c) + position_of (other_leaves c) n)
          0 ≡ place_at c u s n
      by_step zero some = absurd (some refl)
      by_step (suc s) some = let less : suc s - 1 ≡ s = omega arith in rw less refl

-- one turn more
pub turn_length : (made old : List ℕ) (i turn : ℕ) → made ≡ old ++ turn ∷ [] → length old ≡ i
    → length made ≡ i + 1
turn_length made old i turn is count = ap length is ∙ length-append old (turn ∷ []) ∙ ap (λ n. n + 1) count

pub turn_more : (turn_at : ℕ → ℕ) (made old : List ℕ) (i turn : ℕ) → made ≡ old ++ turn ∷ []
    → length old ≡ i → ((n : ℕ) → n < i → slice_index old n ≡ turn_at n) → turn ≡ turn_at i
    → (n : ℕ) → n < i + 1 → slice_index made n ≡ turn_at n
turn_more turn_at made old i turn is count each here =
    let last : i ≡ length old + 0 = omega (arith, count) in
    below_more (λ n. slice_index made n ≡ turn_at n) i
    (λ n low. ap (λ list. get_or list n 0) is ∙ get_or_append_left old (turn ∷ []) 0 n (omega (arith, count, low)) ∙ each n low)
    (ap (λ list. get_or list i 0) is ∙ ap (λ n. get_or (old ++ turn ∷ []) n 0) last ∙ get_or-append-add old (turn ∷ []) 0 0 ∙ here)
