-- The edges of a live circuit, from what makes them.
use Rattle.aig_base.proofs.Words.{◌≡◌, ◌↔◌, ℕ, ◌+◌, ◌*◌, ◌<◌, ◌≤◌, ◌&&◌, ◌||◌, Bool, true, false, cond, IsTrue, None, Some, List, [], ◌∷◌, ◌++◌, length, get_or, refl, sym, ap, subst, ◌∙◌, arith, All, All-append, All-cons, All-nil, and_from, and_parts, get_or_default, list_all, list_all-append, length-append}
use Rattle.std.specs.Bool.{beq}
use Rattle.std.proofs.lemmas.List.Sums.{AllPass-from_list_all, list_all-from_AllPass}
use Rattle.aig_circuit.specs.declared.edge.AigEdge.{AigEdge}
use Rattle.aig_circuit.specs.declared.node.AigNode.{AigNode}
use Rattle.aig_circuit.specs.declared.node.AigLatch.{AigLatch}
use Rattle.aig_circuit.specs.declared.node.AigNodeType.TheVariants.{And, Leaf}
use Rattle.aig_circuit.proofs.Words.{AddsGates, AreNodes, GivesEdge, Grows, IsInRange, IsLatch, IsLeaf, JoinsByAnd, kind_at, edge_to, edge_value}
use Rattle.aig_circuit.proofs.Building.{AddsGates-then, Grows-itself, Grows-kept, Grows-longer, Grows-then, edge_value-Grows}
use Rattle.aig_circuit.proofs.Trees.{kind_at-within, node_value-leaf}
use Rattle.aig_circuit.specs.Build.{FoldsOrAddsAll}
use Rattle.aig_live.proofs.Made.{ands_few}
use Rattle.std.proofs.Common.{Global, Vec}
use Rattle.aig_live.specs.Assembled.{AreParts}
use Rattle.aig_live.specs.Making.{AddsLeaves, GivesEach, latch_at, same_of, seen_of, start_of, value_at}

beq_same : (a b : Bool) → a ≡ b → beq a b ≡ true
beq_same true true e = refl
beq_same true false e = sym e
beq_same false true e = e
beq_same false false e = refl

same_beq : (a b : Bool) → beq a b ≡ true → a ≡ b
same_beq true true e = refl
same_beq true false e = sym e
same_beq false true e = e
same_beq false false e = refl

-- each edge that is made is there
pub GivesEach-there : (most : ℕ) (old new : List AigNode) (wanted : ℕ → (ℕ → Bool)
    → Bool) (count : ℕ)
    (es : List AigEdge) → GivesEach most old new wanted count es → All (IsInRange new) es
GivesEach-there most old new wanted count es made k d h = (made.each k d (omega
    (arith, h, made.long))).there

pub there_grown : (old new : List AigNode) (es : List AigEdge) → Grows old new
    → All (IsInRange old) es
    → All (IsInRange new) es
there_grown old new es grows all k d h = omega (arith, all k d h, Grows-longer old new grows)

module _ (n0 n1 n2 n3 n4 n5 n6 : List AigNode) (latchs : List AigLatch) (edges : List AigEdge)
    (n : ℕ)
    (is_n : n ≡ length n0) (are : AreNodes n0) (latches : All (IsLatch n0) latchs)
    (in_edges : All (IsInRange n0) edges)
    (leaves : AddsLeaves (2 + length latchs + length edges) n0 n1)
    (saved save active : AigEdge) (saved_is : saved ≡ edge_to (n + 1) false)
    (save_is : save ≡ edge_to n false) (g1 : AddsGates n1 n2)
    (one : length n2 ≤ length n1 + 1)
    (active_gives : GivesEdge n2 (λ x. edge_value n1 x saved || edge_value n1 x save) active) where
  -- ---- leaves

  -- an added leaf has its value
  leaf_value : (nodes : List AigNode) → Grows n1 nodes → (x : ℕ → Bool) (m k : ℕ)
      → m ≡ length n0 + k
      → k < 2 + length latchs + length edges
      → edge_value nodes x (edge_to m false) ≡ x (length n0 + k)
  leaf_value nodes grows x m k is low =
      let within : length n0 + k < length n1 = omega (arith, leaves.long, low) in
      let leaf : IsLeaf nodes (length n0 + k) = Grows-kept n1 nodes grows (length n0 + k) within
      ∙ leaves.leaves (length n0 + k) (omega arith) within in
      ap (λ j. edge_value nodes x (edge_to j false)) is
      ∙ node_value-leaf nodes x (length n0 + k) leaf

  saved_value : (nodes : List AigNode) → Grows n1 nodes → (x : ℕ → Bool)
      → edge_value nodes x saved ≡ x (length n0 + 1)
  saved_value nodes grows x = ap (edge_value nodes x) saved_is
      ∙ leaf_value nodes grows x (n + 1) 1 (omega (arith, is_n)) (omega arith)

  save_value : (nodes : List AigNode) → Grows n1 nodes → (x : ℕ → Bool)
      → edge_value nodes x save ≡ x (length n0)
  save_value nodes grows x =
      let same : length n0 + 0 ≡ length n0 = omega arith in
      ap (edge_value nodes x) save_is
      ∙ leaf_value nodes grows x n 0 (omega (arith, is_n)) (omega arith) ∙ ap x same

  itself : Grows n1 n1
  itself = Grows-itself n1 leaves.grows.sound

  -- a state is or was saved
  active_at : (x : ℕ → Bool) → edge_value n2 x active ≡ x (length n0 + 1) || x (length n0)
  active_at x = active_gives.value x ∙ ap (λ b. b || edge_value n1 x save) (saved_value n1 itself x)
      ∙ ap (λ b. x (length n0 + 1) || b) (save_value n1 itself x)

  -- an old leaf has its value
  old_leaf : (nodes : List AigNode) → Grows n0 nodes → (x : ℕ → Bool) (m : ℕ) → IsLeaf n0 m
      → edge_value nodes x (edge_to m false) ≡ x m
  old_leaf nodes grows x m leaf = node_value-leaf nodes x m (Grows-kept n0 nodes grows m
      (kind_at-within n0 m Leaf leaf) ∙ leaf)

  module _ (starts seen : Vec AigEdge Global) (sames read every : List AigEdge) (bad : AigEdge)
      (starts_give : GivesEach 3 n2 n3 (start_of n2 saved (n + 2) latchs)
      (length latchs) starts.items)
      (seen_give : GivesEach 2 n3 n4 (seen_of n3 active (n + 2 + length latchs) edges)
      (length edges) seen.items)
      (read_is : read ≡ starts.items)
      (same_give : GivesEach 3 n4 n5 (same_of n4 latchs read) (length latchs) sames)
      (every_is : every ≡ (sames ++ seen.items) ++ active ∷ [])
      (g6 : AddsGates n5 n6) (rule : FoldsOrAddsAll n5 every n6 bad)
      (joins : JoinsByAnd n5 n6 every bad) where
    to_n2 : Grows n0 n2
    to_n2 = Grows-then n0 n1 n2 leaves.grows g1.grows

    from_n2 : Grows n1 n3
    from_n2 = Grows-then n1 n2 n3 g1.grows starts_give.gates.grows

    to_n4 : Grows n0 n4
    to_n4 = Grows-then n0 n3 n4 (Grows-then n0 n2 n3 to_n2 starts_give.gates.grows)
        seen_give.gates.grows

    n4_n6 : Grows n4 n6
    n4_n6 = Grows-then n4 n5 n6 same_give.gates.grows g6.grows

    n3_n6 : Grows n3 n6
    n3_n6 = Grows-then n3 n4 n6 seen_give.gates.grows n4_n6

    n2_n6 : Grows n2 n6
    n2_n6 = Grows-then n2 n3 n6 starts_give.gates.grows n3_n6

    sound2 : AreNodes n2
    sound2 = g1.grows.sound

    sound3 : AreNodes n3
    sound3 = starts_give.gates.grows.sound

    sound4 : AreNodes n4
    sound4 = seen_give.gates.grows.sound

    sound5 : AreNodes n5
    sound5 = same_give.gates.grows.sound

    all_grows : Grows n0 n6
    all_grows = Grows-then n0 n4 n6 to_n4 n4_n6

    from_leaves : AddsGates n1 n6
    from_leaves = AddsGates-then n1 n2 n6 g1 (AddsGates-then n2 n3 n6 starts_give.gates
        (AddsGates-then n3 n4 n6 seen_give.gates (AddsGates-then n4 n5 n6 same_give.gates g6)))

    leaves_last : (m : ℕ) → length n0 ≤ m → m < length n0 + (2 + length latchs + length edges)
        → IsLeaf n6 m
    leaves_last m low high =
        let within : m < length n1 = omega (arith, high, leaves.long) in
        Grows-kept n1 n6 from_leaves.grows m within ∙ leaves.leaves m low within

    longer_last : length n0 + (2 + length latchs + length edges) ≤ length n6
    longer_last = omega (arith, leaves.long, Grows-longer n1 n6 from_leaves.grows)

    few_last : length n6 ≤ length n0 + 3 + 8 * length latchs + 4 * length edges
    few_last =
        let long : length every ≡ length sames + length seen.items + 1 =
        ap length every_is ∙ length-append (sames ++ seen.items) (active ∷ [])
        ∙ ap (λ k. k + 1) (length-append sames seen.items) in
        omega (
          arith,
          leaves.long,
          one,
          starts_give.few,
          seen_give.few,
          same_give.few,
          ands_few
              every n5 n6 bad rule,
          long,
          same_give.long,
          seen_give.long,
        )

    gates_last : (m : ℕ) → length n0 + (2 + length latchs + length edges) ≤ m → m < length n6
        → (a b : AigEdge) × (kind_at n6 m ≡ Some (And a b))
    gates_last m low high = from_leaves.gates m (omega (arith, low, leaves.long)) high

    active_value : (x : ℕ → Bool) → edge_value n6 x active ≡ x (length n0 + 1) || x (length n0)
    active_value x = edge_value-Grows n2 n6 sound2 n2_n6 x active active_gives.there ∙ active_at x

    start_value : (i : ℕ) (d : AigLatch) (e : AigEdge) → i < length latchs → (x : ℕ → Bool)
        → edge_value n6 x (get_or starts.items i e)
        ≡ cond (x (length n0 + 1)) (x (length n0 + 2 + i)) (x (get_or latchs i d).input)
    start_value i d e low x =
        let made = starts_give.each i e low in
        let own = (latch_at latchs i).input in
        let place : length n0 + (2 + i) ≡ length n0 + 2 + i = omega arith in
        let same : own ≡ (get_or latchs i d).input = ap (λ (l : AigLatch). l.input)
        (get_or_default latchs i (record { input = 0; next = edge_to 0 false; init = None }) d
        low) in
        edge_value-Grows n3 n6 sound3 n3_n6 x (get_or starts.items i e) made.there
        ∙ made.value x
        ∙ ap (λ b. cond b (edge_value n2 x (edge_to (n + 2 + i) false)) (edge_value n2 x
        (edge_to own false))) (saved_value n2 g1.grows x)
        ∙ ap (λ b. cond (x (length n0 + 1)) b (edge_value n2 x (edge_to own false)))
        (leaf_value n2 g1.grows x (n + 2 + i) (2 + i) (omega (arith, is_n)) (omega (arith, low))
        ∙ ap x place)
        ∙ ap (λ b. cond (x (length n0 + 1)) (x (length n0 + 2 + i)) b)
        (old_leaf n2 to_n2 x own (latches i
        (record { input = 0; next = edge_to 0 false; init = None }) low).leaf ∙ ap x same)

    seen_value : (i : ℕ) (d e : AigEdge) → i < length edges → (x : ℕ → Bool)
        → edge_value n6 x (get_or seen.items i e)
        ≡ (x (length n0 + 2 + length latchs + i) || ((x (length n0 + 1) || x
        (length n0)) && edge_value n0 x (get_or edges i d)))
    seen_value i d e low x =
        let made = seen_give.each i e low in
        let m = n + 2 + length latchs + i in
        let f = get_or edges i (edge_to 0 false) in
        let place : length n0 + (2 + length latchs + i) ≡ length n0 + 2 + length latchs + i = omega
        arith in
        edge_value-Grows n4 n6 sound4 n4_n6 x (get_or seen.items i e) made.there
        ∙ made.value x
        ∙ ap (λ b. b || (edge_value n3 x active && edge_value n3 x f))
        (leaf_value n3 from_n2 x m (2 + length latchs + i) (omega (arith, is_n)) (omega
        (arith, low)) ∙ ap x place)
        ∙ ap (λ b. x (length n0 + 2 + length latchs + i) || (b && edge_value n3 x f))
        (edge_value-Grows n2 n3 sound2 starts_give.gates.grows x active active_gives.there
        ∙ active_at x)
        ∙ ap (λ b. x (length n0 + 2 + length latchs + i) || ((x (length n0 + 1) || x
        (length n0)) && b))
        (edge_value-Grows n0 n3 are (Grows-then n0 n2 n3 to_n2 starts_give.gates.grows) x f
        (in_edges i (edge_to 0 false) low)
        ∙ ap (edge_value n0 x) (get_or_default edges i (edge_to 0 false) d low))

    -- ---- the bad edge

    next_value : (i : ℕ) (d : AigLatch) → i < length latchs → (x : ℕ → Bool)
        → edge_value n4 x (latch_at latchs i).next ≡ edge_value n0 x (get_or latchs i d).next
    next_value i d low x =
        edge_value-Grows n0 n4 are to_n4 x (latch_at latchs i).next (latches i
        (record { input = 0; next = edge_to 0 false; init = None }) low).next
        ∙ ap (λ (l : AigLatch). edge_value n0 x l.next) (get_or_default latchs i
        (record { input = 0; next = edge_to 0 false; init = None }) d low)

    read_value : (i : ℕ) (e : AigEdge) → i < length latchs → (x : ℕ → Bool)
        → value_at n4 x read i ≡ edge_value n6 x (get_or starts.items i e)
    read_value i e low x =
        let there = (starts_give.each i (edge_to 0 false) low).there in
        ap (λ (es : List AigEdge). edge_value n4 x (get_or es i (edge_to 0 false))) read_is
        ∙ edge_value-Grows n3 n4 sound3 seen_give.gates.grows x (get_or starts.items i
        (edge_to 0 false)) there
        ∙ sym (edge_value-Grows n3 n6 sound3 n3_n6 x (get_or starts.items i
        (edge_to 0 false)) there)
        ∙ ap (edge_value n6 x) (get_or_default starts.items i (edge_to 0 false) e (omega
        (arith, low, starts_give.long)))

    -- what the and of all says
    whole : (x : ℕ → Bool) → edge_value n6 x bad
        ≡ ((list_all (edge_value n5 x) sames && list_all (edge_value n5 x) seen.items) &&
        (edge_value n5 x active && true))
    whole x =
        joins.gives.value x
        ∙ ap (list_all (edge_value n5 x)) every_is
        ∙ list_all-append (edge_value n5 x) (sames ++ seen.items) (active ∷ [])
        ∙ ap (λ b. b && (edge_value n5 x active && true)) (list_all-append
        (edge_value n5 x) sames seen.items)

    active_n5 : (x : ℕ → Bool) → edge_value n5 x active ≡ x (length n0 + 1) || x (length n0)
    active_n5 x =
        edge_value-Grows n2 n5 sound2 (Grows-then n2 n3 n5 starts_give.gates.grows
        (Grows-then n3 n4 n5 seen_give.gates.grows same_give.gates.grows)) x active
        active_gives.there
        ∙ active_at x

    seen_n5 : (i : ℕ) (e : AigEdge) → i < length edges → (x : ℕ → Bool)
        → edge_value n5 x (get_or seen.items i e) ≡ edge_value n6 x (get_or seen.items i e)
    seen_n5 i e low x =
        let there = (seen_give.each i e low).there in
        let longer = Grows-longer n4 n5 same_give.gates.grows in
        sym (edge_value-Grows n5 n6 sound5 g6.grows x (get_or seen.items i e) (omega
        (arith, there, longer)))

    bad_value : (x : ℕ → Bool) → IsTrue (edge_value n6 x bad)
        ↔ (IsTrue (x (length n0 + 1) || x (length n0))
        × ((i : ℕ) (d : AigLatch) (e : AigEdge) → i < length latchs
        → edge_value n0 x (get_or latchs i d).next ≡ edge_value n6 x (get_or starts.items i e))
        × ((i : ℕ) (e : AigEdge) → i < length edges
        → IsTrue (edge_value n6 x (get_or seen.items i e))))
    bad_value x = (forth, back)
      where
        forth : IsTrue (edge_value n6 x bad)
            → (IsTrue (x (length n0 + 1) || x (length n0))
            × ((i : ℕ) (d : AigLatch) (e : AigEdge) → i < length latchs
            → edge_value n0 x (get_or latchs i d).next ≡ edge_value n6 x (get_or starts.items i e))
            × ((i : ℕ) (e : AigEdge) → i < length edges
            → IsTrue (edge_value n6 x (get_or seen.items i e))))
        forth h =
            let parts = and_parts (list_all (edge_value n5 x) sames && list_all
            (edge_value n5 x) seen.items) (edge_value n5 x active && true) (sym (whole x)
            ∙ h) in
            let lists = and_parts (list_all (edge_value n5 x) sames) (list_all
            (edge_value n5 x) seen.items) parts.0 in
            let last = and_parts (edge_value n5 x active) true parts.1 in
            let same_all = AllPass-from_list_all (edge_value n5 x) sames lists.0 in
            let seen_all = AllPass-from_list_all (edge_value n5 x) seen.items lists.1 in (
              sym (active_n5 x) ∙ last.0,
              λ i d e low.
                  let made = same_give.each i e low in
                  let equal : beq (edge_value n4 x (latch_at latchs i).next)
                  (value_at n4 x read i) ≡ true =
                  sym (made.value x) ∙ same_all i e (omega (arith, low, same_give.long)) in
                  sym (next_value i d low x)
                  ∙ same_beq (edge_value n4 x (latch_at latchs i).next) (value_at n4 x read i) equal
                  ∙ read_value i e low x,
              λ i e low. sym (seen_n5 i e low x)
                  ∙ seen_all i e (omega (arith, low, seen_give.long)),
            )

        back : (IsTrue (x (length n0 + 1) || x (length n0))
            × ((i : ℕ) (d : AigLatch) (e : AigEdge) → i < length latchs
            → edge_value n0 x (get_or latchs i d).next ≡ edge_value n6 x (get_or starts.items i e))
            × ((i : ℕ) (e : AigEdge) → i < length edges
            → IsTrue (edge_value n6 x (get_or seen.items i e))))
            → IsTrue (edge_value n6 x bad)
        back p =
            let same_all : All (λ e. edge_value n5 x e ≡ true) sames = λ i e h.
            let low : i < length latchs = omega (arith, h, same_give.long) in
            (same_give.each i e low).value x
            ∙ beq_same (edge_value n4 x (latch_at latchs i).next) (value_at n4 x read i)
            (next_value i (record { input = 0; next = edge_to 0 false; init = None }) low x
            ∙ p.1 i (record { input = 0; next = edge_to 0 false; init = None }) e low
            ∙ sym (read_value i e low x)) in
            let seen_all : All (λ e. edge_value n5 x e ≡ true) seen.items = λ i e h.
            let low : i < length edges = omega (arith, h, seen_give.long) in
            seen_n5 i e low x ∙ p.2 i e low in
            whole x
            ∙ and_from (list_all (edge_value n5 x) sames && list_all (edge_value n5 x) seen.items)
            (edge_value n5 x active && true)
            (and_from (list_all (edge_value n5 x) sames) (list_all (edge_value n5 x) seen.items)
            (list_all-from_AllPass (edge_value n5 x) sames same_all) (list_all-from_AllPass
            (edge_value n5 x) seen.items seen_all))
            (and_from (edge_value n5 x active) true (active_n5 x ∙ p.0) refl)

    starts_there : All (IsInRange n6) starts.items
    starts_there = there_grown n3 n6 starts.items n3_n6 (GivesEach-there 3 n2 n3 (start_of n2 saved
        (n + 2) latchs) (length latchs) starts.items starts_give)

    seen_there : All (IsInRange n6) seen.items
    seen_there = there_grown n4 n6 seen.items n4_n6 (GivesEach-there 2 n3 n4 (seen_of n3 active
        (n + 2 + length latchs) edges) (length edges) seen.items seen_give)

    active_there : IsInRange n6 active
    active_there = omega (arith, active_gives.there, Grows-longer n2 n6 n2_n6)

    pub are_parts : AreParts n0 n6 latchs edges
        (record { active = active; starts = starts; seen = seen; bad = bad })
    are_parts = record {
      grows = all_grows;
      leaves = leaves_last;
      longer = longer_last;
      few = few_last;
      gates = gates_last;
      starts_count = starts_give.long;
      seen_count = seen_give.long;
      active_there = active_there;
      starts_there = starts_there;
      seen_there = seen_there;
      bad_there = joins.gives.there;
      active_value = active_value;
      start_values = start_value;
      seen_values = seen_value;
      bad_value = bad_value;
    }

-- the edges that are joined are there
pub every_there : (n0 n2 n3 n4 n5 : List AigNode) (latchs : List AigLatch) (edges : List AigEdge)
    (saved active : AigEdge) (m n : ℕ) (sames seen read every starts : List AigEdge)
    → GivesEach 3 n2 n3 (start_of n2 saved m latchs) (length latchs) starts
    → GivesEach 2 n3 n4 (seen_of n3 active n edges) (length edges) seen
    → GivesEach 3 n4 n5 (same_of n4 latchs read) (length latchs) sames
    → IsInRange n2 active → every ≡ (sames ++ seen) ++ active ∷ [] → All (IsInRange n5) every
every_there n0 n2 n3 n4 n5 latchs edges saved active m n sames seen read every starts starts_give
    seen_give same_give there every_is =
    subst (All (IsInRange n5)) (sym every_is)
    (All-append (IsInRange n5) (sames ++ seen) (active ∷ [])
    (All-append (IsInRange n5) sames seen
    (GivesEach-there 3 n4 n5 (same_of n4 latchs read) (length latchs) sames same_give)
    (there_grown n4 n5 seen same_give.gates.grows (GivesEach-there 2 n3 n4
    (seen_of n3 active n edges) (length edges) seen seen_give)))
    (All-cons (IsInRange n5) active [] (omega (
      arith,
      there,
      Grows-longer n2 n3 starts_give.gates.grows,
      Grows-longer n3 n4
          seen_give.gates.grows,
      Grows-longer n4 n5 same_give.gates.grows,
    )) (All-nil (IsInRange n5))))
