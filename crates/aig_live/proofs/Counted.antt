-- The edges of a circuit that counts rounds, from what makes them.
use Rattle.aig_base.proofs.Words.{◌≡◌, ◌⊎◌, ℕ, zero, suc, ◌+◌, ◌-◌, ◌<◌, ◌≤◌, ◌&&◌, ◌||◌, Bool, true, false, cond, eqb, ne_eqb, not, List, [], ◌∷◌, ◌++◌, length, get_or, refl, sym, ap, subst, ◌∙◌, inl, inr, arith, All, All-append, cases_lt, get_or-append-add, get_or_append_left, length-append}
use Rattle.std.proofs.Common.{Global, Vec}
use Rattle.aig_circuit.specs.declared.edge.AigEdge.{AigEdge}
use Rattle.aig_circuit.specs.declared.node.AigNode.{AigNode}
use Rattle.aig_circuit.specs.declared.node.AigNodeType.TheVariants.{False}
use Rattle.aig_circuit.proofs.Words.{AddsGates, AreNodes, GivesEdge, Grows, IsInRange, IsLeaf, JoinsByAnd, edge_to, edge_value, inverse}
use Rattle.aig_circuit.proofs.Building.{AddsGates-then, Grows-itself, Grows-kept, Grows-longer, Grows-then, edge_value-Grows}
use Rattle.aig_circuit.proofs.Joining.{edge_value-inverse}
use Rattle.aig_circuit.proofs.Trees.{kind_at-within, node_value-leaf}
use Rattle.aig_circuit.specs.Build.{FoldsOrAddsAll}
use Rattle.aig_live.specs.EndedRounds.{all_below}
use Rattle.aig_live.specs.Counting.{AreBefores, AreCounted, edge_before, kept_of}
use Rattle.aig_live.specs.Making.{AddsLeaves, GivesEach, seen_of, value_at}
use Rattle.aig_live.specs.Rounds.{ended_before, ended_by, ends_now, is_met}
use Rattle.aig_live.proofs.Added.{false_is}
use Rattle.aig_live.proofs.Assembled.{GivesEach-there, there_grown}
use Rattle.aig_live.proofs.Counts.{list_all-below}
use Rattle.aig_live.proofs.Made.{ands_few}

-- the edge of those that ended before, where there are some
edge_before-more : (leaf r : ℕ) → edge_before leaf (suc r) ≡ edge_to (leaf + r) false
edge_before-more leaf r =
    let past : eqb (suc r) 0 ≡ false = ne_eqb (suc r) 0 (λ e. omega (arith, e)) in
    let place : leaf + (suc r - 1) ≡ leaf + r = omega arith in
    ap (λ b. cond b (edge_to 0 true) (edge_to (leaf + (suc r - 1)) false)) past
    ∙ ap (λ n. edge_to n false) place

-- the constant
true_is : (nodes : List AigNode) → AreNodes nodes → (x : ℕ → Bool)
    → edge_value nodes x (edge_to 0 true) ≡ true
true_is nodes are x = edge_value-inverse nodes x (edge_to 0 false) ∙ ap not (false_is nodes are x)

module _ (n0 n1 n2 n3 n4 n5 : List AigNode) (edges : List AigEdge) (count n first : ℕ)
    (is_n : n ≡ length n0) (is_first : first ≡ length n0 + length edges) (are : AreNodes n0)
    (in_edges : All (IsInRange n0) edges)
    (leaves : AddsLeaves (length edges + count) n0 n1)
    (met befores ended kept : List AigEdge) (ends : AigEdge)
    (met_give : GivesEach 2 n1 n2 (seen_of n1 (edge_to 0 true) n edges) (length edges) met)
    (g3 : AddsGates n2 n3) (rule : FoldsOrAddsAll n2 met n3 ends)
    (joins : JoinsByAnd n2 n3 met ends)
    (before : AreBefores first count befores)
    (ended_give : GivesEach 2 n3 n4 (seen_of n3 ends first befores) (length befores) ended)
    (kept_give : GivesEach 1 n4 n5 (kept_of n4 ends met) (length met) kept) where
  -- ---- nodes grow

  sound1 : AreNodes n1
  sound1 = leaves.grows.sound

  sound2 : AreNodes n2
  sound2 = met_give.gates.grows.sound

  sound3 : AreNodes n3
  sound3 = g3.grows.sound

  sound4 : AreNodes n4
  sound4 = ended_give.gates.grows.sound

  n1_n3 : AddsGates n1 n3
  n1_n3 = AddsGates-then n1 n2 n3 met_give.gates g3

  n2_n4 : AddsGates n2 n4
  n2_n4 = AddsGates-then n2 n3 n4 g3 ended_give.gates

  from_leaves : AddsGates n1 n5
  from_leaves = AddsGates-then n1 n4 n5 (AddsGates-then n1 n3 n4 n1_n3 ended_give.gates)
      kept_give.gates

  all_grows : Grows n0 n5
  all_grows = Grows-then n0 n1 n5 leaves.grows from_leaves.grows

  -- ---- values

  -- an added leaf has its value
  leaf_value : (nodes : List AigNode) → Grows n1 nodes → (x : ℕ → Bool) (m k : ℕ)
      → m ≡ length n0 + k → k < length edges + count
      → edge_value nodes x (edge_to m false) ≡ x (length n0 + k)
  leaf_value nodes grows x m k is low =
      let within : length n0 + k < length n1 = omega (arith, leaves.long, low) in
      let leaf : IsLeaf nodes (length n0 + k) = Grows-kept n1 nodes grows (length n0 + k) within
      ∙ leaves.leaves (length n0 + k) (omega arith) within in
      ap (λ j. edge_value nodes x (edge_to j false)) is
      ∙ node_value-leaf nodes x (length n0 + k) leaf

  met_value : (i : ℕ) (d : AigEdge) → i < length edges → (x : ℕ → Bool)
      → edge_value n2 x (get_or met i d) ≡ is_met n0 edges x i
  met_value i d low x =
      let e = get_or edges i (edge_to 0 false) in
      (met_give.each i d low).value x
      ∙ ap (λ b. b || (edge_value n1 x (edge_to 0 true) && edge_value n1 x e))
      (leaf_value n1 (Grows-itself n1 sound1) x (n + i) i (omega (arith, is_n)) (omega
      (arith, low)))
      ∙ ap (λ b. x (length n0 + i) || (b && edge_value n1 x e)) (true_is n1 sound1 x)
      ∙ ap (λ b. x (length n0 + i) || b)
      (edge_value-Grows n0 n1 are leaves.grows x e (in_edges i (edge_to 0 false) low))

  met_there : All (IsInRange n2) met
  met_there = GivesEach-there 2 n1 n2 (seen_of n1 (edge_to 0 true) n edges) (length edges) met
      met_give

  ends_value : (x : ℕ → Bool) → edge_value n3 x ends ≡ ends_now n0 edges x
  ends_value x =
      joins.gives.value x
      ∙ list_all-below (edge_value n2 x) met (is_met n0 edges x)
      (λ i d h. met_value i d (omega (arith, h, met_give.long)) x)
      ∙ ap (λ m. all_below m (is_met n0 edges x)) met_give.long

  before_value : (r : ℕ) → r < count → (x : ℕ → Bool)
      → edge_value n3 x (edge_before first r) ≡ ended_before n0 edges x r
  before_value zero h x = true_is n3 sound3 x
  before_value (suc r) h x =
      let place : length n0 + (length edges + r) ≡ length n0 + length edges + r = omega arith in
      ap (edge_value n3 x) (edge_before-more first r)
      ∙ leaf_value n3 n1_n3.grows x (first + r) (length edges + r) (omega (arith, is_first))
      (omega (arith, h))
      ∙ ap x place

  ended_value : (r : ℕ) (d : AigEdge) → r < count → (x : ℕ → Bool)
      → edge_value n4 x (get_or ended r d) ≡ ended_by n0 edges x (suc r)
  ended_value r d low x =
      let place : length n0 + (length edges + r) ≡ length n0 + length edges + r = omega arith in
      (ended_give.each r d (omega (arith, low, before.long))).value x
      ∙ ap (λ b. b || (edge_value n3 x ends && value_at n3 x befores r))
      (leaf_value n3 n1_n3.grows x (first + r) (length edges + r) (omega (arith, is_first))
      (omega (arith, low)) ∙ ap x place)
      ∙ ap (λ b. x (length n0 + length edges + r) || (b && value_at n3 x befores r)) (ends_value x)
      ∙ ap (λ b. x (length n0 + length edges + r) || (ends_now n0 edges x && b))
      (ap (edge_value n3 x) (before.each r (edge_to 0 false) low) ∙ before_value r low x)

  kept_value : (i : ℕ) (d : AigEdge) → i < length edges → (x : ℕ → Bool)
      → edge_value n5 x (get_or kept i d)
      ≡ is_met n0 edges x i && not (ends_now n0 edges x)
  kept_value i d low x =
      let e = edge_to 0 false in
      let here : i < length met = omega (arith, low, met_give.long) in
      (kept_give.each i d here).value x
      ∙ ap (λ b. b && not (edge_value n4 x ends))
      (edge_value-Grows n2 n4 sound2 n2_n4.grows x (get_or met i e) (met_there i e here)
      ∙ met_value i e low x)
      ∙ ap (λ b. is_met n0 edges x i && not b)
      (edge_value-Grows n3 n4 sound3 ended_give.gates.grows x ends joins.gives.there
      ∙ ends_value x)

  kept_long : length kept ≡ length edges
  kept_long = kept_give.long ∙ met_give.long

  ended_long : length ended ≡ count
  ended_long = ended_give.long ∙ before.long

  ended_there : All (IsInRange n4) ended
  ended_there = GivesEach-there 2 n3 n4 (seen_of n3 ends first befores) (length befores) ended
      ended_give

  ended_last : (r : ℕ) (d : AigEdge) → r < count → (x : ℕ → Bool)
      → edge_value n5 x (get_or ended r d) ≡ ended_by n0 edges x (suc r)
  ended_last r d low x =
      edge_value-Grows n4 n5 sound4 kept_give.gates.grows x (get_or ended r d)
      (ended_there r d (omega (arith, low, ended_long)))
      ∙ ended_value r d low x

  module _ (nexts : Vec AigEdge Global) (bad : AigEdge) (nexts_are : nexts.items ≡ kept ++ ended)
      (bad_none : length ended ≡ 0 → bad ≡ edge_to 0 true)
      (bad_last : (d : AigEdge) → 0 < length ended
      → bad ≡ get_or ended (length ended - 1) d) where
    kept_at : (i : ℕ) (d : AigEdge) → i < length edges → get_or nexts.items i d ≡ get_or kept i d
    kept_at i d low =
        ap (λ es. get_or es i d) nexts_are
        ∙ get_or_append_left kept ended d i (omega (arith, low, kept_long))

    ended_at : (r : ℕ) (d : AigEdge) → get_or nexts.items (length edges + r) d ≡ get_or ended r d
    ended_at r d =
        ap (λ es. get_or es (length edges + r) d) nexts_are
        ∙ ap (λ m. get_or (kept ++ ended) (m + r) d) (sym kept_long)
        ∙ get_or-append-add kept ended r d

    -- the bad edge is the last, or true
    bad_is : (c : ℕ) → c ≡ count → IsInRange n5 bad
        × ((x : ℕ → Bool) → edge_value n5 x bad ≡ ended_by n0 edges x c)
    bad_is zero same =
        let none_is = bad_none (omega (arith, same, ended_long)) in (
          subst (IsInRange n5) (sym none_is)
              (kind_at-within n5 0 False kept_give.gates.grows.sound.false_first),
          λ x. ap (edge_value n5 x) none_is ∙ true_is n5 kept_give.gates.grows.sound x,
        )
    bad_is (suc r) same =
        let d = edge_to 0 false in
        let low : r < count = omega (arith, same) in
        let place : length ended - 1 ≡ r = omega (arith, same, ended_long) in
        let last : bad ≡ get_or ended r d = bad_last d (omega (arith, same, ended_long))
        ∙ ap (λ i. get_or ended i d) place in (
          subst (IsInRange n5) (sym last)
              (let there = ended_there r d (omega (arith, low, ended_long)) in
              let longer = Grows-longer n4 n5 kept_give.gates.grows in
              omega (arith, there, longer)),
          λ x. ap (edge_value n5 x) last ∙ ended_last r d low x,
        )

    pub are_counted : AreCounted n0 n5 edges count (record { nexts = nexts; bad = bad })
    are_counted = record {
      grows = all_grows;
      leaves = λ m low high.
          let within : m < length n1 = omega (arith, high, leaves.long) in
          Grows-kept n1 n5 from_leaves.grows m within ∙ leaves.leaves m low within;
      longer = omega (arith, leaves.long, Grows-longer n1 n5 from_leaves.grows);
      few = omega (
        arith,
        leaves.long,
        met_give.few,
        ands_few met n2 n3 ends rule,
        met_give.long,
        ended_give.few,
        before.long,
        kept_give.few,
      );
      gates = λ m low high. from_leaves.gates m (omega (arith, low, leaves.long)) high;
      nexts_count = ap length nexts_are ∙ length-append kept ended
          ∙ omega (arith, kept_long, ended_long);
      nexts_there = subst (All (IsInRange n5)) (sym nexts_are)
          (All-append (IsInRange n5) kept ended
          (GivesEach-there 1 n4 n5 (kept_of n4 ends met) (length met) kept kept_give)
          (there_grown n4 n5 ended kept_give.gates.grows ended_there));
      bad_there = (bad_is count refl).0;
      met_values = λ i d low x. ap (edge_value n5 x) (kept_at i d low) ∙ kept_value i d low x;
      ended_values = λ r d low x. ap (edge_value n5 x) (ended_at r d) ∙ ended_last r d low x;
      bad_value = (bad_is count refl).1;
    }

-- ---- the edges of those that ended before

pub AreBefores-none : (leaf : ℕ) → AreBefores leaf 0 []
AreBefores-none leaf = record { long = refl; each = λ r d h. absurd (omega (arith, h)) }

pub AreBefores-more : (leaf count : ℕ) (es made : List AigEdge) (e : AigEdge)
    → AreBefores leaf count es → e ≡ edge_before leaf count → made ≡ es ++ e ∷ []
    → AreBefores leaf (count + 1) made
AreBefores-more leaf count es made e are at is = record {
  long = ap length is ∙ length-append es (e ∷ []) ∙ ap (λ n. n + 1) are.long;
  each = λ r d h. subst (λ list. get_or list r d ≡ edge_before leaf r) (sym is) (by r d h
      (cases_lt r count));
}
  where
    by : (r : ℕ) (d : AigEdge) → r < count + 1 → (r < count) ⊎ (count ≤ r)
        → get_or (es ++ e ∷ []) r d ≡ edge_before leaf r
    by r d h (inl low) =
        get_or_append_left es (e ∷ []) d r (omega (arith, low, are.long)) ∙ are.each r d low
    by r d h (inr high) =
        let same : count ≡ r = omega (arith, h, high) in
        let place : length es + 0 ≡ r = omega (arith, same, are.long) in
        subst (λ k. get_or (es ++ e ∷ []) k d ≡ edge_before leaf r) place
        (get_or-append-add es (e ∷ []) 0 d ∙ at ∙ ap (edge_before leaf) same)

-- ---- an edge that is kept

pub kept_old : (old mid new : List AigNode) (e ends made : AigEdge) → AreNodes old → Grows old mid
    → IsInRange old e → IsInRange old ends
    → GivesEdge new (λ x. edge_value mid x e && edge_value mid x (inverse ends)) made
    → GivesEdge new (λ x. edge_value old x e && not (edge_value old x ends)) made
kept_old old mid new e ends made are grows in_e in_ends gives = record {
  there = gives.there;
  value = λ x.
      gives.value x
      ∙ ap (λ b. b && edge_value mid x (inverse ends)) (edge_value-Grows old mid are grows x e in_e)
      ∙ ap (λ b. edge_value old x e && b) (edge_value-inverse mid x ends
      ∙ ap not (edge_value-Grows old mid are grows x ends in_ends));
}

-- those edges are there
pub befores_there : (nodes : List AigNode) (leaf count : ℕ) (es : List AigEdge) → AreNodes nodes
    → leaf + count ≤ length nodes → AreBefores leaf count es → All (IsInRange nodes) es
befores_there nodes leaf count es are room before r d h =
    subst (IsInRange nodes) (sym (before.each r d (omega (arith, h, before.long))))
    (at r (omega (arith, h, before.long)))
  where
    at : (q : ℕ) → q < count → IsInRange nodes (edge_before leaf q)
    at zero low = kind_at-within nodes 0 False are.false_first
    at (suc q) low = subst (IsInRange nodes) (sym (edge_before-more leaf q))
        (let there : leaf + q < length nodes = omega (arith, low, room) in there)
