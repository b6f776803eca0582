-- A bad state of the circuit that counts rounds shows that so many end, and the other way round.
use Rattle.aig_base.proofs.Words.{◌≡◌, ◌⊎◌, ℕ, zero, suc, ◌+◌, ◌-◌, ◌<◌, ◌≤◌, ◌&&◌, ◌||◌, Bool, false, cond, leb, ltb, not, IsTrue, Option, List, length, get_or, refl, sym, ap, subst, ◌∙◌, inl, inr, arith, add-one, cases_lt, le-leb, leb-true, lt-ltb, le-ltb, lt-leb}
use Rattle.aig_circuit.specs.declared.edge.AigEdge.{AigEdge}
use Rattle.aig_circuit.proofs.Words.{Circuit, IsCircuit, IsLeaf, edge_to, edge_value}
use Rattle.aig_circuit.proofs.Trees.{kind_at-within}
use Rattle.aig_circuit.specs.declared.node.AigNodeType.TheVariants.{Leaf}
use Rattle.aig_join.proofs.Grown.{value-agrees}
use Rattle.aig_runs.specs.CircuitQueries.{HasCircuitWitness, IsCircuitWitness}
use Rattle.aig_live.specs.EndedRounds.{ends, now_of, rounds}
use Rattle.aig_live.specs.Names.{rounds_names}
use Rattle.aig_live.specs.Rounds.{IsRoundsOf, IsRoundsRun, ended_before, ended_by, ends_now, is_met, value_of}
use Rattle.aig_live.proofs.Counts.{all_below-same, carried, ended_more, now_is}
use Rattle.aig_live.proofs.Running.{cut_allowed, cut_bad, cut_next, cut_start, extended_witness}

module _ (edges : List AigEdge) (count : ℕ) (c new : Circuit) (is : IsCircuit c)
    (live : IsRoundsOf edges count c new) where
  abbrev texts : List (Option (List ℕ))
  texts = rounds_names (length edges) count

  -- ---- one step, whose leaves have what was carried and counted

  module _ (v : ℕ → ℕ → Bool) (t : ℕ) (y : ℕ → Bool)
      (values : (i : ℕ) → value_of c.nodes edges y i ≡ v i t)
      (met : (i : ℕ) → i < length edges
      → y (length c.nodes + i) ≡ carried (length edges) v t i)
      (full : (r : ℕ) → r < count
      → y (length c.nodes + length edges + r) ≡ leb (suc r) (rounds (length edges) v t)) where
    met_is : (i : ℕ) → i < length edges
        → is_met c.nodes edges y i ≡ now_of (length edges) v t i
    met_is i low =
        ap (λ b. b || value_of c.nodes edges y i) (met i low)
        ∙ ap (λ b. carried (length edges) v t i || b) (values i)
        ∙ sym (now_is (length edges) v t i)

    ends_is : ends_now c.nodes edges y ≡ ends (length edges) v t
    ends_is = all_below-same (length edges) (is_met c.nodes edges y)
        (now_of (length edges) v t) met_is

    before_is : (r : ℕ) → r ≤ count
        → ended_before c.nodes edges y r ≡ leb r (rounds (length edges) v t)
    before_is zero h = sym (le-leb 0 (rounds (length edges) v t) (omega arith))
    before_is (suc r) h = full r (omega (arith, h))

    by_is : (r : ℕ) → r ≤ count
        → ended_by c.nodes edges y r ≡ leb r (rounds (length edges) v (suc t))
    by_is zero h = sym (le-leb 0 (rounds (length edges) v (suc t)) (omega arith))
    by_is (suc r) h =
        ap (λ b. b || (ends_now c.nodes edges y && ended_before c.nodes edges y r))
        (before_is (suc r) h)
        ∙ ap (λ b. leb (suc r) (rounds (length edges) v t)
        || (b && ended_before c.nodes edges y r)) ends_is
        ∙ ap (λ b. leb (suc r) (rounds (length edges) v t) || (ends (length edges) v t && b))
        (before_is r (omega (arith, h)))
        ∙ sym (ended_more (length edges) v t r)

    -- so the next edges have what is carried and counted then
    next_met : (i : ℕ) (d : AigEdge) → i < length edges
        → edge_value new.nodes y (get_or live.nexts i d) ≡ carried (length edges) v (suc t) i
    next_met i d low =
        live.met_values i d low y
        ∙ ap (λ b. b && not (ends_now c.nodes edges y)) (met_is i low)
        ∙ ap (λ b. now_of (length edges) v t i && not b) ends_is

    next_full : (r : ℕ) (d : AigEdge) → r < count
        → edge_value new.nodes y (get_or live.nexts (length edges + r) d)
        ≡ leb (suc r) (rounds (length edges) v (suc t))
    next_full r d low = live.ended_values r d low y ∙ by_is (suc r) (omega (arith, low))

    bad_is : edge_value new.nodes y live.bad ≡ leb count (rounds (length edges) v (suc t))
    bad_is = live.bad_value y ∙ by_is count (omega arith)

  long : length live.nexts ≡ length edges + count
  long = live.nexts_count

  -- ---- of a run of the circuit that counts

  module _ (k : ℕ) (z : ℕ → ℕ → Bool) (witness : IsCircuitWitness new k z) where
    v : ℕ → ℕ → Bool
    v i t = value_of c.nodes edges (z t) i

    own : (t i : ℕ) → value_of c.nodes edges (z t) i ≡ v i t
    unfolding v
    own t i = refl

    abbrev next_of : (t j : ℕ) (e : AigEdge) → t < k → j < length live.nexts
        → z (t + 1) (length c.nodes + 0 + j) ≡ edge_value new.nodes (z t) (get_or live.nexts j e)
    next_of = cut_next 0 live.nexts live.bad texts c new is live.extended k z witness

    leaves_are : (t : ℕ) → t ≤ k
        → ((i : ℕ) → i < length edges → z t (length c.nodes + i) ≡ carried (length edges) v t i)
        × ((r : ℕ) → r < count → z t (length c.nodes + length edges + r)
        ≡ leb (suc r) (rounds (length edges) v t))
    leaves_are zero h = (
      λ i low.
          let place : length c.nodes + 0 + i ≡ length c.nodes + i = omega arith in
          subst (λ n. z 0 n ≡ false) place
          (cut_start 0 live.nexts live.bad texts c new is live.extended k z witness i (omega
          (arith, low, long))),
      λ r low.
          let place : length c.nodes + 0 + (length edges + r)
          ≡ length c.nodes + length edges + r = omega arith in
          subst (λ n. z 0 n ≡ false) place
          (cut_start 0 live.nexts live.bad texts c new is live.extended k z witness
          (length edges + r)
          (omega (arith, low, long)))
          ∙ sym (lt-leb (suc r) 0 (omega arith)),
    )
    leaves_are (suc t) h = by (leaves_are t (omega (arith, h)))
      where
        by : ((i : ℕ) → i < length edges
            → z t (length c.nodes + i) ≡ carried (length edges) v t i)
            × ((r : ℕ) → r < count → z t (length c.nodes + length edges + r)
            ≡ leb (suc r) (rounds (length edges) v t))
            → ((i : ℕ) → i < length edges
            → z (suc t) (length c.nodes + i) ≡ carried (length edges) v (suc t) i)
            × ((r : ℕ) → r < count → z (suc t) (length c.nodes + length edges + r)
            ≡ leb (suc r) (rounds (length edges) v (suc t)))
        by was = (
          λ i low.
              let d = edge_to 0 false in
              let place : length c.nodes + 0 + i ≡ length c.nodes + i = omega arith in
              subst (λ s. z s (length c.nodes + i) ≡ carried (length edges) v (suc t) i)
              (add-one t)
              (subst (λ n. z (t + 1) n ≡ carried (length edges) v (suc t) i) place
              (next_of t i d (omega (arith, h)) (omega (arith, low, long))
              ∙ next_met v t (z t) (own t) was.0 was.1 i d low)),
          λ r low.
              let d = edge_to 0 false in
              let place : length c.nodes + 0 + (length edges + r)
              ≡ length c.nodes + length edges + r = omega arith in
              subst (λ s. z s (length c.nodes + length edges + r)
              ≡ leb (suc r) (rounds (length edges) v (suc t))) (add-one t)
              (subst (λ n. z (t + 1) n ≡ leb (suc r) (rounds (length edges) v (suc t))) place
              (next_of t (length edges + r) d (omega (arith, h)) (omega (arith, low, long))
              ∙ next_full v t (z t) (own t) was.0 was.1 r d low)),
        )

    pub run_of : IsRoundsRun edges count c k z
    unfolding v
    run_of =
        let are = leaves_are k (omega arith) in
        record {
          allowed = cut_allowed 0 live.nexts live.bad texts c new is live.extended k z witness;
          ended = leb-true count (rounds (length edges) v (suc k))
              (sym (bad_is v k (z k) (own k) are.0 are.1)
              ∙ cut_bad 0 live.nexts live.bad texts c new is live.extended k z witness);
        }

  -- ---- of a run in which so many rounds end

  module _ (k : ℕ) (x : ℕ → ℕ → Bool) (run : IsRoundsRun edges count c k x) where
    w : ℕ → ℕ → Bool
    w i t = value_of c.nodes edges (x t) i

    -- the values of the old leaves, and of those of the edges and the rounds
    z : ℕ → ℕ → Bool
    z t n =
        cond (ltb n (length c.nodes)) (x t n)
        (cond (ltb n (length c.nodes + length edges))
        (carried (length edges) w t (n - length c.nodes))
        (leb (suc (n - (length c.nodes + length edges))) (rounds (length edges) w t)))

    at_old : (t n : ℕ) → n < length c.nodes → z t n ≡ x t n
    unfolding z
    at_old t n h = ap (λ b. cond b (x t n) (cond (ltb n (length c.nodes + length edges))
        (carried (length edges) w t (n - length c.nodes))
        (leb (suc (n - (length c.nodes + length edges))) (rounds (length edges) w t))))
        (lt-ltb n (length c.nodes) h)

    at_met : (t i : ℕ) → i < length edges
        → z t (length c.nodes + i) ≡ carried (length edges) w t i
    unfolding z
    at_met t i h =
        let n = length c.nodes + i in
        let place : n - length c.nodes ≡ i = omega arith in
        ap (λ b. cond b (x t n) (cond (ltb n (length c.nodes + length edges))
        (carried (length edges) w t (n - length c.nodes))
        (leb (suc (n - (length c.nodes + length edges))) (rounds (length edges) w t))))
        (le-ltb n (length c.nodes) (omega arith))
        ∙ ap (λ b. cond b (carried (length edges) w t (n - length c.nodes))
        (leb (suc (n - (length c.nodes + length edges))) (rounds (length edges) w t)))
        (lt-ltb n (length c.nodes + length edges) (omega (arith, h)))
        ∙ ap (carried (length edges) w t) place

    at_full : (t r : ℕ) → z t (length c.nodes + length edges + r)
        ≡ leb (suc r) (rounds (length edges) w t)
    unfolding z
    at_full t r =
        let n = length c.nodes + length edges + r in
        let place : n - (length c.nodes + length edges) ≡ r = omega arith in
        ap (λ b. cond b (x t n) (cond (ltb n (length c.nodes + length edges))
        (carried (length edges) w t (n - length c.nodes))
        (leb (suc (n - (length c.nodes + length edges))) (rounds (length edges) w t))))
        (le-ltb n (length c.nodes) (omega arith))
        ∙ ap (λ b. cond b (carried (length edges) w t (n - length c.nodes))
        (leb (suc (n - (length c.nodes + length edges))) (rounds (length edges) w t)))
        (le-ltb n (length c.nodes + length edges) (omega arith))
        ∙ ap (λ i. leb (suc i) (rounds (length edges) w t)) place

    same : (t n : ℕ) → IsLeaf c.nodes n → x t n ≡ z t n
    same t n leaf = sym (at_old t n (kind_at-within c.nodes n Leaf leaf))

    values_are : (t i : ℕ) → value_of c.nodes edges (z t) i ≡ w i t
    unfolding w
    values_are t i = sym (value-agrees c is (x t) (z t) (same t) (get_or edges i (edge_to 0 false)))

    next : (t j : ℕ) (e : AigEdge) → t < k → j < length live.nexts
        → z (t + 1) (length c.nodes + 0 + j) ≡ edge_value new.nodes (z t) (get_or live.nexts j e)
    next t j e h low = by (cases_lt j (length edges))
      where
        by : (j < length edges) ⊎ (length edges ≤ j)
            → z (t + 1) (length c.nodes + 0 + j) ≡ edge_value new.nodes (z t)
            (get_or live.nexts j e)
        by (inl own) =
            let place : length c.nodes + j ≡ length c.nodes + 0 + j = omega arith in
            subst (λ n. z (t + 1) n ≡ edge_value new.nodes (z t) (get_or live.nexts j e)) place
            (at_met (t + 1) j own
            ∙ ap (λ s. carried (length edges) w s j) (add-one t)
            ∙ sym (next_met w t (z t) (values_are t) (at_met t) (λ r l. at_full t r) j e own))
        by (inr past) =
            let r = j - length edges in
            let within : r < count = omega (arith, past, low, long) in
            let index : length edges + r ≡ j = omega (arith, past) in
            let place : length c.nodes + length edges + r ≡ length c.nodes + 0 + j = omega
            (arith, past) in
            subst (λ n. z (t + 1) n ≡ edge_value new.nodes (z t) (get_or live.nexts j e)) place
            (subst (λ i. z (t + 1) (length c.nodes + length edges + r) ≡ edge_value new.nodes (z t)
            (get_or live.nexts i e)) index
            (at_full (t + 1) r
            ∙ ap (λ s. leb (suc r) (rounds (length edges) w s)) (add-one t)
            ∙ sym (next_full w t (z t) (values_are t) (at_met t) (λ q l. at_full t q) r e within)))

    start : (j : ℕ) → j < length live.nexts → z 0 (length c.nodes + 0 + j) ≡ false
    start j low = by (cases_lt j (length edges))
      where
        by : (j < length edges) ⊎ (length edges ≤ j) → z 0 (length c.nodes + 0 + j) ≡ false
        by (inl own) =
            let place : length c.nodes + j ≡ length c.nodes + 0 + j = omega arith in
            subst (λ n. z 0 n ≡ false) place (at_met 0 j own)
        by (inr past) =
            let r = j - length edges in
            let place : length c.nodes + length edges + r ≡ length c.nodes + 0 + j = omega
            (arith, past) in
            subst (λ n. z 0 n ≡ false) place (at_full 0 r ∙ lt-leb (suc r) 0 (omega arith))

    holds : IsTrue (edge_value new.nodes (z k) live.bad)
    unfolding w
    holds = bad_is w k (z k) (values_are k) (at_met k) (λ r l. at_full k r)
        ∙ le-leb count (rounds (length edges) w (suc k)) run.ended

    pub witness_of_run : HasCircuitWitness new k
    witness_of_run = (
      z,
      extended_witness 0 live.nexts live.bad texts c new is live.extended k z x run.allowed same
          next start holds,
    )
