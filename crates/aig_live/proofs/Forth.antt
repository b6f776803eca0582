-- A bad state of the live circuit shows a fair lasso.
use Rattle.aig_base.proofs.Words.{◌≡◌, ◌⊎◌, ℕ, zero, suc, ◌+◌, ◌<◌, ◌≤◌, ◌&&◌, ◌||◌, Bool, true, false, cond, IsTrue, List, [], ◌∷◌, ◌++◌, length, get_or, sym, ap, subst, ◌∙◌, inl, inr, arith, add-one, All, All-head, list_any, or_cases, false≢true}
use Rattle.aig_circuit.specs.declared.edge.AigEdge.{AigEdge}
use Rattle.aig_circuit.specs.declared.node.AigLatch.{AigLatch}
use Rattle.aig_circuit.proofs.Words.{AreNodes, Circuit, IsCircuit, edge_to, edge_value}
use Rattle.aig_circuit.proofs.Lists.{All-first, All-second}
use Rattle.aig_change.specs.Runs.{IsAllowedRun}
use Rattle.aig_join.proofs.Grown.{runs-grown, starts-grown}
use Rattle.aig_runs.specs.CircuitQueries.{IsCircuitWitness}
use Rattle.aig_live.specs.Saving.{copied, is_active, is_saved, seen, seen_before}
use Rattle.aig_live.proofs.Saving.{since}
use Rattle.aig_live.specs.Lassos.{IsLasso}
use Rattle.aig_live.specs.Live.{IsLiveOf, copy_leaf, false_latch, false_latches, is_active_in, save_leaf, saved_leaf, seen_leaf}
use Rattle.aig_live.proofs.Added.{Begins, Follows, begins_at, false_is, follows_at}

-- what holds of all elements of four lists holds of those of each
pub split : {X : Type 0} (P : X → Type 0) (os bs cs ds : List X) → All P (os ++ bs ++ cs ++ ds)
    → All P os × All P bs × All P cs × All P ds
split P os bs cs ds all =
    let three = All-first P (os ++ bs ++ cs) ds all in
    let two = All-first P (os ++ bs) cs three in (
      All-first P os bs two,
      All-second P os bs two,
      All-second P (os ++ bs) cs three,
      All-second P
          (os ++ bs ++ cs) ds all,
    )

module _ (edges : List AigEdge) (c new : Circuit) (is : IsCircuit c)
    (live : IsLiveOf edges c new) where
  pub bads_are : new.properties.bads ≡ live.bad ∷ []
  bads_are = ap (λ (m : Circuit). m.properties.bads) live.rest

  pub constraints_are : new.properties.constraints ≡ c.properties.constraints
  constraints_are = ap (λ (m : Circuit). m.properties.constraints) live.rest

  abbrev pub one : List AigLatch
  one = false_latch (saved_leaf c) live.active ∷ []

  abbrev pub copies : List AigLatch
  copies = false_latches (copy_leaf c) live.starts

  abbrev pub seens : List AigLatch
  seens = false_latches (seen_leaf c) live.seen

  -- a bad state is the one bad edge
  pub bad_is : (x : ℕ → Bool) → IsTrue (list_any (edge_value new.nodes x) new.properties.bads)
      → IsTrue (edge_value new.nodes x live.bad)
  bad_is x h = by (or_cases (edge_value new.nodes x live.bad) false (subst (λ es. IsTrue (list_any
      (edge_value new.nodes x) es)) bads_are h))
    where
      by : (edge_value new.nodes x live.bad ≡ true) ⊎ (false ≡ true)
          → IsTrue (edge_value new.nodes x live.bad)
      by (inl at) = at
      by (inr other) = absurd (false≢true other)

  module _ (k : ℕ) (z : ℕ → ℕ → Bool) (witness : IsCircuitWitness new k z) where
    abbrev nodes_sound : AreNodes new.nodes
    nodes_sound = live.nodes.sound

    follows : (t : ℕ) → t < k
        → All (Follows new.nodes live.nodes.sound (z t) (z (t + 1)))
        (c.latchs ++ one ++ copies ++ seens)
    follows t h = subst (All (Follows new.nodes live.nodes.sound (z t) (z (t + 1)))) live.latchs
        (witness.is_run t h)

    begins : All (Begins new.nodes live.nodes.sound (z 0)) (c.latchs ++ one ++ copies ++ seens)
    begins = subst (All (Begins new.nodes live.nodes.sound (z 0))) live.latchs witness.start

    -- ---- the added leaves

    save : ℕ → Bool
    save t = z t (save_leaf c)

    state : ℕ → AigLatch → ℕ → Bool
    state i d t = z t (get_or c.latchs i d).input

    value : ℕ → AigEdge → ℕ → Bool
    value i d t = edge_value c.nodes (z t) (get_or edges i d)

    one_follows : (t : ℕ) → t < k → All (Follows new.nodes live.nodes.sound (z t) (z (t + 1))) one
    one_follows t h = (split (Follows new.nodes live.nodes.sound (z t) (z
        (t + 1))) c.latchs one copies seens (follows t h)).1

    copies_follow : (t : ℕ) → t < k
        → All (Follows new.nodes live.nodes.sound (z t) (z (t + 1))) copies
    copies_follow t h = (split (Follows new.nodes live.nodes.sound (z t) (z
        (t + 1))) c.latchs one copies seens (follows t h)).2

    seens_follow : (t : ℕ) → t < k
        → All (Follows new.nodes live.nodes.sound (z t) (z (t + 1))) seens
    seens_follow t h = (split (Follows new.nodes live.nodes.sound (z t) (z
        (t + 1))) c.latchs one copies seens (follows t h)).3

    parts_begin : All (Begins new.nodes live.nodes.sound (z 0)) c.latchs
        × All (Begins new.nodes live.nodes.sound (z 0)) one
        × All (Begins new.nodes live.nodes.sound (z 0)) copies
        × All (Begins new.nodes live.nodes.sound (z 0)) seens
    parts_begin = split (Begins new.nodes live.nodes.sound (z 0)) c.latchs one copies seens begins

    copies_begin : All (Begins new.nodes live.nodes.sound (z 0)) copies
    copies_begin = parts_begin.2

    seens_begin : All (Begins new.nodes live.nodes.sound (z 0)) seens
    seens_begin = parts_begin.3

    saved_is : (t : ℕ) → t ≤ k → z t (saved_leaf c) ≡ is_saved save t
    unfolding save
    saved_is zero h =
        let P = Begins new.nodes live.nodes.sound (z 0) in
        let first : P (false_latch (saved_leaf c) live.active) = All-head P (false_latch
        (saved_leaf c) live.active) [] parts_begin.1 in
        sym first ∙ false_is new.nodes live.nodes.sound (z 0)
    saved_is (suc t) h =
        let P = Follows new.nodes live.nodes.sound (z t) (z (t + 1)) in
        let next : z (t + 1) (saved_leaf c) ≡ edge_value new.nodes (z t) live.active = All-head P
        (false_latch (saved_leaf c) live.active) [] (one_follows t (omega arith)) in
        subst (λ s. z s (saved_leaf c) ≡ (is_saved save t || save t)) (add-one t)
        (next ∙ live.active_value (z t)
        ∙ ap (λ b. b || z t (save_leaf c)) (saved_is t (omega arith)))

    copy_is : (i : ℕ) (d : AigLatch) → i < length c.latchs → (t : ℕ) → t ≤ k
        → z t (copy_leaf c + i) ≡ copied save (state i d) t
    unfolding state
    copy_is i d low zero h =
        begins_at new.nodes live.nodes.sound (copy_leaf c) live.starts (z 0) copies_begin i (omega
        (arith, live.starts_count))
    copy_is i d low (suc t) h =
        let e = edge_to 0 false in
        let next : z (t + 1) (copy_leaf c + i) ≡ edge_value new.nodes (z t)
        (get_or live.starts i e) =
        follows_at new.nodes live.nodes.sound (copy_leaf c) live.starts (z t) (z (t + 1))
        (copies_follow t (omega arith)) i e (omega (arith, live.starts_count)) in
        subst (λ s. z s (copy_leaf c + i) ≡ cond (is_saved save t) (copied save (state i d) t)
        (state i d t)) (add-one t)
        (next ∙ live.start_values i d e low (z t)
        ∙ ap (λ b. cond b (z t (copy_leaf c + i)) (z t (get_or c.latchs i d).input)) (saved_is t
        (omega arith))
        ∙ ap (λ b. cond (is_saved save t) b (z t (get_or c.latchs i d).input)) (copy_is i d low t
        (omega arith)))

    active_is : (t : ℕ) → t ≤ k → is_active_in c (z t) ≡ is_active save t
    unfolding save
    active_is t h = ap (λ b. b || z t (save_leaf c)) (saved_is t h)

    seen_is : (i : ℕ) (d : AigEdge) → i < length edges → (t : ℕ) → t ≤ k
        → z t (seen_leaf c + i) ≡ seen_before save (value i d) t
    unfolding value
    seen_is i d low zero h =
        begins_at new.nodes live.nodes.sound (seen_leaf c) live.seen (z 0) seens_begin i (omega
        (arith, live.seen_count))
    seen_is i d low (suc t) h =
        let next : z (t + 1) (seen_leaf c + i) ≡ edge_value new.nodes (z t) (get_or live.seen i d) =
        follows_at new.nodes live.nodes.sound (seen_leaf c) live.seen (z t) (z (t + 1))
        (seens_follow t (omega arith)) i d (omega (arith, live.seen_count)) in
        subst (λ s. z s (seen_leaf c + i) ≡ (seen_before save (value i d) t ||
        (is_active save t && value i d t))) (add-one t)
        (next ∙ live.seen_values i d d low (z t)
        ∙ ap (λ b. b || (is_active_in c (z t) && value i d t)) (seen_is i d low t (omega arith))
        ∙ ap (λ b. seen_before save (value i d) t || (b && value i d t)) (active_is t
        (omega arith)))

    -- ---- the lasso

    old_allowed : IsAllowedRun c k z
    old_allowed = record {
      from_start = record {
        run = (runs-grown c is new.nodes live.nodes c.properties k z).0
            (λ t h. (split (Follows new.nodes live.nodes.sound (z t) (z
            (t + 1))) c.latchs one copies seens (follows t h)).0);
        start = (starts-grown c is new.nodes live.nodes c.properties (z 0)).0 parts_begin.0;
      };
      allowed = λ t h j d low.
          sym (live.nodes.values (z t) (get_or c.properties.constraints j d)
          (is.properties.constraints j d low))
          ∙ subst (All (λ e. IsTrue (edge_value new.nodes (z t) e))) constraints_are
          (witness.constraints t h) j d low;
    }

    pub lasso_of : (l : ℕ) × IsLasso edges c l k z
    unfolding state value
    lasso_of =
        let holds = (live.bad_value (z k)).0 (bad_is (z k) witness.bad) in
        let active : IsTrue (is_active save k) = sym (active_is k (omega arith)) ∙ holds.0 in
        let found = since save k active in (
          found.0,
          record {
            allowed = old_allowed;
            order = found.1.order;
            loops = λ i d low.
                let e = edge_to 0 false in
                sym (holds.1 i d e low ∙ live.start_values i d e low (z k)
                ∙ ap (λ b. cond b (z k (copy_leaf c + i)) (z k (get_or c.latchs i d).input))
                (saved_is k (omega arith))
                ∙ ap (λ b. cond (is_saved save k) b (z k (get_or c.latchs i d).input))
                (copy_is i d low k (omega arith))
                ∙ found.1.start (state i d));
            fair = λ i d low.
                let here : edge_value new.nodes (z k) (get_or live.seen i d) ≡ seen save
                (value i d) k =
                live.seen_values i d d low (z k)
                ∙ ap (λ b. b || (is_active_in c (z k) && value i d k)) (seen_is i d low k
                (omega arith))
                ∙ ap (λ b. seen_before save (value i d) k || (b && value i d k)) (active_is k
                (omega arith)) in
                (found.1.met (value i d)).0 (sym here ∙ holds.2 i d low);
          },
        )
