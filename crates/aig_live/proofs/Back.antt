-- A fair lasso leads to a bad state of the live circuit.
use Rattle.aig_base.proofs.Words.{◌≡◌, ◌⊎◌, ℕ, zero, suc, ◌+◌, ◌-◌, ◌<◌, ◌≤◌, ◌&&◌, ◌||◌, Bool, true, false, cond, eqb, ltb, IsTrue, None, List, [], ◌++◌, length, get_or, refl, sym, ap, subst, ◌∙◌, inl, inr, arith, add-one, All, All-append, All-cons, All-nil, list_any, cases_lt, eq-eqb, ne_eqb, nat_tests, or_right, get_or_default, eqb-true}
use Rattle.aig_circuit.specs.declared.edge.AigEdge.{AigEdge}
use Rattle.aig_circuit.specs.declared.node.AigLatch.{AigLatch}
use Rattle.aig_circuit.specs.declared.node.AigNodeType.TheVariants.{Leaf}
use Rattle.aig_circuit.proofs.Words.{Circuit, IsCircuit, IsLeaf, edge_to, edge_value}
use Rattle.aig_circuit.proofs.Trees.{kind_at-within}
use Rattle.aig_live.specs.Saving.{IsSince, copied, is_active, is_saved, seen, seen_before, start_value}
use Rattle.aig_live.proofs.Saving.{since}
use Rattle.aig_live.specs.Lassos.{IsLasso}
use Rattle.aig_live.specs.Live.{IsLiveOf, copy_leaf, false_latch, is_active_in, save_leaf, saved_leaf, seen_leaf}
use Rattle.aig_live.proofs.Added.{Begins, Follows, begin, false_is, follow}
use Rattle.aig_live.proofs.Forth.{bads_are, constraints_are, copies, one, seens}
use Rattle.aig_join.proofs.Grown.{constraints-agree, run-agrees, runs-grown, start-agrees, starts-grown, value-agrees}
use Rattle.aig_runs.specs.CircuitQueries.{HasCircuitWitness}

no_edge : AigEdge
no_edge = edge_to 0 false

no_latch : AigLatch
no_latch = record { input = 0; next = edge_to 0 false; init = None }

-- one of five values
abbrev chosen : Bool → Bool → Bool → Bool → Bool → Bool → Bool → Bool → Bool → Bool
chosen p q r s u v w x y = cond p u (cond q v (cond r w (cond s x y)))

first : (p q r s u v w x y : Bool) → p ≡ true → chosen p q r s u v w x y ≡ u
first p q r s u v w x y a = ap (λ b. chosen b q r s u v w x y) a

second : (p q r s u v w x y : Bool) → p ≡ false → q ≡ true → chosen p q r s u v w x y ≡ v
second p q r s u v w x y a b = ap (λ c. chosen c q r s u v w x y) a
    ∙ ap (λ c. chosen false c r s u v w x y) b

third : (p q r s u v w x y : Bool) → p ≡ false → q ≡ false → r ≡ true
    → chosen p q r s u v w x y ≡ w
third p q r s u v w x y a b c =
    ap (λ d. chosen d q r s u v w x y) a ∙ ap (λ d. chosen false d r s u v w x y) b
    ∙ ap (λ d. chosen false false d s u v w x y) c

last_two : (p q r s u v w x y : Bool) → p ≡ false → q ≡ false → r ≡ false
    → chosen p q r s u v w x y ≡ cond s x y
last_two p q r s u v w x y a b c =
    ap (λ d. chosen d q r s u v w x y) a ∙ ap (λ d. chosen false d r s u v w x y) b
    ∙ ap (λ d. chosen false false d s u v w x y) c

module _ (edges : List AigEdge) (c new : Circuit) (is : IsCircuit c) (live : IsLiveOf edges c new)
    (l k : ℕ) (x : ℕ → ℕ → Bool) (lasso : IsLasso edges c l k x) where
  save : ℕ → Bool
  save t = eqb t l

  state : ℕ → ℕ → Bool
  state i t = x t (get_or c.latchs i no_latch).input

  value : ℕ → ℕ → Bool
  value i t = edge_value c.nodes (x t) (get_or edges i no_edge)

  -- the values of the leaves that are added, and of the old ones
  z : ℕ → ℕ → Bool
  z t n =
      chosen (ltb n (length c.nodes)) (eqb n (length c.nodes)) (eqb n (length c.nodes + 1))
      (ltb n (length c.nodes + 2 + length c.latchs)) (x t n) (save t) (is_saved save t)
      (copied save (state (n - (length c.nodes + 2))) t)
      (seen_before save (value (n - (length c.nodes + 2 + length c.latchs))) t)

  at_old : (t n : ℕ) → n < length c.nodes → z t n ≡ x t n
  unfolding z
  at_old t n h = first (ltb n (length c.nodes)) (eqb n (length c.nodes)) (eqb n
      (length c.nodes + 1))
      (ltb n (length c.nodes + 2 + length c.latchs)) (x t n) (save t) (is_saved save t)
      (copied save (state (n - (length c.nodes + 2))) t)
      (seen_before save (value (n - (length c.nodes + 2 + length c.latchs))) t)
      (grind (arith, nat_tests))

  at_save : (t : ℕ) → z t (save_leaf c) ≡ save t
  unfolding z
  at_save t = let n = length c.nodes in
      second (ltb n (length c.nodes)) (eqb n (length c.nodes)) (eqb n (length c.nodes + 1))
      (ltb n (length c.nodes + 2 + length c.latchs)) (x t n) (save t) (is_saved save t)
      (copied save (state (n - (length c.nodes + 2))) t)
      (seen_before save (value (n - (length c.nodes + 2 + length c.latchs))) t)
      (grind (arith, nat_tests)) (eq-eqb n n refl)

  at_saved : (t : ℕ) → z t (saved_leaf c) ≡ is_saved save t
  unfolding z
  at_saved t = let n = length c.nodes + 1 in
      third (ltb n (length c.nodes)) (eqb n (length c.nodes)) (eqb n (length c.nodes + 1))
      (ltb n (length c.nodes + 2 + length c.latchs)) (x t n) (save t) (is_saved save t)
      (copied save (state (n - (length c.nodes + 2))) t)
      (seen_before save (value (n - (length c.nodes + 2 + length c.latchs))) t)
      (grind (arith, nat_tests)) (ne_eqb n (length c.nodes) (λ e. omega (arith, e)))
      (eq-eqb n n refl)

  at_others : (t i : ℕ) → z t (length c.nodes + 2 + i)
      ≡ cond (ltb (length c.nodes + 2 + i) (length c.nodes + 2 + length c.latchs))
      (copied save (state (length c.nodes + 2 + i - (length c.nodes + 2))) t)
      (seen_before save (value (length c.nodes + 2 + i - (length c.nodes + 2 + length c.latchs))) t)
  unfolding z
  at_others t i = let n = length c.nodes + 2 + i in
      last_two (ltb n (length c.nodes)) (eqb n (length c.nodes)) (eqb n (length c.nodes + 1))
      (ltb n (length c.nodes + 2 + length c.latchs)) (x t n) (save t) (is_saved save t)
      (copied save (state (n - (length c.nodes + 2))) t)
      (seen_before save (value (n - (length c.nodes + 2 + length c.latchs))) t)
      (grind (arith, nat_tests)) (ne_eqb n (length c.nodes) (λ e. omega (arith, e)))
      (ne_eqb n (length c.nodes + 1) (λ e. omega (arith, e)))

  at_copy : (t i : ℕ) → i < length c.latchs → z t (copy_leaf c + i) ≡ copied save (state i) t
  at_copy t i h =
      let n = length c.nodes + 2 + i in
      let test : ltb n (length c.nodes + 2 + length c.latchs) ≡ true = grind (arith, nat_tests) in
      let place : n - (length c.nodes + 2) ≡ i = omega arith in
      at_others t i
      ∙ ap (λ b. cond b (copied save (state (n - (length c.nodes + 2))) t) (seen_before save (value
      (n - (length c.nodes + 2 + length c.latchs))) t)) test
      ∙ ap (λ j. copied save (state j) t) place

  at_seen : (t i : ℕ) → z t (seen_leaf c + i) ≡ seen_before save (value i) t
  at_seen t i =
      let n = length c.nodes + 2 + (length c.latchs + i) in
      let same : seen_leaf c + i ≡ n = omega arith in
      let test : ltb n (length c.nodes + 2 + length c.latchs) ≡ false = grind (arith, nat_tests) in
      let place : n - (length c.nodes + 2 + length c.latchs) ≡ i = omega arith in
      ap (z t) same ∙ at_others t (length c.latchs + i)
      ∙ ap (λ b. cond b (copied save (state (n - (length c.nodes + 2))) t) (seen_before save (value
      (n - (length c.nodes + 2 + length c.latchs))) t)) test
      ∙ ap (λ j. seen_before save (value j) t) place

  old_leaf : (t n : ℕ) → IsLeaf c.nodes n → z t n ≡ x t n
  old_leaf t n leaf = at_old t n (kind_at-within c.nodes n Leaf leaf)

  same : (t n : ℕ) → IsLeaf c.nodes n → x t n ≡ z t n
  same t n leaf = sym (old_leaf t n leaf)

  active_is : (t : ℕ) → is_active_in c (z t) ≡ is_active save t
  active_is t =
      ap (λ b. b || z t (save_leaf c)) (at_saved t) ∙ ap (λ b. is_saved save t || b) (at_save t)

  old_value : (t : ℕ) (e : AigEdge) → edge_value c.nodes (z t) e ≡ edge_value c.nodes (x t) e
  old_value t e = sym (value-agrees c is (x t) (z t) (same t) e)

  state_is : (t i : ℕ) (d : AigLatch) → i < length c.latchs
      → z t (get_or c.latchs i d).input ≡ state i t
  unfolding state
  state_is t i d h =
      old_leaf t (get_or c.latchs i d).input (is.latchs i d h).leaf
      ∙ ap (λ (latch : AigLatch). x t latch.input) (get_or_default c.latchs i d no_latch h)

  value_is : (t i : ℕ) (d : AigEdge) → i < length edges
      → edge_value c.nodes (z t) (get_or edges i d) ≡ value i t
  unfolding value
  value_is t i d h =
      old_value t (get_or edges i d)
      ∙ ap (λ e. edge_value c.nodes (x t) e) (get_or_default edges i d no_edge h)

  -- what the added next edges say
  start_is : (t i : ℕ) (e : AigEdge) → i < length c.latchs
      → edge_value new.nodes (z t) (get_or live.starts i e) ≡ start_value save (state i) t
  start_is t i e h =
      live.start_values i no_latch e h (z t)
      ∙ ap (λ b. cond b (z t (copy_leaf c + i)) (z t (get_or c.latchs i no_latch).input))
      (at_saved t)
      ∙ ap (λ b. cond (is_saved save t) b (z t (get_or c.latchs i no_latch).input)) (at_copy t i h)
      ∙ ap (λ b. cond (is_saved save t) (copied save (state i) t) b) (state_is t i no_latch h)

  seen_is : (t i : ℕ) (e : AigEdge) → i < length edges
      → edge_value new.nodes (z t) (get_or live.seen i e) ≡ seen save (value i) t
  seen_is t i e h =
      live.seen_values i no_edge e h (z t)
      ∙ ap (λ b. b || (is_active_in c (z t) && edge_value c.nodes (z t) (get_or edges i no_edge)))
      (at_seen t i)
      ∙ ap (λ b. seen_before save (value i) t || (b && edge_value c.nodes (z t)
      (get_or edges i no_edge))) (active_is t)
      ∙ ap (λ b. seen_before save (value i) t || (is_active save t && b)) (value_is t i no_edge h)

  -- ---- the run

  follows : (t : ℕ) → t < k
      → All (Follows new.nodes live.nodes.sound (z t) (z (t + 1)))
      (c.latchs ++ one edges c new is live ++ copies edges c new is live ++ seens edges c new is
      live)
  follows t h =
      let P = Follows new.nodes live.nodes.sound (z t) (z (t + 1)) in
      All-append P (c.latchs ++ one edges c new is live ++ copies edges c new is live)
      (seens edges c new is live)
      (All-append P (c.latchs ++ one edges c new is live) (copies edges c new is live)
      (All-append P c.latchs (one edges c new is live)
      ((runs-grown c is new.nodes live.nodes c.properties k z).1
      (run-agrees c is k x z (λ s n low leaf. same s n leaf) lasso.allowed.from_start.run) t h)
      (All-cons P (false_latch (saved_leaf c) live.active) []
      (at_saved (t + 1) ∙ ap (is_saved save) (add-one t) ∙ sym (active_is t)
      ∙ sym (live.active_value (z t)))
      (All-nil P)))
      (follow new.nodes live.nodes.sound (copy_leaf c) live.starts (z t) (z (t + 1)) (λ i e low.
      let there : i < length c.latchs = omega (arith, low, live.starts_count) in
      at_copy (t + 1) i there ∙ ap (copied save (state i)) (add-one t)
      ∙ sym (start_is t i e there))))
      (follow new.nodes live.nodes.sound (seen_leaf c) live.seen (z t) (z (t + 1)) (λ i e low.
      let there : i < length edges = omega (arith, low, live.seen_count) in
      at_seen (t + 1) i ∙ ap (seen_before save (value i)) (add-one t) ∙ sym (seen_is t i e there)))

  begins : All (Begins new.nodes live.nodes.sound (z 0))
      (c.latchs ++ one edges c new is live ++ copies edges c new is live ++ seens edges c new is
      live)
  begins =
      let P = Begins new.nodes live.nodes.sound (z 0) in
      All-append P (c.latchs ++ one edges c new is live ++ copies edges c new is live)
      (seens edges c new is live)
      (All-append P (c.latchs ++ one edges c new is live) (copies edges c new is live)
      (All-append P c.latchs (one edges c new is live)
      ((starts-grown c is new.nodes live.nodes c.properties (z 0)).1
      (start-agrees c is (x 0) (z 0) (same 0) lasso.allowed.from_start.start))
      (All-cons P (false_latch (saved_leaf c) live.active) []
      (false_is new.nodes live.nodes.sound (z 0) ∙ sym (at_saved 0))
      (All-nil P)))
      (begin new.nodes live.nodes.sound (copy_leaf c) live.starts (z 0) (λ i low.
      at_copy 0 i (omega (arith, low, live.starts_count)))))
      (begin new.nodes live.nodes.sound (seen_leaf c) live.seen (z 0) (λ i low. at_seen 0 i))

  -- ---- the bad state

  -- the save is at step l, and at no other
  active_from : (t : ℕ) → l ≤ t → is_active save t ≡ true
  unfolding save
  active_from zero h = eq-eqb 0 l (omega (arith, h))
  active_from (suc t) h = by (active_from t) (cases_lt t l)
    where
      by : (l ≤ t → is_active save t ≡ true) → (t < l) ⊎ (l ≤ t) → is_active save (suc t) ≡ true
      by before (inl low) = or_right (is_active save t) (save (suc t)) (eq-eqb (suc t) l (omega
          (arith, h, low)))
      by before (inr past) = ap (λ b. b || save (suc t)) (before past)

  only_save : (t : ℕ) → IsTrue (save t) → t ≡ l
  unfolding save
  only_save t h = eqb-true t l h

  found : (m : ℕ) × IsSince save m k
  found = since save k (active_from k lasso.order)

  since_start : IsSince save l k
  since_start = subst (λ m. IsSince save m k) (only_save found.0 found.1.saved) found.1

  bad_holds : IsTrue (edge_value new.nodes (z k) live.bad)
  unfolding state value
  bad_holds = (live.bad_value (z k)).1 (
    active_is k ∙ active_from k lasso.order,
    λ i d e h.
        old_value k (get_or c.latchs i d).next
        ∙ sym (lasso.loops i d h)
        ∙ ap (λ (latch : AigLatch). x l latch.input) (get_or_default c.latchs i d no_latch h)
        ∙ sym (since_start.start (state i))
        ∙ sym (start_is k i e h),
    λ i e h.
        seen_is k i e h ∙ (since_start.met (value i)).1 (lasso.fair i no_edge h),
  )

  pub witness_of : HasCircuitWitness new k
  witness_of = (
    z,
    record {
      is_run = λ t h. subst (All (Follows new.nodes live.nodes.sound (z t) (z (t + 1))))
          (sym live.latchs) (follows t h);
      start = subst (All (Begins new.nodes live.nodes.sound (z 0))) (sym live.latchs) begins;
      constraints = λ t h. subst (All (λ e. IsTrue (edge_value new.nodes (z t) e))) (sym
          (constraints_are edges c new is live))
          (λ j d low.
          live.nodes.values (z t) (get_or c.properties.constraints j d)
          (is.properties.constraints j d low)
          ∙ constraints-agree c is (x t) (z t) (same t) (lasso.allowed.allowed t h) j d low);
      bad = subst (λ es. IsTrue (list_any (edge_value new.nodes (z k)) es)) (sym
          (bads_are edges c new is live))
          (ap (λ b. b || false) bad_holds);
    },
  )
