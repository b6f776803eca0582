-- A run of the witness circuit beside one of the model.
use Rattle.aig_witness_circuits.proofs.Words.{◌≡◌, ℕ, zero, suc, ◌<◌, ◌≤◌, Bool, false, get_or, sym, subst, ◌∙◌, arith, All, add-one, false≢true, AigLatch, Circuit, IsCircuit, IsInitial, IsRun, edge_value, IsGoodState, MeetsConstraints, IsCircuitSafeAt, Agrees, AllOwn, IsCertificate, IsMove, TakesNext, Sharing, Starts}
use Rattle.std.proofs.lemmas.List.Folds.{list_any_none}
use Rattle.aig_change.specs.Runs.{IsAllowedRun}
use Rattle.aig_witness_circuits.proofs.Putting.{puts, puts_each, puts_other}

module _ (shared : Sharing) (model witness : Circuit) (is : IsCircuit witness)
    (certificate : IsCertificate shared model witness) where
  -- the values with those of the model at the shared leaves
  abbrev with_shared : (ℕ → Bool) → (ℕ → Bool) → ℕ → Bool
  with_shared x y = puts (λ (p : ℕ × ℕ). p.1) (λ p. x p.0) shared y

  agrees : (x y : ℕ → Bool) → Agrees shared x (with_shared x y)
  agrees x y k d h =
      sym (puts_each (λ (p : ℕ × ℕ). p.1) (λ p. x p.0) y shared certificate.sharing k d h)

  -- the values that the latches have next
  abbrev next_values : (ℕ → Bool) → ℕ → Bool
  next_values y =
      puts (λ (l : AigLatch). l.input) (λ l. edge_value witness.nodes y l.next) witness.latchs
      (λ _. false)

  -- what follows y where x are the model's next values
  abbrev next : (ℕ → Bool) → (ℕ → Bool) → ℕ → Bool
  next x y = with_shared x (next_values y)

  moves : (x y : ℕ → Bool) → AllOwn shared (TakesNext witness y (next x y)) witness.latchs
  moves x y k d h own =
      let l = get_or witness.latchs k d in
      puts_other (λ (p : ℕ × ℕ). p.1) (λ p. x p.0) (next_values y) shared l.input own
      ∙ puts_each (λ (l : AigLatch). l.input) (λ l. edge_value witness.nodes y l.next) (λ _. false)
      witness.latchs is.latchs_distinct k d h

  module _ (x : ℕ → ℕ → Bool) where
    abbrev first : (z : ℕ → Bool) × All (λ p. z p.1 ≡ with_shared (x 0) (λ _. false) p.1) shared
        × AllOwn shared (Starts witness z) witness.latchs
    first = certificate.can_start (with_shared (x 0) (λ _. false))

    -- the run of the witness circuit
    abbrev track : ℕ → ℕ → Bool
    track zero = first.0
    track (suc t) = next (x (suc t)) (track t)

    track_agrees : (t : ℕ) → Agrees shared (x t) (track t)
    track_agrees zero k d h = agrees (x 0) (λ _. false) k d h ∙ sym (first.1 k d h)
    track_agrees (suc t) k d h = agrees (x (suc t)) (next_values (track t)) k d h

    module _ (k : ℕ) (allowed : IsAllowedRun model k x) where
      moved : (t : ℕ) → t < k → IsMove model (x t) (x (suc t))
      moved t low = subst (λ s. IsMove model (x t) (x s)) (add-one t) (allowed.from_start.run t low)

      start : IsInitial witness (track 0) × MeetsConstraints witness (track 0)
      start =
          certificate.reset (x 0) (track 0) (track_agrees 0) allowed.from_start.start
          (allowed.allowed 0 (omega arith)) first.2

      transition : (t : ℕ) → t < k → MeetsConstraints witness (track t)
          → IsMove witness (track t) (track (suc t)) × MeetsConstraints witness (track (suc t))
      transition t low meets =
          certificate.transition (x t) (x (suc t)) (track t) (track (suc t)) (track_agrees t)
          (track_agrees (suc t)) (moved t low) (allowed.allowed t (omega (arith, low)))
          (allowed.allowed (suc t) (omega (arith, low))) meets (moves (x (suc t)) (track t))

      meets : (t : ℕ) → t ≤ k → MeetsConstraints witness (track t)
      meets zero low = start.1
      meets (suc t) low =
          (transition t (omega (arith, low)) (meets t (omega (arith, low)))).1

      good : (t : ℕ) → t ≤ k → IsGoodState witness (track t)
      good zero low = certificate.base (track 0) start.0 start.1
      good (suc t) low =
          let before = meets t (omega (arith, low)) in
          certificate.step (track t) (track (suc t)) (good t (omega (arith, low)))
          (transition t (omega (arith, low)) before).0 before (meets (suc t) low)

      run : IsRun witness k track
      run t low =
          subst (λ s. IsMove witness (track t) (track s)) (sym (add-one t))
          (transition t low (meets t (omega (arith, low)))).0

      pub tracked : (y : ℕ → ℕ → Bool) × IsAllowedRun witness k y
          × ((t : ℕ) → t ≤ k → Agrees shared (x t) (y t) × IsGoodState witness (y t))
      tracked = (
        track,
        record { from_start = record { run = run; start = start.0 }; allowed = meets },
        λ t low. (track_agrees t, good t low),
      )

  pub safe : (k : ℕ) → IsCircuitSafeAt model k
  safe k has =
      let run = has.0 in
      let allowed : IsAllowedRun model k run = record {
        from_start = record { run = has.1.is_run; start = has.1.start };
        allowed = has.1.constraints;
      } in
      let beside = tracked run k allowed in
      let last = beside.2 k (omega arith) in
      let good =
      certificate.property (run k) (beside.0 k) last.0 (has.1.constraints k (omega arith))
      (beside.1.allowed k (omega arith)) last.1 in
      false≢true
      (sym (list_any_none (edge_value model.nodes (run k)) model.properties.bads good) ∙ has.1.bad)
