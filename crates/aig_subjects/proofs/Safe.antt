-- What the safety of a subject's circuit says of the files.
use Rattle.aig_base.proofs.Words.{◌↔◌, ℕ, ◌≤◌, ◌^◌, List, [], ◌∷◌, subst, sym}
use Rattle.std.specs.FinMap.{FinMap}
use Rattle.std.specs.Ordering.{nat_cmp}
use Rattle.aig_circuit.specs.Circuit.{Circuit}
use Rattle.aig_edit_laws.specs.Fair.{HasFairLasso, HasFairRun}
use Rattle.aig_edit_laws.specs.declared.fairness.Fairness.{Fairness}
use Rattle.aig_edit_laws.specs.Shown.{HasWitness}
use Rattle.aig_edits.specs.Joints.{IsJointOf}
use Rattle.aig_edits.specs.declared.pairing.Pairing.TheVariants.{Miter}
use Rattle.aig_format.proofs.Words.{File, Fits, IsReadAgain, circuit_of, file_of}
use Rattle.aig_format.specs.declared.FileKind.TheVariants.{Text}
use Rattle.aig_join.specs.Certificate.{certified}
use Rattle.aig_join.specs.Files.{HasLinesOf}
use Rattle.aig_join.specs.declared.comparison.Comparison.{Comparison}
use Rattle.aig_runs.specs.CircuitQueries.{HasCircuitWitness}
use Rattle.aig_runs.specs.Safety.{IsCircuitSafeAt, IsSafeAt}
use Rattle.aig_subjects.specs.Reads.{AreAccepted}
use Rattle.aig_subjects.specs.FileSubjects.{FileShowsAlways, FileShowsAt, IsFileSubject}
use Rattle.aig_subjects.specs.Shown.{HasNoCertificate, PairShowsAt, ShowsAlways, ShowsAt}
use Rattle.aig_subjects.specs.Subjects.{IsBeside, IsSubject}
use Rattle.aig_subjects.specs.declared.subject.FileSubject.{FileSubject}
use Rattle.aig_subjects.specs.declared.subject.FileSubject.TheVariants.{Live, Outputs, Own, Possible, Property, Rounds}
use Rattle.aig_subjects.specs.declared.subject.Subject.{Subject}
use Rattle.aig_subjects.specs.declared.subject.Subject.TheVariants as subjects
use Rattle.aig_subjects.proofs.OfFiles.{HasFile, is_whole, lines, miter_file, own_file, whole}

-- names are nothing to safety
module _ (c : Circuit) (names : FinMap nat_cmp (List ℕ)) (k : ℕ) where
  abbrev named : Circuit
  named = record c { names = names }

  safe_named : IsCircuitSafeAt c k → IsCircuitSafeAt named k
  safe_named safe (x, w) = safe (
    x,
    record { is_run = w.is_run; start = w.start; constraints = w.constraints; bad = w.bad },
  )

  safe_unnamed : IsCircuitSafeAt named k → IsCircuitSafeAt c k
  safe_unnamed safe (x, w) = safe (
    x,
    record { is_run = w.is_run; start = w.start; constraints = w.constraints; bad = w.bad },
  )

-- the law of circuits of files
abbrev pub AreMachines : Type 0
AreMachines = (f : File) (limit k : ℕ) → Fits f limit → IsCircuitSafeAt (circuit_of f) k ↔ IsSafeAt f k

-- a circuit is safe exactly where the machine of its file is
pub machine_is : AreMachines → (m : Circuit) (of : HasFile m) (k : ℕ)
    → IsCircuitSafeAt m k ↔ IsSafeAt of.file k
machine_is machines m of k =
    let c = circuit_of of.file in
    let same = machines of.file of.bound k of.accepts.1 in (
      λ safe. same.0
          (safe_unnamed c m.names k (subst (λ (d : Circuit). IsCircuitSafeAt d k) of.of safe)),
      λ safe. subst (λ (d : Circuit). IsCircuitSafeAt d k) (sym of.of)
          (safe_named c m.names k (same.1 safe)),
    )

-- what is known of files, of lassos, and of witness files
pub record Known : Type 0 where
  pub machines : AreMachines
  pub written : (c : Circuit) (f : File) (k : ℕ) → IsReadAgain c f
      → HasCircuitWitness c k ↔ HasWitness f k
  pub lassos : (f : File) (fairness : Fairness)
      → HasFairRun f fairness ↔ ((k : ℕ) × HasFairLasso f fairness k)
  pub certify : (f g : File) (limit bound k : ℕ) → Fits f limit → Fits g bound → HasLinesOf g f
      → IsCircuitSafeAt (certified (circuit_of f) (circuit_of g)) k → IsSafeAt f k

module _ (known : Known) where
  -- a circuit beside a certificate is safe only where it is alone
  beside_safe : (own : Circuit) (of : HasFile own) (g : File) (m : Circuit) (limit : ℕ)
      → Fits g limit → IsBeside own g m → (k : ℕ) → IsCircuitSafeAt m k → IsCircuitSafeAt own k
  beside_safe own of g m limit fits beside k safe =
      (machine_is known.machines own of k).1
      (known.certify of.file g of.bound limit k of.accepts.1 fits (lines own of g m beside)
      (safe_unnamed (whole own of g m beside) m.names k
      (subst (λ (c : Circuit). IsCircuitSafeAt c k) (is_whole own of g m beside) safe)))

  -- ---- of one file

  -- a made circuit is safe exactly where what its text's bad states stand for isn't so
  made_shows : (m : Circuit) (P : Type 0) (k : ℕ) → IsReadAgain m (file_of Text m)
      → HasWitness (file_of Text m) k ↔ P → IsCircuitSafeAt m k ↔ (¬ P)
  made_shows m P k again shows =
      let same = known.written m (file_of Text m) k again in (
        λ safe is. safe (same.1 (shows.1 is)),
        λ none w. none (shows.0 (same.0 w)),
      )

  module _ (f : File) (limit : ℕ) (fits : Fits f limit) (m : Circuit) where
    pub file_shows : (own : FileSubject) → IsFileSubject own f m → (k : ℕ)
        → IsCircuitSafeAt m k ↔ FileShowsAt own f k
    file_shows Own is k =
        subst (λ (c : Circuit). IsCircuitSafeAt c k ↔ IsSafeAt f k) (sym is)
        (known.machines f limit k fits)
    file_shows (Live fairness) is k = made_shows m _ k is.again (is.shows k)
    file_shows (Rounds fairness rounds) is k = made_shows m _ k is.again (is.shows k)
    file_shows (Property number) is k = made_shows m _ k is.again (is.shows k)
    file_shows Possible is k = made_shows m _ k is.again (is.shows k)
    file_shows Outputs is k = made_shows m _ k is.again (is.shows k)

    pub file_always : (own : FileSubject) → IsFileSubject own f m
        → ((k : ℕ) → IsCircuitSafeAt m k) → FileShowsAlways own f
    file_always (Live fairness) is safe = λ run.
        let lasso = (known.lassos f fairness).0 run in
        (file_shows (Live fairness) is lasso.0).0 (safe lasso.0) lasso.1
    file_always (Rounds fairness rounds) is safe =
        is.none (λ k w. safe k ((known.written m (file_of Text m) k is.again).1 w))
    file_always own is safe = λ k. (file_shows own is k).0 (safe k)

  -- ---- of two

  pub pair_shows : (comparison : Comparison) (f g : File) (m : Circuit)
      → IsJointOf (Miter comparison) f g m → (k : ℕ)
      → IsCircuitSafeAt m k ↔ PairShowsAt comparison f g k
  pair_shows comparison f g m joint k =
      let same = known.written m (file_of Text m) k joint.again in (
        λ safe. (joint.fit, (joint.shows k).0 (λ w. safe (same.1 w))),
        λ equal w. (joint.shows k).1 equal.1 (same.0 w),
      )

  -- ---- of any subject

  module _ (limit : ℕ) (low : limit ≤ 2 ^ 31) where
    pub step_shows : (subject : Subject) (files : List File) (k : ℕ) (m : Circuit)
        → AreAccepted limit files → IsSubject subject files m → IsCircuitSafeAt m k
        → ShowsAt subject files k
    step_shows (subjects.File own) (f ∷ []) k m are is safe =
        (file_shows f limit are.0.1.1 m own is k).0 safe
    step_shows (subjects.Miter comparison) (f ∷ g ∷ []) k m are is safe =
        (pair_shows comparison f g m is k).0 safe
    step_shows (subjects.Certified own) (f ∷ g ∷ []) k m are (made, is, beside) safe =
        let of = own_file limit low own f are.0.0 made are.0.1 is in
        (file_shows f limit are.0.1.1 made own is k).0
        (beside_safe made of g m limit are.1.0.1.1 beside k safe)
    step_shows (subjects.MiterCertified comparison) (f ∷ g ∷ h ∷ []) k m are (miter, is, beside)
        safe =
        let of = miter_file comparison f g miter is in
        (pair_shows comparison f g miter is k).0
        (beside_safe miter of h m limit are.1.1.0.1.1 beside k safe)
    step_shows subject files k m are is safe = absurd is

    pub step_exact : (subject : Subject) (files : List File) (k : ℕ) (m : Circuit)
        → AreAccepted limit files → IsSubject subject files m → HasNoCertificate subject
        → ShowsAt subject files k → IsCircuitSafeAt m k
    step_exact (subjects.File own) (f ∷ []) k m are is alone shows =
        (file_shows f limit are.0.1.1 m own is k).1 shows
    step_exact (subjects.Miter comparison) (f ∷ g ∷ []) k m are is alone shows =
        (pair_shows comparison f g m is k).1 shows
    step_exact (subjects.Certified own) files k m are is alone shows = absurd alone
    step_exact (subjects.MiterCertified comparison) files k m are is alone shows = absurd alone
    step_exact subject files k m are is alone shows = absurd is

    pub always_shows : (subject : Subject) (files : List File) (m : Circuit)
        → AreAccepted limit files → IsSubject subject files m
        → ((k : ℕ) → IsCircuitSafeAt m k) → ShowsAlways subject files
    always_shows (subjects.File own) (f ∷ []) m are is safe =
        file_always f limit are.0.1.1 m own is safe
    always_shows (subjects.Certified own) (f ∷ g ∷ []) m are (made, is, beside) safe =
        let of = own_file limit low own f are.0.0 made are.0.1 is in
        file_always f limit are.0.1.1 made own is
        (λ k. beside_safe made of g m limit are.1.0.1.1 beside k (safe k))
    always_shows (subjects.Miter comparison) files m are is safe = λ k.
        step_shows (subjects.Miter comparison) files k m are is (safe k)
    always_shows (subjects.MiterCertified comparison) files m are is safe = λ k.
        step_shows (subjects.MiterCertified comparison) files k m are is (safe k)
    always_shows subject files m are is safe = absurd is
