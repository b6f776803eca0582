-- A lasso goes on without end.
use Rattle.aig_base.proofs.Words.{◌≡◌, ◌⊎◌, ℕ, suc, ◌+◌, ◌<◌, ◌≤◌, Bool, IsTrue, List, [], ◌∷◌, sym, ap, subst, ◌∙◌, inl, inr, arith, add-one, AllByRecursion, cases_eq}
use Rattle.aig_format.specs.File.{File}
use Rattle.aig_format.specs.Machine.{Moves, value_of_literal}
use Rattle.aig_live.specs.Met.{IsMet}
use Rattle.aig_live.specs.Turning.{turn}
use Rattle.aig_live.proofs.Turning.{turn_again, turn_last, turn_next, turn_within}
use Rattle.aig_edit_laws.specs.Fair.{IsFairLasso, IsFairRun, IsMetAgain}
use Rattle.aig_edit_laws.specs.Shown.{IsAllowedMachineRun}

module _ (f : File) (l k : ℕ) (run : ℕ → ℕ → Bool) (order : l ≤ k) where
  -- the lasso's steps without end
  abbrev pub around : ℕ → ℕ → Bool
  around t = run (turn l k t)

  again : (literals : List ℕ)
      → AllByRecursion (λ e. IsMet (λ t. value_of_literal (run t) e) l k) literals
      → AllByRecursion (IsMetAgain (λ t. run (turn l k t))) literals
  again [] h = tt
  again (e ∷ es) h = (
    λ t.
        let u = turn_again l k order t h.0.0 h.0.1 h.0.2 in
        (u.0, u.1, subst (λ s. IsTrue (value_of_literal (run s) e)) (sym u.2) h.0.3),
    again es h.1,
  )

  moves_around : IsAllowedMachineRun f k run → Moves f (run k) (run l) → (t : ℕ)
      → Moves f (run (turn l k t)) (run (turn l k (t + 1)))
  moves_around allowed loops t = by (cases_eq (turn l k t) k)
    where
      next : turn l k (suc t) ≡ turn l k (t + 1)
      next = ap (turn l k) (sym (add-one t))

      by : (turn l k t ≡ k) ⊎ (turn l k t ≡ k → ⊥)
          → Moves f (run (turn l k t)) (run (turn l k (t + 1)))
      by (inl last) =
          subst (λ s. Moves f (run s) (run (turn l k (t + 1)))) (sym last)
          (subst (λ s. Moves f (run k) (run s)) (sym (turn_last l k t last) ∙ next) loops)
      by (inr more) =
          let within : turn l k t < k = omega (arith, turn_within l k order t, more) in
          subst (λ s. Moves f (run (turn l k t)) (run s)) (add-one (turn l k t)
          ∙ sym (turn_next l k t more) ∙ next)
          (allowed.is_run.moves (turn l k t) within)

pub IsFairRun-around : (f : File) (literals : List ℕ) (l k : ℕ) (run : ℕ → ℕ → Bool)
    → IsFairLasso f literals l k run → IsFairRun f literals (λ t. run (turn l k t))
IsFairRun-around f literals l k run lasso = record {
  allowed = λ last. record {
    is_run = record {
      steps = λ t h. lasso.allowed.is_run.steps (turn l k t) (turn_within l k lasso.order t);
      moves = λ t h. moves_around f l k run lasso.order lasso.allowed lasso.loops t;
    };
    start = lasso.allowed.start;
    allowed = λ t h. lasso.allowed.allowed (turn l k t) (turn_within l k lasso.order t);
  };
  fair = again f l k run lasso.order literals lasso.fair;
}
