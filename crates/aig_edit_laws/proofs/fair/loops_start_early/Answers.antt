use Rattle.std.proofs.Common.{ℕ, ◌≤◌, Bool, List, [], ◌∷◌, arith}
use Rattle.aig_base.proofs.Words.{AllByRecursion}
use Rattle.aig_format.specs.Machine.{value_of_literal}
use Rattle.aig_live.specs.Met.{IsMet}
use Rattle.aig_edit_laws.proofs.fair.loops_start_early.Goals as goal

met_earlier : (run : ℕ → ℕ → Bool) (m l k : ℕ) → m ≤ l → (es : List ℕ)
    → AllByRecursion (λ e. IsMet (λ t. value_of_literal (run t) e) l k) es
    → AllByRecursion (λ e. IsMet (λ t. value_of_literal (run t) e) m k) es
met_earlier run m l k h [] met = tt
met_earlier run m l k h (e ∷ es) met = (
  (
    met.0.0,
    omega
        (arith, h, met.0.1),
    met.0.2,
    met.0.3,
  ),
  met_earlier run m l k h es met.1,
)

pub returns : goal.returns
returns c = λ f literals m l k run h loops lasso. record {
  allowed = lasso.allowed;
  order = omega (arith, h, lasso.order);
  loops = loops;
  fair = met_earlier run m l k h literals lasso.fair;
}
