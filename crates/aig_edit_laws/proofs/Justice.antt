-- Justice properties of files.
use Rattle.aig_base.proofs.Words.{◌≡◌, ◌↔◌, ℕ, List, ◌++◌, map, sym, ap, subst, ◌∙◌, same_Some}
use Rattle.aig_circuit.proofs.Words.{Circuit}
use Rattle.aig_format.proofs.Words.{circuit_of, edge_of, File, Fits}
use Rattle.aig_format.proofs.Circuits.{IsCircuit-of_file}
use Rattle.aig_format_laws.specs.Nodes.{values_over}
use Rattle.aig_format_laws.proofs.Joining.{leaves_of}
use Rattle.aig_live.specs.Turning.{turn}
use Rattle.aig_live.specs.Live.{IsLiveOf}
use Rattle.aig_runs.specs.CircuitQueries.{HasCircuitWitness}
use Rattle.aig_live.proofs.Back.{witness_of}
use Rattle.aig_live.proofs.Forth.{lasso_of}
use Rattle.aig_edit_laws.specs.Fair.{AreAskedBy, HasFairLasso, HasFairRun, IsFairLasso}
use Rattle.aig_edit_laws.specs.declared.fairness.Fairness.{Fairness}
use Rattle.aig_edit_laws.proofs.Coming.{IsFairLasso-found}
use Rattle.aig_edit_laws.proofs.Files.{asked_known, lasso_back, lasso_forth}
use Rattle.aig_edit_laws.proofs.Going.{IsFairRun-around}

-- one list of literals is asked for
pub asked_same : (f : File) (fairness : Fairness) (a b : List ℕ) → AreAskedBy f fairness a
    → AreAskedBy f fairness b → a ≡ b
asked_same f fairness a b first second =
    let own : first.0 ≡ second.0 = same_Some first.0 second.0 (sym first.1 ∙ second.1) in
    first.2 ∙ ap (λ es. es ++ f.properties.fairness) own ∙ sym second.2

pub runs_are_lassos : (f : File) (fairness : Fairness)
    → HasFairRun f fairness ↔ ((k : ℕ) × HasFairLasso f fairness k)
runs_are_lassos f fairness = (
  λ has. let found = IsFairLasso-found f has.0 has.2.0 has.2.1 in
      (found.1, (has.0, has.1, (found.0, has.2.0, found.2))),
  λ has. (
    has.1.0,
    has.1.1,
    (
      (λ t. has.1.2.1
          (turn has.1.2.0 has.0 t)),
      IsFairRun-around f has.1.0 has.1.2.0 has.0 has.1.2.1 has.1.2.2,
    ),
  ),
)

pub bads_are_lassos : (f : File) (limit : ℕ) (fairness : Fairness) (k : ℕ) (literals : List ℕ)
    (new : Circuit) → Fits f limit
    → AreAskedBy f fairness literals → IsLiveOf (map (edge_of f) literals) (circuit_of f) new
    → HasCircuitWitness new k ↔ HasFairLasso f fairness k
bads_are_lassos f limit fairness k literals new fits asked live =
    let known = asked_known f limit fairness literals fits asked in
    let is = IsCircuit-of_file f limit fits in
    let edges = map (edge_of f) literals in (
      λ bad.
          let found = lasso_of edges (circuit_of f) new is live k bad.0 bad.1 in (
            literals,
            asked,
            (
              found.0,
              values_over f bad.0,
              lasso_back f limit found.0 k literals
                  bad.0 fits known found.1,
            ),
          ),
      λ has.
          let lasso = subst (λ es. IsFairLasso f es has.2.0 k has.2.1)
          (asked_same f fairness has.0 literals has.1 asked) has.2.2 in
          witness_of edges (circuit_of f) new is live has.2.0 k (leaves_of f has.2.1)
          (lasso_forth f limit has.2.0 k literals has.2.1 fits known lasso),
    )

pub none_are : (f : File) (limit : ℕ) (fairness : Fairness) (literals : List ℕ) (new : Circuit)
    → Fits f limit → AreAskedBy f fairness literals
    → IsLiveOf (map (edge_of f) literals) (circuit_of f) new
    → ((k : ℕ) → ¬ HasCircuitWitness new k) → ¬ HasFairRun f fairness
none_are f limit fairness literals new fits asked live safe has =
    let lasso = (runs_are_lassos f fairness).0 has in
    safe lasso.0 ((bads_are_lassos f limit fairness lasso.0 literals new fits asked live).1 lasso.1)
