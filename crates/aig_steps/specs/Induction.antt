-- Part of what is promised.
-- Safety of a circuit at every step, by induction over windows of steps. (Temporal induction,
-- k-induction: Sheeran, Singh and Stålmarck, 2000.)
use Rattle.std.specs.Prelude.{ℕ, ◌+◌, ◌≤◌, Bool, IsTrue}
use Rattle.std.specs.List.{list_any}
use Rattle.aig_circuit.specs.Circuit.{Circuit}
use Rattle.aig_circuit.specs.Runs.{IsRun}
use Rattle.aig_circuit.specs.Tree.{edge_value}
use Rattle.aig_steps.specs.Stepwise.{IsConstrainedTo}

-- some bad edge holds at step t of the run
abbrev pub IsBadAt : Circuit → (ℕ → ℕ → Bool) → ℕ → Type 0
IsBadAt c run t = IsTrue (list_any (edge_value c.nodes (run t)) c.properties.bads)

-- a run of k + 2 steps, from any state, with every constraint at each step, and no bad edge at the
-- steps 0 to k
pub record IsCircuitWindow (c : Circuit) (k : ℕ) (run : ℕ → ℕ → Bool) : Type 0 where
  pub is_run : IsRun c (k + 1) run
  pub constrained : IsConstrainedTo c (k + 1) run
  pub good : (t : ℕ) → t ≤ k → ¬ IsBadAt c run t

-- no window has a bad edge at its last step
abbrev pub IsCircuitInductive : Circuit → ℕ → Type 0
IsCircuitInductive c k = (run : ℕ → ℕ → Bool) → IsCircuitWindow c k run → ¬ IsBadAt c run (k + 1)
