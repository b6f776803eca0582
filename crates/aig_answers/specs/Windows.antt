-- Serves private clauses alone.
-- A circuit with the further steps of a window.
use Rattle.std.specs.Prelude.{◌≡◌, ℕ, ◌+◌, ◌≤◌, ◌^◌, length}
use Rattle.aig_circuit.specs.Circuit.{Circuit, IsCircuit}
use Rattle.aig_circuit.specs.View.{lists_circuit}
use Rattle.aig_runs.specs.WindowClauses.{count_free, watched, window_clauses}
use Rattle.aig_runs.specs.declared.window.Window.{Window}
use Rattle.aig_unroll.specs.Unroll.{UnrollsTo}
use Rattle.aig_answers.specs.declared.windows.SteppedWindow.{SteppedWindow}

-- the steps of what the form watches, with room for the free variables, and the window clauses
pub record IsSteppedWindow (form : Window) (c : Circuit) (k : ℕ) (w : SteppedWindow) : Type 0 where
  pub circuit : IsCircuit (lists_circuit w.unrolled)
  pub few : length (lists_circuit w.unrolled).nodes + w.free ≤ 2 ^ 31
  pub free : w.free ≡ count_free form (watched form c) k
  pub steps : UnrollsTo (watched form c) (k + 1) (lists_circuit w.unrolled)
  pub exact : w.extra ≡ window_clauses form (length (lists_circuit w.unrolled).nodes)
      (watched form c) k (lists_circuit w.unrolled)
