-- Part of what laws say, and of no promise of a call.
-- Fair lassos of a circuit. (AIGER 1.9, "Properties": justice and fairness. A run without end that
-- meets each edge again and again, in a finite machine: one that comes back to a state.)
use Rattle.std.specs.Prelude.{◌≡◌, ℕ, ◌≤◌, Bool, List, All}
use Rattle.aig_circuit.specs.declared.edge.AigEdge.{AigEdge}
use Rattle.aig_change.specs.Runs.{IsAllowedRun}
use Rattle.aig_circuit.specs.Circuit.{Circuit}
use Rattle.aig_circuit.specs.Tree.{edge_value}
use Rattle.aig_live.specs.Met.{IsMet}

-- A fair lasso of k + 1 steps, whose loop starts at step l: the state after step k is that of step
-- l, and each of the edges is true at one of the steps l to k.
pub record IsLasso (edges : List AigEdge) (c : Circuit) (l k : ℕ) (x : ℕ → ℕ → Bool)
    : Type 0 where
  pub allowed : IsAllowedRun c k x
  pub order : l ≤ k
  pub loops : All (λ latch. x l latch.input ≡ edge_value c.nodes (x k) latch.next) c.latchs
  pub fair : All (λ e. IsMet (λ t. edge_value c.nodes (x t) e) l k) edges

-- there is one of k + 1 steps
abbrev pub HasLasso : List AigEdge → Circuit → ℕ → Type 0
HasLasso edges c k = (l : ℕ) × (x : ℕ → ℕ → Bool) × IsLasso edges c l k x
