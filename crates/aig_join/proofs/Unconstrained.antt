-- The circuit without constraints.
use Rattle.aig_base.proofs.Words.{ℕ, Bool, [], IsTrue, All-nil}
use Rattle.aig_circuit.proofs.Words.{Circuit, IsCircuit, IsInRange, edge_value}
use Rattle.aig_circuit.proofs.Building.{Grows-itself}
use Rattle.aig_change.specs.Runs.{IsAllowedRun, IsRunFromInitial}
use Rattle.aig_join.specs.Constraints.{unconstrained}
use Rattle.aig_join.specs.Miter.{HaveSameCounts}
use Rattle.aig_join.proofs.Grown.{IsCircuit-over_gates}

-- it is a circuit
pub IsCircuit-unconstrained : (c : Circuit) → IsCircuit c → IsCircuit (unconstrained c)
IsCircuit-unconstrained c is = IsCircuit-over_gates c is c.nodes (Grows-itself c.nodes is.nodes)
    (record c.properties { constraints = [] }) (record {
      outputs = is.properties.outputs;
      bads = is.properties.bads;
      constraints = All-nil (IsInRange c.nodes);
      justice = is.properties.justice;
      fairness = is.properties.fairness;
    })

-- it has as many inputs, outputs and bad edges
pub HaveSameCounts-unconstrained : (a b : Circuit) → HaveSameCounts a b
    → HaveSameCounts a (unconstrained b)
HaveSameCounts-unconstrained a b counts =
    record { inputs = counts.inputs; outputs = counts.outputs; bads = counts.bads }

module _ (c : Circuit) (k : ℕ) (x : ℕ → ℕ → Bool) where
  -- its allowed runs are the runs of the circuit from initial states
  pub unconstrained-forth : IsRunFromInitial c k x → IsAllowedRun (unconstrained c) k x
  unconstrained-forth from = record {
    from_start = record { run = from.run; start = from.start };
    allowed = λ t h. All-nil (λ e. IsTrue (edge_value c.nodes (x t) e));
  }

  pub unconstrained-back : IsAllowedRun (unconstrained c) k x → IsRunFromInitial c k x
  unconstrained-back allowed =
      record { run = allowed.from_start.run; start = allowed.from_start.start }
