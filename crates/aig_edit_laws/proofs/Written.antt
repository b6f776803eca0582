-- A file that is read again as a circuit has the circuit's witnesses; outputs as bad edges.
use Rattle.std.proofs.Common.{◌↔◌, ℕ, Bool, length, sym, subst, arith}
use Rattle.aig_circuit.specs.Circuit.{Circuit}
use Rattle.aig_format.proofs.Words.{IsReadAgain, circuit_of, without_other_names, File, Fits}
use Rattle.aig_format_laws.specs.Nodes.{HasNodeValues, values_over}
use Rattle.aig_runs.specs.CircuitQueries.{HasCircuitWitness, IsCircuitWitness}
use Rattle.aig_runs.specs.Queries.{IsWitness}
use Rattle.aig_edit_laws.specs.Shown.{HasCircuitOutput, HasOutput, HasWitness, outputs_as_bads}

-- names are nothing to witnesses
named : (c : Circuit) (k : ℕ) (x : ℕ → ℕ → Bool) → IsCircuitWitness (without_other_names c) k x
    → IsCircuitWitness c k x
named c k x w =
    record { is_run = w.is_run; start = w.start; constraints = w.constraints; bad = w.bad }

unnamed : (c : Circuit) (k : ℕ) (x : ℕ → ℕ → Bool) → IsCircuitWitness c k x
    → IsCircuitWitness (without_other_names c) k x
unnamed c k x w =
    record { is_run = w.is_run; start = w.start; constraints = w.constraints; bad = w.bad }

-- what joins the witnesses of a file's machine and of its circuit
pub record JoinsWitnesses : Type 0 where
  pub forth : (f : File) (limit k : ℕ) (run : ℕ → ℕ → Bool) → Fits f limit → IsWitness f k run
      → (x : ℕ → ℕ → Bool) × IsCircuitWitness (circuit_of f) k x × HasNodeValues f k x run
  pub back : (f : File) (limit k : ℕ) (x : ℕ → ℕ → Bool) → Fits f limit
      → IsCircuitWitness (circuit_of f) k x
      → IsWitness f k (values_over f x)

module _ (joins : JoinsWitnesses) (c : Circuit) (f : File) (k : ℕ) (again : IsReadAgain c f) where
  fits : Fits f (length c.nodes)
  fits = (again.0 (length c.nodes) (omega arith)).1

  pub written_witnesses : HasCircuitWitness c k ↔ HasWitness f k
  written_witnesses = (
    λ s. (values_over f s.0, joins.back f (length c.nodes) k s.0 fits (subst (λ d. IsCircuitWitness d k s.0) (sym again.1) (unnamed c k s.0 s.1))),
    λ s.
        let found = joins.forth f (length c.nodes) k s.0 fits s.1 in
        (found.0, named c k found.0 (subst (λ d. IsCircuitWitness d k found.0) again.1 found.1)),
  )

pub outputs_witnesses : (c : Circuit) (k : ℕ)
    → HasCircuitWitness (outputs_as_bads c) k ↔ HasCircuitOutput c k
outputs_witnesses c k = (
  λ s. let w = s.1 in (s.0, record { from_start = record { run = w.is_run; start = w.start }; allowed = w.constraints }, w.bad),
  λ s. let a = s.1 in (s.0, record { is_run = a.from_start.run; start = a.from_start.start; constraints = a.allowed; bad = s.2 }),
)

-- ---- outputs

-- names are nothing to outputs
named_output : (c : Circuit) (k : ℕ) → HasCircuitOutput (without_other_names c) k
    → HasCircuitOutput c k
named_output c k (x, a, shown) = (
  x,
  record {
    from_start =
        record { run = a.from_start.run; start = a.from_start.start };
    allowed = a.allowed;
  },
  shown,
)

unnamed_output : (c : Circuit) (k : ℕ) → HasCircuitOutput c k
    → HasCircuitOutput (without_other_names c) k
unnamed_output c k (x, a, shown) = (
  x,
  record {
    from_start =
        record { run = a.from_start.run; start = a.from_start.start };
    allowed = a.allowed;
  },
  shown,
)

pub written_outputs : ((f : File) (limit k : ℕ) → Fits f limit
    → HasCircuitOutput (circuit_of f) k ↔ HasOutput f k)
    → (c : Circuit) (f : File) (k : ℕ) → IsReadAgain c f → HasCircuitOutput c k ↔ HasOutput f k
written_outputs shown c f k again =
    let machine = shown f (length c.nodes) k (again.0 (length c.nodes) (omega arith)).1 in (
      λ s. machine.0 (subst (λ d. HasCircuitOutput d k) (sym again.1) (unnamed_output c k s)),
      λ s. named_output c k (subst (λ d. HasCircuitOutput d k) again.1 (machine.1 s)),
    )
