-- Part of what is promised.
-- A circuit beside itself with further steps. (Bounded model checking: time frames.)
use Rattle.std.specs.Prelude.{◌≡◌, ◌≤◌, ℕ, length, Option, Some, None}
use Rattle.aig_circuit.specs.Circuit.{Circuit, IsCircuit}
use Rattle.aig_circuit.specs.View.{lists_circuit}
use Rattle.aig_circuit.specs.declared.view.CircuitLists.{CircuitLists}
use Rattle.aig_format.specs.Circuit.{circuit_of}
use Rattle.aig_format.specs.File.{File}
use Rattle.aig_format.specs.Fits.{Fits}
use Rattle.aig_unroll.specs.Unroll.{UnrollsTo}

-- a circuit, how many further steps it has, and the circuit with them
pub record UnrolledCircuit : Type 0 where
  pub circuit : Circuit
  pub steps : ℕ
  pub unrolled : Circuit

-- both are circuits, and the one is the other with so many further steps
pub record IsUnrolled (u : UnrolledCircuit) : Type 0 where
  pub circuit : IsCircuit u.circuit
  pub unrolled : IsCircuit u.unrolled
  pub steps : UnrollsTo u.circuit u.steps u.unrolled

-- they are of these lists, of which the further ones are there only with further steps
abbrev pub unrolled_lists : CircuitLists → ℕ → Option CircuitLists → UnrolledCircuit
unrolled_lists lists k None =
    record { circuit = lists_circuit lists; steps = k; unrolled = lists_circuit lists }
unrolled_lists lists k (Some further) =
    record { circuit = lists_circuit lists; steps = k; unrolled = lists_circuit further }

-- it is this circuit, with k further steps
pub record Unrolls (c : Circuit) (k : ℕ) (u : UnrolledCircuit) : Type 0 where
  pub circuit : u.circuit ≡ c
  pub steps : u.steps ≡ k
  pub is : IsUnrolled u

-- the file fits, and it is the file's circuit with k further steps, within the limit
pub record IsUnrolledOf (k limit : ℕ) (f : File) (u : UnrolledCircuit) : Type 0 where
  pub fits : Fits f limit
  pub unrolls : Unrolls (circuit_of f) k u
  pub few : length u.unrolled.nodes ≤ limit
