-- Part of what is promised.
-- Miters of machines whose registers with open start are matched and start alike. (Equivalence
-- checking; AIGER 1.9, "Reset logic".)
use Rattle.std.specs.Prelude.{ℕ, ◌≤◌, false, Bool, Option, Some, None, ◌++◌, length, map, take, drop, zip}
use Rattle.aig_change.specs.Changes.{ConstrainsInits}
use Rattle.aig_change.specs.Runs.{IsAllowedRun}
use Rattle.aig_circuit.specs.Circuit.{Circuit}
use Rattle.aig_circuit.specs.Edge.{edge_to}
use Rattle.aig_circuit.specs.declared.node.AigLatch.{AigLatch}
use Rattle.aig_format.specs.File.{File}
use Rattle.aig_join.specs.Files.{AreEqualMachinesAt, FilesCompareEqual, HaveSameFileInputs, IsAllowedMachineRun}
use Rattle.aig_join.specs.Miter.{CompareEqual, HaveSameInputs, IsMiter}
use Rattle.aig_join.specs.Starts.{AreAlike, circuit_registers, file_registers, partners}
use Rattle.aig_join.specs.declared.starts.Matching.{Matching}
use Rattle.aig_join.specs.declared.starts.Starts.{Starts}
use Rattle.aig_join.specs.declared.starts.Starts.TheVariants.{Alike, Apart}

-- ---- the circuit

-- the latch with an initial edge to this leaf, if there is one
abbrev pub started : Option ℕ → AigLatch → AigLatch
started (Some n) latch = record latch { init = Some (edge_to n false) }
started None latch = latch

-- the miter m of a and b with each latch of b that has a partner in a starting with its value
abbrev pub started_miter : Matching → Circuit → Circuit → Circuit → Circuit
started_miter matching a b m =
    let own = length a.latchs in
    let places = partners matching (circuit_registers a) (circuit_registers b) in
    record m {
      latchs =
          take own m.latchs
          ++ map (λ pair. started pair.0 pair.1) (zip places (drop own m.latchs));
    }

-- The miter of a and b, in which constraints of the first step say that the latches of b that have
-- partners in a start with their values.
pub record IsAlikeMiter (matching : Matching) (a b new : Circuit) : Type 0 where
  pub plain : Circuit
  pub miter : IsMiter a b plain
  pub constrains : ConstrainsInits (started_miter matching a b plain) new

-- the miter of a and b, with registers that start so
abbrev pub IsMiterFrom : Starts → Circuit → Circuit → Circuit → Type 0
IsMiterFrom Apart a b new = IsMiter a b new
IsMiterFrom (Alike matching) a b new = IsAlikeMiter matching a b new

-- ---- what it says

-- on all runs of both from initial states whose registers are alike, that have the same inputs and
-- meet the constraints at each step up to k, outputs and bad edges are the same at step k
abbrev pub AreEqualAlikeAt : Matching → Circuit → Circuit → ℕ → Type 0
AreEqualAlikeAt matching a b k =
    (x y : ℕ → ℕ → Bool) → IsAllowedRun a k x → IsAllowedRun b k y
    → AreAlike matching (circuit_registers a) (circuit_registers b) (x 0) (y 0)
    → ((t : ℕ) → t ≤ k → HaveSameInputs a b (x t) (y t)) → CompareEqual a b (x k) (y k)

-- the same of the machines of files, with registers that start so
abbrev pub AreEqualMachinesFrom : Starts → File → File → ℕ → Type 0
AreEqualMachinesFrom Apart f g k = AreEqualMachinesAt f g k
AreEqualMachinesFrom (Alike matching) f g k =
    (run other : ℕ → ℕ → Bool) → IsAllowedMachineRun f k run → IsAllowedMachineRun g k other
    → AreAlike matching (file_registers f) (file_registers g) (run 0) (other 0)
    → ((t : ℕ) → t ≤ k → HaveSameFileInputs f g (run t) (other t))
    → FilesCompareEqual f g (run k) (other k)
