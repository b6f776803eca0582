-- Part of what is promised.
-- Files whose resets may be functions, and their circuits. (Certificates of the hardware model
-- checking competition; AIGER 1.9, "Reset logic", has 0, 1 and the latch's own literal alone.)
use Rattle.std.specs.Prelude.{◌≡◌, ℕ, ◌/◌, ◌==◌, Bool, if◌then◌else◌, IfSome, IsTrue, List, map, Option, Some, None, unwrap_or}
use Rattle.std.specs.List.{list_all}
use Rattle.aig_circuit.specs.declared.edge.AigEdge.{AigEdge}
use Rattle.aig_circuit.specs.declared.node.AigLatch.{AigLatch}
use Rattle.aig_circuit.specs.declared.view.CircuitLists.{CircuitLists}
use Rattle.aig_circuit.specs.Circuit.{Circuit}
use Rattle.aig_circuit.specs.View.{lists_circuit}
use Rattle.aig_format.specs.Circuit.{circuit_of, edge_of, latch_of}
use Rattle.aig_format.specs.File.{File, LatchLine}
use Rattle.aig_format.specs.Fits as fits
use Rattle.aig_format.specs.Fits.{Fits}
use Rattle.aig_format.specs.Spells.{Spells}
use Rattle.aig_format.specs.Variables.{is_known}
use Rattle.aig_reader.specs.declared.error.ReadError.{ReadError}
use Rattle.aig_reader.specs.declared.error.ReadError.TheVariants as errors

-- ---- files

-- the reset of a latch, which is 0 where none is written
abbrev pub reset_in : LatchLine → ℕ
reset_in l = unwrap_or l.reset 0

-- the line with no reset written
abbrev pub without_reset : LatchLine → LatchLine
without_reset l = record l { reset = None }

-- the file with none
abbrev pub without_resets : File → File
without_resets f = record f { latches = map without_reset f.latches }

-- each reset is a literal of a variable that is 0 or defined
abbrev pub knows_resets : File → Bool
knows_resets f = list_all (λ l. is_known f (reset_in l / 2)) f.latches

-- the file fits without its resets, and each of these is one
pub record FitsWithResets (f : File) (limit : ℕ) : Type 0 where
  pub rest : Fits (without_resets f) limit
  pub resets : IsTrue (knows_resets f)

-- the bytes are accepted, and are this file
abbrev pub AcceptsWithResets : ℕ → List ℕ → File → Type 0
AcceptsWithResets limit bytes f = Spells f bytes × FitsWithResets f limit

-- ---- circuits

-- the initial edge of a latch: its reset's, and none where that is its own literal
abbrev pub reset_edge : File → LatchLine → Option AigEdge
reset_edge f l = if reset_in l == l.literal then None else Some (edge_of f (reset_in l))

-- the latch of a line
abbrev pub latch_with_reset : File → LatchLine → AigLatch
latch_with_reset f l = record (latch_of f l) { init = reset_edge f l }

-- the circuit of a file with such resets
abbrev pub circuit_with_resets : File → Circuit
circuit_with_resets f =
    record (circuit_of f) { latchs = map (latch_with_reset f) f.latches }

-- the lists are those of that circuit
abbrev pub AreListsWithResets : File → CircuitLists → Type 0
AreListsWithResets f lists = lists_circuit lists ≡ circuit_with_resets f

-- ---- errors

-- what an error of a call says of the bytes that are there before it, where files are taken of
-- which this holds, and of a failed read
abbrev pub SaysWhy : (List ℕ → File → Type 0) → ℕ → Option (List ℕ) → Bool → ReadError → Type 0
SaysWhy Holds limit known failed errors.Memory = Unit {0}
SaysWhy Holds limit known failed errors.Stream = IsTrue failed
SaysWhy Holds limit known failed errors.Open = ⊥
SaysWhy Holds limit known failed errors.TooMany =
    IfSome known (λ bytes. fits.TooMany bytes limit)
SaysWhy Holds limit known failed e =
    IfSome known (λ bytes. (¬ fits.TooMany bytes limit) × ((f : File) → ¬ Holds bytes f))
