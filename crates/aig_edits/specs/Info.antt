-- Part of what is promised.
-- The counts of one file, printed. (AIGER format 20071012, "Header"; AIGER 1.9, "Properties".)
use Rattle.std.specs.Prelude.{◌≡◌, ℕ, zero, suc, ◌≤◌, ◌++◌, Bool, false, List, [], ◌∷◌, length, codes, count_by, decimal, Option, Result, Ok, Err}
use Rattle.std.specs.Io.KnownBytes.{Appends}
use Rattle.aig_circuit.specs.Circuit.{Circuit}
use Rattle.aig_circuit.specs.Node.{is_gate}
use Rattle.aig_circuit.specs.Reach.{IsFanin}
use Rattle.aig_circuit.specs.declared.node.AigNode.{AigNode}
use Rattle.aig_format.specs.Circuit.{circuit_of}
use Rattle.aig_format.specs.File.{File}
use Rattle.aig_output.specs.Sinks.{Stops}
use Rattle.aig_edits.specs.declared.edit_error.EditError.{EditError}
use Rattle.aig_edits.specs.declared.edit_error.EditError.TheVariants as errors
use Rattle.aig_edits.specs.declared.info.Counts.{Counts}

-- a path of so many gates ends at node n, each an operand of the next
abbrev pub HasPath : List AigNode → ℕ → ℕ → Type 0
HasPath nodes zero n = Unit {0}
HasPath nodes (suc k) n = (m : ℕ) × IsFanin nodes n m × HasPath nodes k m

-- the greatest number of gates on a path
pub record IsDepth (nodes : List AigNode) (levels : ℕ) : Type 0 where
  pub path : (n : ℕ) × HasPath nodes levels n
  pub most : (n k : ℕ) → HasPath nodes k n → k ≤ levels

-- a word, a count and a line feed
abbrev pub count_line : List ℕ → ℕ → List ℕ
count_line word count = word ++ (decimal count ++ 10 ∷ [])

-- the counts, a line each
abbrev pub info_text : Counts → List ℕ
info_text counts =
    count_line (codes "inputs ") counts.inputs
    ++ count_line (codes "latches ") counts.latches
    ++ count_line (codes "outputs ") counts.outputs
    ++ count_line (codes "gates ") counts.gates
    ++ count_line (codes "bads ") counts.bads
    ++ count_line (codes "constraints ") counts.constraints
    ++ count_line (codes "justice ") counts.justice
    ++ count_line (codes "fairness ") counts.fairness
    ++ count_line (codes "levels ") counts.levels

-- how many entries each list of the circuit has, how many of its nodes are gates, and how many
-- levels there are
abbrev pub counts_of : Circuit → ℕ → Counts
counts_of c levels = record {
  inputs = length c.inputs;
  latches = length c.latchs;
  outputs = length c.properties.outputs;
  gates = count_by (λ node. is_gate node.typ) c.nodes;
  bads = length c.properties.bads;
  constraints = length c.properties.constraints;
  justice = length c.properties.justice;
  fairness = length c.properties.fairness;
  levels = levels;
}

-- the text tells the counts of the file's circuit
abbrev pub IsInfo : File → List ℕ → Type 0
IsInfo f text =
    let c = circuit_of f in
    (levels : ℕ) × IsDepth c.nodes levels × (text ≡ info_text (counts_of c levels))

-- it was written, and the writer has not failed; or a beginning of it, and it has; or memory ran
-- out
abbrev pub PrintsInfo : {W : Type 0} → (W → Option (List ℕ)) → (W → Bool) → W → W → File
    → Result Unit EditError → Type 0
PrintsInfo held failed w made f (Ok done) =
    (text : List ℕ) × IsInfo f text × Appends (held w) (held made) text × (failed made ≡ false)
PrintsInfo held failed w made f (Err errors.Write) =
    (text : List ℕ) × IsInfo f text × Stops (held w) (held made) (failed made) text
PrintsInfo held failed w made f (Err errors.Memory) = Unit {0}
PrintsInfo held failed w made f (Err e) = ⊥
