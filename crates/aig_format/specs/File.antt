-- Part of what is promised.
-- A file as a record. (AIGER format 20071012: "Header", "Input/Latch/Output/And section", "Symbol
-- table"; AIGER 1.9: "Reset logic", "Properties".)
use Rattle.std.specs.Prelude.{ℕ, List, [], ◌∷◌, ◌++◌, length, map, Option}
use Rattle.std.specs.List.{flat_map}
use Rattle.aig_circuit.specs.Properties.{Properties, entries_of}
use Rattle.aig_format.specs.declared.FileKind.{FileKind}

-- a latch: its literal, its next literal, and its reset if one is written
pub record LatchLine : Type 0 where
  pub literal : ℕ
  pub next : ℕ
  pub reset : Option ℕ

-- a gate: the literal it defines, and its operands
pub record GateLine : Type 0 where
  pub lhs : ℕ
  pub rhs0 : ℕ
  pub rhs1 : ℕ

-- a name: its letter, its position, its bytes
pub record NameLine : Type 0 where
  pub letter : ℕ
  pub position : ℕ
  pub name : List ℕ

-- all that a file says
pub record File : Type 0 where
  pub kind : FileKind
  pub greatest : ℕ
  pub inputs : List ℕ
  pub latches : List LatchLine
  pub properties : Properties ℕ
  pub gates : List GateLine
  pub names : List NameLine

-- the numbers of a header: the greatest variable, and how many entries each section has
pub record HeaderNumbers : Type 0 where
  pub greatest : ℕ
  pub inputs : ℕ
  pub latches : ℕ
  pub outputs : ℕ
  pub gates : ℕ
  pub bads : ℕ
  pub constraints : ℕ
  pub justice : ℕ
  pub fairness : ℕ

-- the numbers of a file's header
abbrev pub header_of : File → HeaderNumbers
header_of f = record {
  greatest = f.greatest;
  inputs = length f.inputs;
  latches = length f.latches;
  outputs = length f.properties.outputs;
  gates = length f.gates;
  bads = length f.properties.bads;
  constraints = length f.properties.constraints;
  justice = length f.properties.justice;
  fairness = length f.properties.fairness;
}

-- the literals that are defined: inputs, latches, gates
abbrev pub defined : File → List ℕ
defined f = f.inputs ++ map (λ l. l.literal) f.latches ++ map (λ g. g.lhs) f.gates

-- the literals that are used
abbrev pub used : File → List ℕ
used f =
    map (λ l. l.next) f.latches ++ entries_of f.properties
    ++ flat_map (λ g. g.rhs0 ∷ g.rhs1 ∷ []) f.gates
