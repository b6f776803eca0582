-- Serves private clauses alone.
-- The files that have a written form. (AIGER format 20071012: "Header", "Symbol table".)
use Rattle.std.specs.Prelude.{◌≡◌, ◌≢◌, ℕ, ◌^◌, ◌<◌, ◌≤◌, true, map, length, option_to_list}
use Rattle.std.specs.List.{AllByRecursion}
use Rattle.aig_circuit.specs.Properties.{AllProperties}
use Rattle.aig_format.specs.File.{LatchLine, GateLine, NameLine, File, header_of, defined}
use Rattle.aig_format.specs.Spells.{is_letter, numbers_in, Placed}

-- a number that a file may have
abbrev pub IsFileNumber : ℕ → Type 0
IsFileNumber n = n < 2 ^ 32

-- a latch of such numbers
abbrev pub LatchSmall : LatchLine → Type 0
LatchSmall l =
    IsFileNumber l.literal × IsFileNumber l.next
    × AllByRecursion IsFileNumber (option_to_list l.reset)

-- a gate of such numbers, with its operands in the order of the written form
abbrev pub GateSmall : GateLine → Type 0
GateSmall g = IsFileNumber g.lhs × (g.rhs0 ≤ g.lhs) × (g.rhs1 ≤ g.rhs0)

-- a name with one of the seven letters, such a position, and no line feed
abbrev pub NameSmall : NameLine → Type 0
NameSmall n =
    (is_letter n.letter ≡ true) × IsFileNumber n.position × AllByRecursion (λ b. b ≢ 10) n.name

-- what can be written
pub record CanWrite (f : File) : Type 0 where
  pub header : AllByRecursion IsFileNumber (numbers_in (header_of f))
  pub inputs : AllByRecursion IsFileNumber f.inputs
  pub latches : AllByRecursion LatchSmall f.latches
  pub properties : AllProperties IsFileNumber f.properties
  pub sizes : AllByRecursion IsFileNumber (map length f.properties.justice)
  pub gates : AllByRecursion GateSmall f.gates
  pub names : AllByRecursion NameSmall f.names
  pub placed : Placed f.kind (defined f)
