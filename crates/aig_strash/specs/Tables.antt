-- Serves private clauses alone.
-- The tables of a pass that numbers nodes: new numbers, and those of gates by the literals of their
-- operands.
use Rattle.std.specs.Prelude.{◌≡◌, ℕ, ◌^◌, ◌&&◌, Bool, false, Option, Some, nat_eq, List, unwrap_or}
use Rattle.std.specs.HashMap.{get, HashMap}
use Rattle.aig_strash.specs.declared.seeded.Seeded.{Seeded}
use Rattle.aig_strash.specs.declared.numbers.Tables.{Tables}
use Rattle.aig_strash.specs.declared.numbers.Tables.TheVariants.{Narrow, Wide}

-- `found` is the value that was there, or `next` where there was none; it is there now, and all
-- others are as before
pub record PutsIfAbsent {K V : Type 0} (same : K → K → Bool)
    (old new : HashMap K V Seeded) (key : K) (next found : V)
    : Type 0 where
  pub value : found ≡ unwrap_or (get same old key) next
  pub here : get same new key ≡ Some found
  pub others : (q : K) → same key q ≡ false → get same new q ≡ get same old q

-- two literals
abbrev pub Literals : Type 0
Literals = ℕ × ℕ

-- new numbers of gates, by the literals of their operands
abbrev pub Gates : Type 0
Gates = HashMap Literals ℕ Seeded

-- both literals are the same
abbrev pub are_same : Literals → Literals → Bool
are_same p q = nat_eq p.0 q.0 && nat_eq p.1 q.1

-- the number of the gate with these operands
abbrev pub number_of_gate : Gates → Literals → Option ℕ
number_of_gate gates literals = get are_same gates literals

-- the new number of each node so far
abbrev pub number_table : Tables → List ℕ
number_table (Narrow numbers gates) = numbers.items
number_table (Wide numbers gates) = numbers.items

-- the new number of each kept gate so far
abbrev pub gate_table : Tables → Gates
gate_table (Narrow numbers gates) = gates
gate_table (Wide numbers gates) = gates

-- every literal that the tables have room for is below
abbrev pub literal_limit : Tables → ℕ
literal_limit (Narrow numbers gates) = 2 ^ 32
literal_limit (Wide numbers gates) = 2 ^ 64
