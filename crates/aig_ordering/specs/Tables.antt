-- Serves private clauses alone.
-- The tables of a file's variables, and the order that they give. (AIGER format 20071012:
-- "Input/Latch/Output/And section".)
use Rattle.std.specs.Prelude.{◌≡◌, ℕ, ◌+◌, ◌*◌, ◌≤◌, zero, suc, Bool, List, length, slice_index_or, Option, Some, None}
use Rattle.std.specs.List.{AllByRecursion, list_all}
use Rattle.aig_circuit.specs.declared.node.AigNode.{AigNode}
use Rattle.aig_format.specs.File.{GateLine, File, defined}
use Rattle.aig_format.specs.Variables.{is_defined}
use Rattle.aig_format.specs.Levels.{has_level, level_of}
use Rattle.aig_format.specs.Fits.{IsDefinable}
use Rattle.aig_lexer.specs.declared.error.LineError.{LineError}
use Rattle.aig_lexer.specs.declared.error.LineError.TheVariants as line
use Rattle.aig_lexer.specs.Faults.{Cause, Memory, Never, Other}
use Rattle.aig_ordering.specs.Bits.{bit_is_set}
use Rattle.aig_ordering.specs.Lists.{nodes_of_variables}

-- both operands are literals of variables up to the greatest
abbrev pub HasOperands : ℕ → GateLine → Type 0
HasOperands greatest g = (g.rhs0 ≤ 2 * greatest + 1) × (g.rhs1 ≤ 2 * greatest + 1)

-- the nodes of the file's variables, each at the place of its variable; what the lines define is
-- definable and leaves room
pub record AreNodesOf (f : File) (nodes : List AigNode) : Type 0 where
  pub placed : nodes ≡ nodes_of_variables f.greatest f.gates
  pub definable : AllByRecursion (IsDefinable f.greatest) (defined f)
  pub operands : AllByRecursion (HasOperands f.greatest) f.gates
  pub few : length f.gates ≤ f.greatest

-- the bits tell which variables of the file are defined
abbrev pub AreMarksOf : File → List ℕ → Type 0
AreMarksOf f marked = (v : ℕ) → v ≤ f.greatest → bit_is_set marked v ≡ is_defined f v

-- why there is no order
abbrev pub order_cause : LineError → Cause
order_cause line.Memory = Memory
order_cause line.Literal = Other
order_cause e = Never

-- no gate of the file depends on itself
abbrev pub all_have_levels : File → Bool
all_have_levels f = list_all (has_level f) f.gates

-- what an entry of a table records: n + 1 records n, and 0 nothing
abbrev pub entry_value : ℕ → Option ℕ
entry_value zero = None
entry_value (suc n) = Some n

-- the level of a variable, if the table records one
abbrev pub level_at : List ℕ → ℕ → Option ℕ
level_at levels v = entry_value (slice_index_or levels v 0)

-- the level of each variable of the file
pub record AreLevelsOf (f : File) (levels : List ℕ) : Type 0 where
  pub count : length levels ≡ f.greatest + 1
  pub each : (v : ℕ) → v ≤ f.greatest → level_at levels v ≡ level_of f v
