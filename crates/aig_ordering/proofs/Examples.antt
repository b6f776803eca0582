-- Levels of small files, computed, and wrong answers, of which the definitions are false.
use Rattle.std.specs.Prelude.{◌≡◌, ℕ, List, [], ◌∷◌, Some, None, Ok, refl}
use Rattle.aig_base.proofs.Words.{arith, false≢true}
use Rattle.aig_circuit.specs.Properties.{no_properties}
use Rattle.aig_format.specs.declared.FileKind.TheVariants.{Text}
use Rattle.aig_format.proofs.Words.{GateLine, File, level_of}
use Rattle.aig_lexer.specs.Faults.{Tested}
use Rattle.aig_ordering.specs.Tables.{AreLevelsOf, all_have_levels, order_cause}

-- inputs 1 and 2, and these gates
abbrev file_of : List GateLine → File
file_of gates = record {
  kind = Text;
  greatest = 4;
  inputs = 2 ∷ 4 ∷ [];
  latches = [];
  properties = no_properties;
  gates = gates;
  names = [];
}

-- 3 = and(4,1) and 4 = and(2,1)
abbrev shuffled : File
shuffled = file_of (record { lhs = 6; rhs0 = 8; rhs1 = 2 } ∷ record { lhs = 8; rhs0 = 4; rhs1 = 2 } ∷ [])

-- 3 = and(4,1) and 4 = and(3,2)
abbrev cycle : File
cycle = file_of (record { lhs = 6; rhs0 = 8; rhs1 = 2 } ∷ record { lhs = 8; rhs0 = 6; rhs1 = 4 } ∷ [])

-- a gate stands above its operands, wherever their lines are
levels : level_of shuffled 3 ≡ Some 2
levels = refl

no_level : level_of cycle 3 ≡ None
no_level = refl

-- a cycle is not taken
no_cycle : {X : Type 0} (P : X → Type 0) (x : X) → ¬ Tested order_cause (all_have_levels cycle) P (Ok x)
no_cycle P x taken = false≢true taken.0

-- gates of two levels don't have one
no_equal_levels : ¬ AreLevelsOf shuffled (1 ∷ 1 ∷ 1 ∷ 2 ∷ 2 ∷ [])
no_equal_levels are = let level = are.each 3 (omega arith) in let n : ◌≡◌ {A = ℕ} 1 2 = cc in absurd (omega arith)
