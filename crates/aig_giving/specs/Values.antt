-- Part of what is promised.
-- Three values as C has them.
use Rattle.std.specs.Prelude.{ℕ, ◌==◌, if◌then◌else◌}
use Rattle.aig_base.specs.declared.logic.three.Lbool.{Lbool}
use Rattle.aig_base.specs.declared.logic.three.Lbool.TheVariants.{FALSE, TRUE, NONE}

-- the number of a value
abbrev pub value_number : Lbool → ℕ
value_number FALSE = 0
value_number TRUE = 1
value_number NONE = 2

-- the value of a number: from 2 on it is unknown
abbrev pub value_of : ℕ → Lbool
value_of n = if n == 0 then FALSE else if n == 1 then TRUE else NONE
