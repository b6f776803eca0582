-- Part of what is promised.
-- Three values: false, true and unknown.
use Rattle.std.specs.Prelude.{◌≡◌, Bool, true, false}
use Rattle.aig_base.specs.declared.logic.three.Lbool.{Lbool}
use Rattle.aig_base.specs.declared.logic.three.Lbool.TheVariants.{FALSE, TRUE, NONE}

-- the and of two values: false with anything is false, true with true is true, and all else is
-- unknown
abbrev pub lbool_and : Lbool → Lbool → Lbool
lbool_and FALSE b = FALSE
lbool_and TRUE b = b
lbool_and NONE FALSE = FALSE
lbool_and NONE TRUE = NONE
lbool_and NONE NONE = NONE

-- the inverse of unknown is unknown
abbrev pub lbool_not : Lbool → Lbool
lbool_not FALSE = TRUE
lbool_not TRUE = FALSE
lbool_not NONE = NONE

-- the value, inverted or not
abbrev pub lbool_not_if : Bool → Lbool → Lbool
lbool_not_if true value = lbool_not value
lbool_not_if false value = value

-- where the first is known, the second is it
abbrev pub Agrees : Lbool → Bool → Type 0
Agrees FALSE value = value ≡ false
Agrees TRUE value = value ≡ true
Agrees NONE value = Unit {0}
