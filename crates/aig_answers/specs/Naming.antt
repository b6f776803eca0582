-- Part of what is promised.
-- What the inputs of a question stand for: an input or a latch at a step, by its number in the
-- file. (AIGER 1.9, "Input/output format".)
use Rattle.std.specs.Prelude.{◌≡◌, ℕ, Bool, if◌then◌else◌, Option, Some, slice_get}
use Rattle.aig_circuit.specs.Circuit.{Circuit, latch_leaves}
use Rattle.aig_bounded.specs.declared.place.Place.{Place}
use Rattle.aig_answers.specs.declared.bounded_checks.naming.Named.{Named}

-- the leaf of the latch, or of the input, of this number, if there is one
abbrev pub leaf_of : Circuit → Bool → ℕ → Option ℕ
leaf_of c is_latch number =
    if is_latch then slice_get (latch_leaves c.latchs) number else slice_get c.inputs number

-- what stands at this place
abbrev pub IsNamed : Circuit → Place → Named → Type 0
IsNamed c p name = (name.step ≡ p.step) × (leaf_of c name.is_latch name.number ≡ Some p.leaf)
