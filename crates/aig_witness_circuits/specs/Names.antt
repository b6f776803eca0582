-- Part of what is promised.
-- How conditions are called.
use Rattle.std.specs.Prelude.{ℕ, List, codes}
use Rattle.aig_witness_circuits.specs.declared.condition.Condition.{Condition}
use Rattle.aig_witness_circuits.specs.declared.condition.Condition.TheVariants.{Reset, Transition, Property, Base, Step}

-- the condition's name, in small letters
abbrev pub condition_name : Condition → List ℕ
condition_name Reset = codes "reset"
condition_name Transition = codes "transition"
condition_name Property = codes "property"
condition_name Base = codes "base"
condition_name Step = codes "step"
