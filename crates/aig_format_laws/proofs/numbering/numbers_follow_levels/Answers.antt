use Rattle.aig_base.proofs.Words.{◌≡◌, ℕ, ◌<◌, true, false, Some, sym, ap, ◌∙◌, arith, inl, inr, ◌==◌, or_right}
use Rattle.aig_format.proofs.Words.{File, is_defined, is_compact, node_of_variable, Fits}
use Rattle.aig_format.proofs.Numbers.{defined_within, node_of_variable-by_level, node_of_variable-in_level, node_of_variable-compact, node_of_variable-one, node_of_variable-within, node_of_variable-zero, variable_of}
use Rattle.aig_format.proofs.Nodes.{length-nodes}
use Rattle.aig_format_laws.specs.Numbers.{ComesFirst}
use Rattle.aig_format_laws.proofs.numbering.numbers_follow_levels.Goals as goal

later : (f : File) (limit u v : ℕ) → Fits f limit → is_compact f ≡ false → is_defined f u ≡ true → is_defined f v ≡ true → ComesFirst f u v → node_of_variable f u < node_of_variable f v
later f limit u v fits well_founded first second order =
    let known = or_right (u == 0) (is_defined f u) first in
    let low = (defined_within f limit fits v second).0 in
    elim order.before [
      | inl less ↦ node_of_variable-by_level f limit fits well_founded u v order.first order.second known low order.first_is order.second_is less
      | inr same ↦ node_of_variable-in_level f limit fits well_founded u v order.first first second order.first_is (order.second_is ∙ ap Some (sym same.0)) same.1
    ]

pub returns-clause-zero : goal.returns-clause-zero
returns-clause-zero c = node_of_variable-zero

pub returns-clause-within : goal.returns-clause-within
returns-clause-within c = λ f limit v fits known. omega (arith, length-nodes f, node_of_variable-within f limit fits v known)

pub returns-clause-one : goal.returns-clause-one
returns-clause-one c = λ f limit u v fits known same. node_of_variable-one f limit fits u v known same

pub returns-clause-each : goal.returns-clause-each
returns-clause-each c = λ f limit n fits h. let v = variable_of f limit fits n (omega (arith, length-nodes f, h)) in (v.variable, v.known, v.is)

pub returns-clause-compact : goal.returns-clause-compact
returns-clause-compact c = λ f v compact h. node_of_variable-compact f compact v h

pub returns-clause-well_founded : goal.returns-clause-well_founded
returns-clause-well_founded c = later
