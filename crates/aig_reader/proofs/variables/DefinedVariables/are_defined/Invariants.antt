use Rattle.std.proofs.Common.{◌≡◌, ℕ, ◌<◌, ◌≤◌, true}
use Rattle.aig_reader.specs.Variables.{is_marked}
use Rattle.aig_reader.proofs.variables.DefinedVariables.are_defined.Given as goal

abbrev pub invariant-loop-variable : goal.invariant-loop-variable
invariant-loop-variable l = (v : ℕ) → l.from ≤ v → v < l.variable → is_marked l.self v ≡ true
