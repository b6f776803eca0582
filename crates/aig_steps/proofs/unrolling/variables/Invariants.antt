use Rattle.std.proofs.Common.{◌≡◌, ◌-◌, ◌∷◌, [], replicate}
use Rattle.aig_steps.specs.Ends.{first_clauses}
use Rattle.aig_steps.proofs.unrolling.variables.Given as goal

abbrev pub invariant-loop : goal.invariant-loop
invariant-loop l = l.names ≡ first_clauses 0 ∷ replicate (l.counter - 1) []
