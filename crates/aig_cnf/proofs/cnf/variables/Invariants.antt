use Rattle.std.proofs.Common.{◌≡◌, ◌-◌, ◌∷◌, [], false, replicate}
use Rattle.aig_base.specs.Clauses.{lit_to}
use Rattle.aig_cnf.proofs.cnf.variables.Given as goal

abbrev pub invariant-loop : goal.invariant-loop
invariant-loop l = l.dag ≡ ((lit_to 0 false ∷ []) ∷ []) ∷ replicate (l.counter - 1) []
