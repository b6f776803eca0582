use Rattle.std.proofs.Common.{◌≡◌, ◌++◌, ◌∷◌, [], map, take}
use Rattle.aig_base.specs.Clauses.{inverse_lit}
use Rattle.aig_base.proofs.logic.clauses.LitVvec.push_and.Given as goal

abbrev pub invariant-loop-lit : goal.invariant-loop-lit
invariant-loop-lit l = l.self ≡ l.fn.self ++ map (λ a. inverse_lit l.n ∷ a ∷ []) (take l.lit-index l.lits)
