use Rattle.aig_base.proofs.Words.{ℕ, ◌<◌, ◌≤◌, ◌^◌, All, max, slice_index_or}
use Rattle.aig_base.specs.declared.logic.literal.Lit.{Lit}
use Rattle.aig_base.specs.Clauses.{variable_of}
use Rattle.aig_refutation.proofs.checker.with_variables.Given as goal

abbrev pub invariant-loop-lit : goal.invariant-loop-lit
invariant-loop-lit l = record {
  below : (k : ℕ) (d : Lit) → k < l.lit-index → variable_of (slice_index_or l.clause k d) < l.most;
  more : l.variables ≤ l.most;
  least : (bound : ℕ) → l.variables ≤ bound
      → All (λ lit. variable_of lit < bound) l.clause → l.most ≤ bound;
  most : l.most ≤ max l.variables (2 ^ 31);
}
