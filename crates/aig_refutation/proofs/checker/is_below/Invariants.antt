use Rattle.aig_base.proofs.Words.{◌≡◌, ℕ, ◌<◌, true, take, slice_index_or}
use Rattle.aig_base.specs.declared.logic.literal.Lit.{Lit}
use Rattle.aig_base.specs.Clauses.{variable_of}
use Rattle.aig_refutation.specs.Checking.{are_in}
use Rattle.aig_refutation.proofs.checker.is_below.Given as goal

abbrev pub invariant-loop-lit : goal.invariant-loop-lit
invariant-loop-lit l = record {
  below : (k : ℕ) (d : Lit) → k < l.lit-index → variable_of (slice_index_or l.clause k d) <
      l.variables;
  exact : are_in l.variables (take l.lit-index l.clause) ≡ true;
}
