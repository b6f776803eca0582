use Rattle.std.proofs.Common.{◌≢◌, ◌<◌, ℕ}
use Rattle.aig_base.specs.declared.logic.three.Lbool.TheVariants.{TRUE}
use Rattle.aig_witness.specs.Solutions.{truth_at}
use Rattle.aig_witness.proofs.solutions.witness.first_true.Given as goal

abbrev pub invariant-loop-i : goal.invariant-loop-i
invariant-loop-i l = (j : ℕ) → j < l.i → truth_at l.edges l.values j ≢ TRUE
