use Rattle.std.proofs.Common.{◌≡◌, length}
use Rattle.aig_refutation.proofs.standing.Resolvent.search.Given as goal

abbrev pub invariant-loop-place : goal.invariant-loop-place
invariant-loop-place l = length l.marks ≡ length l.fn.marks
