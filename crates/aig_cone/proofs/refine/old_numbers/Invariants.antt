use Rattle.aig_base.proofs.Words.{◌≡◌, ℕ, take, slice_get, get}
use Rattle.aig_cone.proofs.refine.old_numbers.Given as goal

abbrev pub invariant-loop-i : goal.invariant-loop-i
invariant-loop-i l = (n : ℕ) → get l.map n ≡ slice_get (take l.i l.kept) n
