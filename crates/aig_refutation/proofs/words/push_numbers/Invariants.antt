use Rattle.std.proofs.Common.{◌≡◌, ◌++◌, ◌-◌, ◌≤◌, List, ℕ, drop, length}
use Rattle.aig_refutation.specs.Skipping.{AreNext}
use Rattle.aig_refutation.proofs.words.push_numbers.Given as goal

abbrev pub invariant-loop-found : goal.invariant-loop-found
invariant-loop-found l = record {
  within : l.at ≤ length l.bytes;
  taken : List ℕ;
  pushed : l.numbers.items ≡ l.fn.numbers.items ++ taken;
  next : AreNext l.bytes taken (drop l.at l.bytes);
}

abbrev pub decreases-loop-found : goal.decreases-loop-found
decreases-loop-found l = length l.bytes - l.at
