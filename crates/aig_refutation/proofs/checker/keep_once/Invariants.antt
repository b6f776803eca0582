use Rattle.std.proofs.Common.{◌≡◌, Bool, length, take}
use Rattle.aig_base.specs.declared.logic.literal.Lit.{Lit}
use Rattle.aig_refutation.specs.Propagation.{reading_of}
use Rattle.aig_refutation.proofs.Once.{KeepsOnce}
use Rattle.aig_refutation.proofs.checker.keep_once.Given as goal

abbrev pub invariant-loop-lit : goal.invariant-loop-lit
invariant-loop-lit l =
    (length l.marks ≡ length l.fn.marks) × KeepsOnce l.marks l.clause l.lit-index l.kept.items
    × ((holds : Lit → Bool) → reading_of holds l.kept.items ≡ reading_of holds (take l.lit-index
    l.clause))
