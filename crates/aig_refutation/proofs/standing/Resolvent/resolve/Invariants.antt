use Rattle.aig_base.proofs.Words.{◌≡◌, ◌++◌, take}
use Rattle.aig_refutation.specs.Rat.{without_lit}
use Rattle.aig_refutation.proofs.standing.Resolvent.resolve.Given as goal

abbrev pub invariant-loop-lit : goal.invariant-loop-lit
invariant-loop-lit l = record {
  clause : l.self.clause.items ≡ l.clause ++ without_lit l.inverse (take l.lit-index l.other);
  starts : l.self.starts ≡ l.fn.self.starts;
}
