use Rattle.aig_base.proofs.Words.{◌≡◌, ◌++◌, false, drop}
use Rattle.aig_refutation.specs.Rat.{hints_for}
use Rattle.aig_refutation.specs.Tokens.{said_numbers}
use Rattle.aig_refutation.proofs.starts.push_all_for.Given as goal

abbrev pub invariant-loop-hint : goal.invariant-loop-hint
invariant-loop-hint l =
    l.hints.items ++ hints_for l.number l.is_here (said_numbers (drop l.hint-index l.groups))
    ≡ l.fn.hints.items ++ hints_for l.number false (said_numbers l.groups)
