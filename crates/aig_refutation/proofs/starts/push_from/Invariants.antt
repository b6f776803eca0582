use Rattle.aig_base.proofs.Words.{◌≡◌, ◌++◌, drop}
use Rattle.aig_refutation.specs.Proofs.{hints_at}
use Rattle.aig_refutation.specs.Tokens.{said_numbers}
use Rattle.aig_refutation.proofs.starts.push_from.Given as goal

abbrev pub invariant-loop-i : goal.invariant-loop-i
invariant-loop-i l =
    l.hints.items ++ hints_at (said_numbers (drop l.i l.groups))
    ≡ l.fn.hints.items ++ hints_at (said_numbers (drop l.start l.groups))
