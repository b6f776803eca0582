use Rattle.std.proofs.Common.{◌≡◌, ◌++◌, map, take}
use Rattle.aig_giving.specs.Numbers.{dimacs_number}
use Rattle.aig_giving.proofs.numbers.push_clause.Given as goal

abbrev pub invariant-loop-lit : goal.invariant-loop-lit
invariant-loop-lit l =
    l.numbers.items ≡ l.fn.numbers.items ++ map dimacs_number (take l.lit-index l.clause)
