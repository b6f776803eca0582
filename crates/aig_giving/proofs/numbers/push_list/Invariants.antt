use Rattle.aig_giving.proofs.Words.{◌≡◌, ◌++◌, take, flat_map, clause_numbers}
use Rattle.aig_giving.proofs.numbers.push_list.Given as goal

abbrev pub invariant-loop-i : goal.invariant-loop-i
invariant-loop-i l =
    l.numbers.items ≡ l.fn.numbers.items ++ flat_map clause_numbers (take l.i l.clauses)
