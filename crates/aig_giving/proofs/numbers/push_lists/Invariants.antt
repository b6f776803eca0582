use Rattle.aig_giving.proofs.Words.{◌≡◌, ◌++◌, take, flat_map, clause_numbers}
use Rattle.aig_giving.proofs.numbers.push_lists.Given as goal

abbrev pub invariant-loop-v : goal.invariant-loop-v
invariant-loop-v l =
    l.numbers.items ≡ l.fn.numbers.items ++ flat_map (flat_map clause_numbers) (take l.v l.clauses)
