use Rattle.std.proofs.Common.{◌≡◌, ◌++◌, map, take}
use Rattle.aig_calls.specs.Numbers.{edge_number}
use Rattle.aig_calls.proofs.mapping.push_bads.Given as goal

abbrev pub invariant-loop-e : goal.invariant-loop-e
invariant-loop-e l = l.numbers.items ≡ l.fn.numbers.items ++ map edge_number (take l.e-index l.bads)
