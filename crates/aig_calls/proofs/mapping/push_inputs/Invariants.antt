use Rattle.std.proofs.Common.{◌≡◌, ℕ, ◌++◌, map, take}
use Rattle.aig_calls.proofs.Words.{place_at, variable_number}
use Rattle.aig_calls.proofs.mapping.push_inputs.Given as goal

abbrev pub invariant-loop-n : goal.invariant-loop-n
invariant-loop-n l =
    let q = l.asked.encoded in
    let number = λ (n : ℕ). variable_number (place_at q.circuit q.unrolled l.t n) in
    l.numbers.items ≡ l.fn.numbers.items ++ map number (take l.n-index l.inputs)
