use Rattle.aig_calls.proofs.Words.{◌≡◌, ◌+◌, ◌++◌, take, flat_map, range_with_len, input_numbers}
use Rattle.aig_calls.proofs.mapping.push_steps.Given as goal

abbrev pub invariant-loop-t : goal.invariant-loop-t
invariant-loop-t l =
    let number = input_numbers l.asked.encoded.circuit l.asked.encoded.unrolled in
    let steps = take l.t (range_with_len 0 (l.k + 1)) in
    l.numbers.items ≡ l.fn.numbers.items ++ flat_map number steps
