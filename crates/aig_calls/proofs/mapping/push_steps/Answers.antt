use Rattle.aig_calls.proofs.Words.{◌+◌, ◌++◌, ◌<◌, length, ap, ◌∙◌, zero-add, arith, flat_map, range_with_len, take_all, input_numbers}
use Rattle.std.proofs.lemmas.List.FromFn.{get_or-range_with_len, length-range_with_len}
use Rattle.aig_giving.proofs.Listing.{turn}
use Rattle.aig_calls.proofs.mapping.push_steps.Goals as goal

pub loop-t-preserved : goal.loop-t-preserved
loop-t-preserved c =
    let number = input_numbers c.args.asked.now.encoded.circuit c.args.asked.now.encoded.unrolled in
    let t = c.loop-t.t in
    let count = c.args.k + 1 in
    let long = length-range_with_len 0 count in
    let lt : t < length (range_with_len 0 count) = omega (arith, long, c.loop-t-test.true) in
    let here = get_or-range_with_len 0 count t t c.loop-t-test.true ∙ zero-add t in
    turn number (range_with_len 0 count) t t lt here _ _ _ c.loop-t.invariant
    c.in_ok-push_inputs.ensures

pub returns : goal.returns
returns c =
    let number = input_numbers c.args.asked.now.encoded.circuit c.args.asked.now.encoded.unrolled in
    let steps = range_with_len 0 (c.args.k + 1) in
    let long = length-range_with_len 0 (c.args.k + 1) in
    let all = take_all c.loop-t.t steps (omega (arith, long, c.loop-t-test.false)) in
    c.loop-t.invariant ∙ ap (λ ts. c.args.numbers.now.items ++ flat_map number ts) all
