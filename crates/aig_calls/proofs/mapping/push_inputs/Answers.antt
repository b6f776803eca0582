use Rattle.aig_calls.proofs.Words.{◌≡◌, ℕ, true, [], ◌∷◌, ◌++◌, get_or, map, ap, ◌∙◌, arith, rules, take_all, Contains-get_or, lit_to, Circuit, place_at, dimacs_number, variable_number}
use Rattle.aig_unroll.proofs.Others.{inputs_are_others}
use Rattle.aig_giving.proofs.Listing.{map_turn}
use Rattle.aig_calls.proofs.mapping.push_inputs.Goals as goal

pub place-requires-clause-leaf : goal.place-requires-clause-leaf
place-requires-clause-leaf c =
    let circuit = c.args.asked.now.encoded.circuit in
    let inputs = c.inputs-inputs in
    let read = Contains-get_or inputs.result.now c.loop-n.n-index 0 c.loop-n-test.true in
    let has = rw inputs.ensures.value at read in
    rw (c.requires.places, inputs.ensures.value)
    (inputs_are_others circuit inputs.ensures.circuit _ has)

pub loop-n-preserved : goal.loop-n-preserved
loop-n-preserved c =
    let q = c.args.asked.now.encoded in
    let number = λ (n : ℕ). variable_number (place_at q.circuit q.unrolled c.args.t n) in
    let n = get_or c.inputs-inputs.result.now c.loop-n.n-index 0 in
    let at = λ (d : Circuit). place_at d q.unrolled c.args.t n in
    let place = c.new-place.ensures ∙ c.place.ensures ∙ ap at c.requires.places in
    let lit = c.lit.ensures ∙ ap (λ m. lit_to m true) place in
    let added = c.number_of.ensures ∙ ap dimacs_number lit in
    let before = c.loop-n.numbers.items in
    let pushed : c.push.new.self.items ≡ before ++ c.number_of.result ∷ [] = search rules in
    map_turn number c.inputs-inputs.result.now c.loop-n.n-index 0 c.loop-n-test.true _ _ _
    c.loop-n.invariant (pushed ∙ ap (λ y. before ++ y ∷ []) added)

pub returns : goal.returns
returns c =
    let q = c.args.asked.now.encoded in
    let number = λ (n : ℕ). variable_number (place_at q.circuit q.unrolled c.args.t n) in
    let inputs = c.inputs-inputs in
    let whole = take_all c.loop-n.n-index inputs.result.now (omega (arith, c.loop-n-test.false)) in
    let all = whole ∙ inputs.ensures.value in
    c.loop-n.invariant ∙ ap (λ ns. c.args.numbers.now.items ++ map number ns) all
