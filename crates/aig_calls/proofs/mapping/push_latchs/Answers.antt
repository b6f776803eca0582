use Rattle.aig_calls.proofs.Words.{◌≡◌, true, [], ◌∷◌, ◌++◌, map, sym, ap, ◌∙◌, arith, rules, map-map, take_all, lit_to, AigLatch, dimacs_number, variable_number}
use Rattle.aig_giving.proofs.Listing.{map_turn}
use Rattle.aig_calls.proofs.mapping.push_latchs.Goals as goal

pub loop-latch-preserved : goal.loop-latch-preserved
loop-latch-preserved c =
    let number = λ (latch : AigLatch). variable_number latch.input in
    let before = c.loop-latch.numbers.items in
    let pushed : c.push.new.self.items ≡ before ++ c.number_of.result ∷ [] = search rules in
    let leaf = c.new.ensures ∙ c.input.ensures in
    let lit = c.lit.ensures ∙ ap (λ n. lit_to n true) leaf in
    let added = c.number_of.ensures ∙ ap dimacs_number lit in
    map_turn number c.args.latchs.now c.loop-latch.latch-index _ c.loop-latch-test.true _ _ _
    c.loop-latch.invariant (pushed ∙ ap (λ y. before ++ y ∷ []) added)

pub returns : goal.returns
returns c =
    let number = λ (latch : AigLatch). variable_number latch.input in
    let before = c.args.numbers.now.items in
    let whole = take_all c.loop-latch.latch-index c.args.latchs.now (omega (
      arith,
      c.loop-latch-test.false,
    )) in
    let leaves = map-map variable_number (λ (latch : AigLatch). latch.input) c.args.latchs.now in
    c.loop-latch.invariant ∙ ap (λ latchs. before ++ map number latchs) whole
    ∙ ap (λ ns. before ++ ns) (sym leaves)
