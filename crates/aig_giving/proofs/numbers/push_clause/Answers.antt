use Rattle.aig_giving.proofs.Words.{◌≡◌, [], ◌∷◌, ◌++◌, map, ap, ◌∙◌, append_assoc, arith, rules, take_all, pos, dimacs_number}
use Rattle.aig_giving.proofs.Listing.{map_turn}
use Rattle.aig_giving.proofs.numbers.push_clause.Goals as goal

pub loop-lit-preserved : goal.loop-lit-preserved
loop-lit-preserved c =
    let before = c.loop-lit.numbers.items in
    let pushed : c.push.new.self.items ≡ before ++ c.number_of.result ∷ [] = search rules in
    map_turn dimacs_number c.args.clause.now c.loop-lit.lit-index _ c.loop-lit-test.true _ _ _
    c.loop-lit.invariant (pushed ∙ ap (λ y. before ++ y ∷ []) c.number_of.ensures)

pub returns : goal.returns
returns c =
    let before = c.args.numbers.now.items in
    let number = map dimacs_number in
    let end = pos 0 ∷ [] in
    let whole = take_all c.loop-lit.lit-index c.args.clause.now (omega (
      arith,
      c.loop-lit-test.false,
    )) in
    let all = c.loop-lit.invariant ∙ ap (λ lits. before ++ number lits) whole in
    c.in_ok-push-2.ensures.items ∙ ap (λ ns. ns ++ end) all ∙ append_assoc before (number
    c.args.clause.now) end
