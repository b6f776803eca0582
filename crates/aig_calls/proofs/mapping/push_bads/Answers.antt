use Rattle.aig_calls.proofs.Words.{◌≡◌, [], ◌∷◌, ◌++◌, map, ap, ◌∙◌, arith, rules, take_all, dimacs_number, edge_number}
use Rattle.aig_giving.proofs.Listing.{map_turn}
use Rattle.aig_calls.proofs.mapping.push_bads.Goals as goal

pub loop-e-preserved : goal.loop-e-preserved
loop-e-preserved c =
    let before = c.loop-e.numbers.items in
    let pushed : c.push.new.self.items ≡ before ++ c.number_of.result ∷ [] = search rules in
    let added = c.number_of.ensures ∙ ap dimacs_number c.to_lit.ensures in
    map_turn edge_number c.args.bads.now c.loop-e.e-index _ c.loop-e-test.true _ _ _
    c.loop-e.invariant (pushed ∙ ap (λ y. before ++ y ∷ []) added)

pub returns : goal.returns
returns c =
    let whole = take_all c.loop-e.e-index c.args.bads.now (omega (arith, c.loop-e-test.false)) in
    c.loop-e.invariant ∙ ap (λ bads. c.args.numbers.now.items ++ map edge_number bads) whole
