use Rattle.aig_answers.proofs.Words.{[], ◌∷◌, ◌++◌, ◌∙◌, ap, ap₂, map, map_more, sym, take_all, start_value}
use Rattle.aig_answers.proofs.bounded_checks.values.first_state.Goals as goal

pub loop-latch-preserved : goal.loop-latch-preserved
loop-latch-preserved c =
    let more = map_more start_value c.args.latchs.now c.loop-latch.latch-index _ c.loop-latch-test.true in
    c.in_ok-push.ensures.items
    ∙ ap₂ (λ xs x. xs ++ x ∷ []) c.loop-latch.invariant c.start_of.ensures ∙ sym more

pub returns : goal.returns
returns c =
    c.loop-latch.invariant
    ∙ ap (map start_value)
    (take_all c.loop-latch.latch-index c.args.latchs.now c.loop-latch-test.false)
