use Rattle.std.proofs.Common.{◌++◌, ◌∷◌, []}
use Rattle.aig_lexer.proofs.Feeds.{advances_none, advances_on, ends_on, steps_byte, steps_end, steps_fewer}
use Rattle.aig_symbols.proofs.names.text.skip_rest.Goals as goal

pub loop-fault-init : goal.loop-fault-init
loop-fault-init g c = ([], advances_none _)

pub loop-fault-preserved : goal.loop-fault-preserved
loop-fault-preserved g c =
    let before = c.loop-fault.invariant in
    let b = c.in-Ok-Some.field-0-0 in
    (before.0 ++ b ∷ [], advances_on _ _ _ before.0 (b ∷ []) before.1 (steps_byte _ _ c.in-Ok-Some.field-0 c.in-Ok-Some.ensures.steps b c.in-Ok-Some.field-0-is))

pub loop-fault-smaller : goal.loop-fault-smaller
loop-fault-smaller g c = steps_fewer _ _ c.in-Ok-Some.field-0 c.in-Ok-Some.ensures.steps c.in-Ok-Some.field-0-0 c.in-Ok-Some.field-0-is

pub returns-in-Ok-None : goal.returns-in-Ok-None
returns-in-Ok-None g c =
    let before = c.loop-fault.invariant in
    (before.0 ++ [], ends_on _ _ _ before.0 [] before.1 (steps_end _ _ c.in-Ok-None.field-0 c.in-Ok-None.ensures.steps c.in-Ok-None.field-0-is))
