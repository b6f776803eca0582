use Rattle.std.proofs.Common.{◌++◌, ◌∷◌, []}
use Rattle.aig_format.specs.Parse.{parse_text}
use Rattle.aig_lexer.proofs.Feeds.{steps_fewer}
use Rattle.aig_lexer.proofs.Going.{goes_byte, goes_end, goes_done}
use Rattle.aig_symbols.proofs.Texts.{text_from, text_goes, text_ends, text_stops}
use Rattle.aig_symbols.proofs.names.text.skip_text.Goals as goal

pub returns-in-Ok-Some-eq10 : goal.returns-in-Ok-Some-eq10
returns-in-Ok-Some-eq10 g c =
    let before = c.loop.invariant in
    let came = c.in-Ok-Some-eq10 in (
      before.0,
      tt,
      goes_done parse_text before.0 _ _
          (goes_byte parse_text (text_from before.0) _ _ _ _ came.field-0 came.field-0-0 before.1 came.ensures.steps came.field-0-is (text_ends before.0 came.field-0-0 came.field-0-0-test)),
    )

pub loop-preserved : goal.loop-preserved
loop-preserved g c =
    let before = c.loop.invariant in
    let came = c.in-Ok-Some in
    (before.0 ++ came.field-0-0 ∷ [], goes_byte parse_text (text_from before.0) (text_from (before.0 ++ came.field-0-0 ∷ [])) _ _ _ came.field-0 came.field-0-0 before.1 came.ensures.steps came.field-0-is (text_goes before.0 came.field-0-0 came.field-0-0-test.1))

pub loop-smaller : goal.loop-smaller
loop-smaller g c = steps_fewer _ _ c.in-Ok-Some.field-0 c.in-Ok-Some.ensures.steps c.in-Ok-Some.field-0-0 c.in-Ok-Some.field-0-is

pub returns-in-Ok-None : goal.returns-in-Ok-None
returns-in-Ok-None g c =
    let before = c.loop.invariant in
    goes_end parse_text (text_from before.0) _ _ _ c.in-Ok-None.field-0 before.1 c.in-Ok-None.ensures.steps c.in-Ok-None.field-0-is (text_stops before.0)
