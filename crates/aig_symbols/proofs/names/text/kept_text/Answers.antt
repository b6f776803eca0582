use Rattle.aig_base.proofs.Words.{◌++◌, ◌∷◌, [], is_utf8}
use Rattle.aig_format.specs.Parse.{parse_text}
use Rattle.aig_lexer.specs.Takes.{feed}
use Rattle.aig_lexer.proofs.Feeds.{steps_fewer}
use Rattle.aig_lexer.proofs.Going.{goes_byte, goes_end, goes_done}
use Rattle.aig_lexer.proofs.Taking.{misses_tested}
use Rattle.aig_symbols.proofs.Kept.{gives_kept}
use Rattle.aig_symbols.proofs.Texts.{text_from, text_goes, text_ends, text_stops}
use Rattle.aig_symbols.proofs.names.text.kept_text.Goals as goal

pub returns-in-Ok-Some-eq10 : goal.returns-in-Ok-Some-eq10
returns-in-Ok-Some-eq10 g c =
    let bytes = c.loop-bytes.bytes.items in
    let came = c.in-Ok-Some-eq10 in
    gives_kept _ _ c.loop-bytes.bytes c.from_utf8.result c.or.result
    (goes_done parse_text bytes _ _ (goes_byte parse_text (text_from bytes) _ _ _ _ came.field-0 came.field-0-0 c.loop-bytes.invariant came.ensures.steps came.field-0-is (text_ends bytes came.field-0-0 came.field-0-0-test)))
    c.from_utf8.ensures.ok c.from_utf8.ensures.succeeds c.or.ensures

pub loop-bytes-preserved : goal.loop-bytes-preserved
loop-bytes-preserved g c =
    let bytes = c.loop-bytes.bytes.items in
    let came = c.in-Ok-Some in
    rw c.in_ok-append-in-Ok-Some.ensures (goes_byte parse_text (text_from bytes) (text_from (bytes ++ came.byte ∷ [])) _ _ _ came.field-0 came.byte c.loop-bytes.invariant came.ensures.steps came.field-0-is (text_goes bytes came.byte came.byte-test.1))

pub loop-bytes-smaller : goal.loop-bytes-smaller
loop-bytes-smaller g c = steps_fewer _ _ c.in-Ok-Some.field-0 c.in-Ok-Some.ensures.steps c.in-Ok-Some.byte c.in-Ok-Some.field-0-is

pub returns-in-Ok-None : goal.returns-in-Ok-None
returns-in-Ok-None g c =
    let bytes = c.loop-bytes.bytes.items in
    misses_tested parse_text is_utf8 (feed g.R.Source.left g.R.Source.failed g.R.Source.pulls c.args.buffer.now c.args.r.now) (goes_end parse_text (text_from bytes) _ _ _ c.in-Ok-None.field-0 c.loop-bytes.invariant c.in-Ok-None.ensures.steps c.in-Ok-None.field-0-is (text_stops bytes))
