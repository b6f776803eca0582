use Rattle.std.proofs.Common.{None, sym, ◌∙◌}
use Rattle.aig_lexer.specs.Takes.{feed}
use Rattle.aig_lexer.proofs.Going.{goes_byte, goes_end, goes_nowhere, goes_start}
use Rattle.aig_witness.specs.Reading.{parse_kind}
use Rattle.aig_witness.proofs.Going.{kind_none, kind_wrong}
use Rattle.aig_witness.proofs.reading.read_kind.Goals as goal

pub returns-in_default : goal.returns-in_default
returns-in_default g c =
    let parse = parse_kind c.args.justice in
    goes_end parse parse _ _ (feed g.R.Source.left g.R.Source.failed g.R.Source.pulls
    c.next.new.self c.next.new.r) c.in_ok-letter.field-0 (goes_start parse
    (feed g.R.Source.left g.R.Source.failed g.R.Source.pulls c.args.buffer.now c.args.r.now))
    c.in_ok-letter.ensures.steps c.in_default.is (kind_none c.args.justice)

pub returns-in-None : goal.returns-in-None
returns-in-None g c =
    let parse = parse_kind c.args.justice in
    let now = feed g.R.Source.left g.R.Source.failed g.R.Source.pulls c.next.new.self c.next.new.r in
    goes_nowhere parse _ now
    (goes_byte parse parse (λ bs. None) _ _ now c.in_ok-letter.field-0
    c.in-Some.letter (goes_start parse (feed g.R.Source.left g.R.Source.failed g.R.Source.pulls
    c.args.buffer.now c.args.r.now)) c.in_ok-letter.ensures.steps c.in-Some.is
    (kind_wrong c.args.justice c.in-Some.letter (sym c.kind_of.ensures ∙ c.in-None.is)))
