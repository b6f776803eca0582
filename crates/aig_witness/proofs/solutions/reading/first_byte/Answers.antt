use Rattle.std.proofs.Common.{sym, ◌∙◌}
use Rattle.aig_lexer.specs.Takes.{feed}
use Rattle.aig_witness.proofs.LineStarts.{lines_begin, lines_begin_comment, lines_blank, lines_comment, lines_end, lines_found}
use Rattle.aig_witness.proofs.solutions.reading.first_byte.Goals as goal

pub loop-b-init : goal.loop-b-init
loop-b-init g c = lines_begin (feed g.R.Source.left g.R.Source.failed g.R.Source.pulls
    c.args.buffer.now c.args.r.now)

pub loop-b-preserved-then-is_comment : goal.loop-b-preserved-then-is_comment
loop-b-preserved-then-is_comment g c = lines_comment
    (feed g.R.Source.left g.R.Source.failed g.R.Source.pulls c.args.buffer.now c.args.r.now)
    (feed g.R.Source.left g.R.Source.failed g.R.Source.pulls c.loop-b.buffer c.loop-b.r)
    (feed g.R.Source.left g.R.Source.failed g.R.Source.pulls c.next.new.self c.next.new.r)
    c.loop-b.is_comment c.loop-b.invariant c.in_ok-b.field-0 c.in_ok-b.ensures.steps c.in-Some.b
    c.in-Some.is c.if-is_comment.true

pub loop-b-preserved-then-b-eq99 : goal.loop-b-preserved-then-b-eq99
loop-b-preserved-then-b-eq99 g c = lines_begin_comment
    (feed g.R.Source.left g.R.Source.failed g.R.Source.pulls c.args.buffer.now c.args.r.now)
    (feed g.R.Source.left g.R.Source.failed g.R.Source.pulls c.loop-b.buffer c.loop-b.r)
    (feed g.R.Source.left g.R.Source.failed g.R.Source.pulls c.next.new.self c.next.new.r)
    c.loop-b.is_comment c.loop-b.invariant c.in_ok-b.field-0 c.in_ok-b.ensures.steps c.in-Some.b
    c.in-Some.is c.if-is_comment.false c.if-b-eq99.true

pub returns-in-None : goal.returns-in-None
returns-in-None g c = lines_found (feed g.R.Source.left g.R.Source.failed g.R.Source.pulls
    c.args.buffer.now c.args.r.now) (feed g.R.Source.left g.R.Source.failed g.R.Source.pulls
    c.loop-b.buffer c.loop-b.r) (feed g.R.Source.left g.R.Source.failed g.R.Source.pulls
    c.next.new.self c.next.new.r) c.loop-b.is_comment c.loop-b.invariant c.in_ok-b.field-0
    c.in_ok-b.ensures.steps c.in-Some.b c.in-Some.is c.if-is_comment.false c.if-b-eq99.false
    (sym c.end_of.ensures ∙ c.in-None.is)

pub loop-b-preserved : goal.loop-b-preserved
loop-b-preserved g c = lines_blank (feed g.R.Source.left g.R.Source.failed g.R.Source.pulls
    c.args.buffer.now c.args.r.now) (feed g.R.Source.left g.R.Source.failed g.R.Source.pulls
    c.loop-b.buffer c.loop-b.r) (feed g.R.Source.left g.R.Source.failed g.R.Source.pulls
    c.next.new.self c.next.new.r) c.loop-b.is_comment c.loop-b.invariant c.in_ok-b.field-0
    c.in_ok-b.ensures.steps c.in-Some.b c.in-Some.is c.if-is_comment.false c.in-Some-end_of.field-0
    (sym c.end_of.ensures ∙ c.in-Some-end_of.is)

pub returns : goal.returns
returns g c = lines_end (feed g.R.Source.left g.R.Source.failed g.R.Source.pulls c.args.buffer.now
    c.args.r.now) (feed g.R.Source.left g.R.Source.failed g.R.Source.pulls c.loop-b.buffer
    c.loop-b.r) (feed g.R.Source.left g.R.Source.failed g.R.Source.pulls c.next.new.self
    c.next.new.r) c.loop-b.is_comment c.loop-b.invariant c.in_ok-b.field-0 c.in_ok-b.ensures.steps
    c.in_default.is
