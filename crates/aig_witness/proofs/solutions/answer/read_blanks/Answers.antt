use Rattle.std.proofs.Common.{sym, ◌∙◌}
use Rattle.aig_lexer.specs.Takes.{feed}
use Rattle.aig_witness.proofs.AnswerLines.{blanks_begin, blanks_end, blanks_line, blanks_on, blanks_wrong}
use Rattle.aig_witness.proofs.Texts.{end_of-blank, end_of-line, end_of-none}
use Rattle.aig_witness.proofs.solutions.answer.read_blanks.Goals as goal

pub loop-b-init : goal.loop-b-init
loop-b-init g c = blanks_begin (feed g.R.Source.left g.R.Source.failed g.R.Source.pulls
    c.args.buffer.now c.args.r.now)

pub returns-then-b-eq10 : goal.returns-then-b-eq10
returns-then-b-eq10 g c = blanks_line (feed g.R.Source.left g.R.Source.failed g.R.Source.pulls
    c.args.buffer.now c.args.r.now) (feed g.R.Source.left g.R.Source.failed g.R.Source.pulls
    c.loop-b.buffer c.loop-b.r) (feed g.R.Source.left g.R.Source.failed g.R.Source.pulls
    c.next.new.self c.next.new.r) c.loop-b.invariant c.in_ok-b.field-0 c.in_ok-b.ensures.steps
    c.in-Some.b c.in-Some.is (end_of-line c.in-Some.b c.if-b-eq10.true)

pub returns-then-not-is_blank : goal.returns-then-not-is_blank
returns-then-not-is_blank g c =
    blanks_wrong (feed g.R.Source.left g.R.Source.failed g.R.Source.pulls c.args.buffer.now
    c.args.r.now) (feed g.R.Source.left g.R.Source.failed g.R.Source.pulls c.loop-b.buffer
    c.loop-b.r) (feed g.R.Source.left g.R.Source.failed g.R.Source.pulls c.next.new.self
    c.next.new.r) c.loop-b.invariant c.in_ok-b.field-0 c.in_ok-b.ensures.steps c.in-Some.b
    c.in-Some.is (end_of-none c.in-Some.b c.if-b-eq10.false (sym c.is_blank.ensures
    ∙ c.if-not-is_blank.true))

pub loop-b-preserved : goal.loop-b-preserved
loop-b-preserved g c =
    blanks_on (feed g.R.Source.left g.R.Source.failed g.R.Source.pulls c.args.buffer.now
    c.args.r.now) (feed g.R.Source.left g.R.Source.failed g.R.Source.pulls c.loop-b.buffer
    c.loop-b.r) (feed g.R.Source.left g.R.Source.failed g.R.Source.pulls c.next.new.self
    c.next.new.r) c.loop-b.invariant c.in_ok-b.field-0 c.in_ok-b.ensures.steps c.in-Some.b
    c.in-Some.is (end_of-blank c.in-Some.b (sym c.is_blank.ensures ∙ c.if-not-is_blank.false))

pub returns : goal.returns
returns g c = blanks_end (feed g.R.Source.left g.R.Source.failed g.R.Source.pulls c.args.buffer.now
    c.args.r.now) (feed g.R.Source.left g.R.Source.failed g.R.Source.pulls c.loop-b.buffer
    c.loop-b.r) (feed g.R.Source.left g.R.Source.failed g.R.Source.pulls c.next.new.self
    c.next.new.r) c.loop-b.invariant c.in_ok-b.field-0 c.in_ok-b.ensures.steps c.in_default.is
