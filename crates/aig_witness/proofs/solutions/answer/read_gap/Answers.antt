use Rattle.std.proofs.Common.{sym, ◌∙◌}
use Rattle.aig_lexer.specs.Takes.{feed}
use Rattle.aig_witness.proofs.AnswerLines.{gap_begins, gap_end, gap_ends, gap_found, gap_none, gap_on, gap_wrong}
use Rattle.aig_witness.proofs.Texts.{end_of-blank, end_of-line, end_of-none}
use Rattle.aig_witness.proofs.solutions.answer.read_gap.Goals as goal

pub returns-in_default : goal.returns-in_default
returns-in_default g c = gap_none (feed g.R.Source.left g.R.Source.failed g.R.Source.pulls
    c.args.buffer.now c.args.r.now) (feed g.R.Source.left g.R.Source.failed g.R.Source.pulls
    c.next.new.self c.next.new.r) c.in_ok-gap.field-0 c.in_ok-gap.ensures.steps c.in_default.is

pub returns-then-not-is_blank : goal.returns-then-not-is_blank
returns-then-not-is_blank g c = gap_wrong (feed g.R.Source.left g.R.Source.failed g.R.Source.pulls
    c.args.buffer.now c.args.r.now) (feed g.R.Source.left g.R.Source.failed g.R.Source.pulls
    c.next.new.self c.next.new.r) c.in_ok-gap.field-0 c.in_ok-gap.ensures.steps c.in-Some.gap
    c.in-Some.is (sym c.is_blank.ensures ∙ c.if-not-is_blank.true)

pub loop-b-init : goal.loop-b-init
loop-b-init g c = gap_begins (feed g.R.Source.left g.R.Source.failed g.R.Source.pulls
    c.args.buffer.now c.args.r.now) (feed g.R.Source.left g.R.Source.failed g.R.Source.pulls
    c.next.new.self c.next.new.r) c.in_ok-gap.field-0 c.in_ok-gap.ensures.steps c.in-Some.gap
    c.in-Some.is (end_of-blank c.in-Some.gap (sym c.is_blank.ensures ∙ c.if-not-is_blank.false))

pub returns-then-b-eq10 : goal.returns-then-b-eq10
returns-then-b-eq10 g c = gap_ends (feed g.R.Source.left g.R.Source.failed g.R.Source.pulls
    c.args.buffer.now c.args.r.now) (feed g.R.Source.left g.R.Source.failed g.R.Source.pulls
    c.loop-b.buffer c.loop-b.r) (feed g.R.Source.left g.R.Source.failed g.R.Source.pulls
    c.next-in-loop-b.new.self c.next-in-loop-b.new.r) c.loop-b.invariant c.in_ok-b.field-0
    c.in_ok-b.ensures.steps c.in-Some-2.b c.in-Some-2.is
    (end_of-line c.in-Some-2.b c.if-b-eq10.true)

pub returns-then-not-is_blank-2 : goal.returns-then-not-is_blank-2
returns-then-not-is_blank-2 g c =
    gap_found (feed g.R.Source.left g.R.Source.failed g.R.Source.pulls c.args.buffer.now
    c.args.r.now) (feed g.R.Source.left g.R.Source.failed g.R.Source.pulls c.loop-b.buffer
    c.loop-b.r) (feed g.R.Source.left g.R.Source.failed g.R.Source.pulls
    c.next-in-loop-b.new.self c.next-in-loop-b.new.r) c.loop-b.invariant c.in_ok-b.field-0
    c.in_ok-b.ensures.steps c.in-Some-2.b c.in-Some-2.is
    (end_of-none c.in-Some-2.b c.if-b-eq10.false (sym c.is_blank-in-Some-2.ensures
    ∙ c.if-not-is_blank-2.true))

pub loop-b-preserved : goal.loop-b-preserved
loop-b-preserved g c =
    gap_on (feed g.R.Source.left g.R.Source.failed g.R.Source.pulls c.args.buffer.now c.args.r.now)
    (feed g.R.Source.left g.R.Source.failed g.R.Source.pulls c.loop-b.buffer c.loop-b.r)
    (feed g.R.Source.left g.R.Source.failed g.R.Source.pulls c.next-in-loop-b.new.self
    c.next-in-loop-b.new.r) c.loop-b.invariant c.in_ok-b.field-0 c.in_ok-b.ensures.steps
    c.in-Some-2.b c.in-Some-2.is (end_of-blank c.in-Some-2.b (sym c.is_blank-in-Some-2.ensures
    ∙ c.if-not-is_blank-2.false))

pub returns : goal.returns
returns g c = gap_end (feed g.R.Source.left g.R.Source.failed g.R.Source.pulls c.args.buffer.now
    c.args.r.now) (feed g.R.Source.left g.R.Source.failed g.R.Source.pulls c.loop-b.buffer
    c.loop-b.r) (feed g.R.Source.left g.R.Source.failed g.R.Source.pulls c.next-in-loop-b.new.self
    c.next-in-loop-b.new.r) c.loop-b.invariant c.in_ok-b.field-0 c.in_ok-b.ensures.steps
    c.in_default-2.is
