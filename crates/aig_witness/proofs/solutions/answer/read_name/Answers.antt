use Rattle.std.proofs.Common.{sym, ◌∙◌}
use Rattle.aig_lexer.specs.Takes.{feed}
use Rattle.aig_witness.proofs.AnswerLines.{name_begins, name_end, name_long, name_on, name_stop}
use Rattle.aig_witness.proofs.solutions.answer.read_name.Goals as goal

pub loop-b-init : goal.loop-b-init
loop-b-init g c = name_begins c.args.first (feed g.R.Source.left g.R.Source.failed g.R.Source.pulls
    c.args.buffer.now c.args.r.now) c.args.name.now c.requires

pub returns-in-Some-end_of-clause-name : goal.returns-in-Some-end_of-clause-name
returns-in-Some-end_of-clause-name g c = name_stop c.args.first
    (feed g.R.Source.left g.R.Source.failed g.R.Source.pulls c.args.buffer.now c.args.r.now)
    (feed g.R.Source.left g.R.Source.failed g.R.Source.pulls c.loop-b.buffer c.loop-b.r)
    (feed g.R.Source.left g.R.Source.failed g.R.Source.pulls c.next.new.self c.next.new.r)
    c.loop-b.name c.loop-b.count c.loop-b.invariant c.in_ok-b.field-0 c.in_ok-b.ensures.steps
    c.in-Some.b c.in-Some.is c.in-Some-end_of.end (sym c.end_of.ensures ∙ c.in-Some-end_of.is)

pub returns-then-count-name-clause-name : goal.returns-then-count-name-clause-name
returns-then-count-name-clause-name g c = name_long c.args.first
    (feed g.R.Source.left g.R.Source.failed g.R.Source.pulls c.args.buffer.now c.args.r.now)
    (feed g.R.Source.left g.R.Source.failed g.R.Source.pulls c.loop-b.buffer c.loop-b.r)
    (feed g.R.Source.left g.R.Source.failed g.R.Source.pulls c.next.new.self c.next.new.r)
    c.loop-b.name c.loop-b.count c.loop-b.invariant c.in_ok-b.field-0 c.in_ok-b.ensures.steps
    c.in-Some.b c.in-Some.is (sym c.end_of.ensures ∙ c.in_default-end_of.is) c.if-count-name.true

pub loop-b-preserved : goal.loop-b-preserved
loop-b-preserved g c = name_on c.args.first (feed g.R.Source.left g.R.Source.failed g.R.Source.pulls
    c.args.buffer.now c.args.r.now) (feed g.R.Source.left g.R.Source.failed g.R.Source.pulls
    c.loop-b.buffer c.loop-b.r) (feed g.R.Source.left g.R.Source.failed g.R.Source.pulls
    c.next.new.self c.next.new.r) c.loop-b.name c.loop-b.count c.loop-b.invariant c.in_ok-b.field-0
    c.in_ok-b.ensures.steps c.in-Some.b c.in-Some.is (sym c.end_of.ensures ∙ c.in_default-end_of.is)
    c.if-count-name.false

pub returns-clause-name : goal.returns-clause-name
returns-clause-name g c = name_end c.args.first
    (feed g.R.Source.left g.R.Source.failed g.R.Source.pulls c.args.buffer.now c.args.r.now)
    (feed g.R.Source.left g.R.Source.failed g.R.Source.pulls c.loop-b.buffer c.loop-b.r)
    (feed g.R.Source.left g.R.Source.failed g.R.Source.pulls c.next.new.self c.next.new.r)
    c.loop-b.name c.loop-b.count c.loop-b.invariant c.in_ok-b.field-0 c.in_ok-b.ensures.steps
    c.in_default.is
