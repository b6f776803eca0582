use Rattle.std.proofs.lemmas.Result.{err_from_is_err_and}
use Rattle.aig_lexer.specs.Takes.{feed}
use Rattle.aig_witness.proofs.LineStarts.{taken_all, taken_answer, taken_answered, taken_begin, taken_end, taken_other, taken_values, wrong_answer, wrong_values}
use Rattle.aig_witness.proofs.solutions.reading.read_lines.Goals as goal

pub loop-first-init : goal.loop-first-init
loop-first-init g c = taken_begin (feed g.R.Source.left g.R.Source.failed g.R.Source.pulls
    c.args.buffer.now c.args.r.now) c.args.values.now

pub returns-in_err-read_value_line : goal.returns-in_err-read_value_line
returns-in_err-read_value_line g c =
    let p = err_from_is_err_and c.from_residual-in_err-read_value_line.result
    c.from_residual-in_err-read_value_line.ensures.1 in
    rw (p.1, p.2) (wrong_values (feed g.R.Source.left g.R.Source.failed g.R.Source.pulls
    c.args.buffer.now c.args.r.now) (feed g.R.Source.left g.R.Source.failed g.R.Source.pulls
    c.loop-first.buffer c.loop-first.r) c.args.values.now c.loop-first.is_answered
    c.loop-first.values c.loop-first.invariant
    (feed g.R.Source.left g.R.Source.failed g.R.Source.pulls c.first_byte.new.buffer
    c.first_byte.new.r) c.in-Some.first (rw c.in-Some.is at c.in_ok-first.ensures)
    c.if-first-eq118.true (feed g.R.Source.left g.R.Source.failed g.R.Source.pulls
    c.read_value_line.new.buffer c.read_value_line.new.r) c.read_value_line.new.values
    c.in_err-read_value_line.field-0.0 c.in_err-read_value_line.ensures)

pub returns-then-branch : goal.returns-then-branch
returns-then-branch g c = taken_all (feed g.R.Source.left g.R.Source.failed g.R.Source.pulls
    c.args.buffer.now c.args.r.now) (feed g.R.Source.left g.R.Source.failed g.R.Source.pulls
    c.loop-first.buffer c.loop-first.r) c.args.values.now c.loop-first.is_answered
    c.loop-first.values c.loop-first.invariant (feed g.R.Source.left g.R.Source.failed
    g.R.Source.pulls c.first_byte.new.buffer c.first_byte.new.r) c.in-Some.first
    (rw c.in-Some.is at c.in_ok-first.ensures) c.if-first-eq118.true
    (feed g.R.Source.left g.R.Source.failed g.R.Source.pulls c.read_value_line.new.buffer
    c.read_value_line.new.r) c.read_value_line.new.values
    (rw c.if-branch.true at c.in_ok-read_value_line.ensures)

pub loop-first-preserved-else-branch : goal.loop-first-preserved-else-branch
loop-first-preserved-else-branch g c = taken_values (feed g.R.Source.left g.R.Source.failed
    g.R.Source.pulls c.args.buffer.now c.args.r.now)
    (feed g.R.Source.left g.R.Source.failed g.R.Source.pulls c.loop-first.buffer c.loop-first.r)
    c.args.values.now c.loop-first.is_answered c.loop-first.values c.loop-first.invariant
    (feed g.R.Source.left g.R.Source.failed g.R.Source.pulls c.first_byte.new.buffer
    c.first_byte.new.r) c.in-Some.first (rw c.in-Some.is at c.in_ok-first.ensures)
    c.if-first-eq118.true (feed g.R.Source.left g.R.Source.failed g.R.Source.pulls
    c.read_value_line.new.buffer c.read_value_line.new.r) c.read_value_line.new.values
    (rw c.if-branch.false at c.in_ok-read_value_line.ensures)

pub returns-then-is_answered : goal.returns-then-is_answered
returns-then-is_answered g c = taken_answered
    (feed g.R.Source.left g.R.Source.failed g.R.Source.pulls c.args.buffer.now c.args.r.now)
    (feed g.R.Source.left g.R.Source.failed g.R.Source.pulls c.loop-first.buffer c.loop-first.r)
    c.args.values.now c.loop-first.is_answered c.loop-first.values c.loop-first.invariant
    (feed g.R.Source.left g.R.Source.failed g.R.Source.pulls c.first_byte.new.buffer
    c.first_byte.new.r) c.in-Some.first (rw c.in-Some.is at c.in_ok-first.ensures)
    c.if-first-eq118.false c.if-is_answered.true

pub returns-in_err-read_answered : goal.returns-in_err-read_answered
returns-in_err-read_answered g c =
    let p = err_from_is_err_and c.from_residual-in_err-read_answered.result
    c.from_residual-in_err-read_answered.ensures.1 in
    rw (p.1, p.2) (wrong_answer (feed g.R.Source.left g.R.Source.failed g.R.Source.pulls
    c.args.buffer.now c.args.r.now) (feed g.R.Source.left g.R.Source.failed g.R.Source.pulls
    c.loop-first.buffer c.loop-first.r) c.args.values.now c.loop-first.is_answered
    c.loop-first.values c.loop-first.invariant
    (feed g.R.Source.left g.R.Source.failed g.R.Source.pulls c.first_byte.new.buffer
    c.first_byte.new.r) c.in-Some.first (rw c.in-Some.is at c.in_ok-first.ensures)
    c.if-first-eq115.true c.if-is_answered.false
    (feed g.R.Source.left g.R.Source.failed g.R.Source.pulls c.read_answered.new.buffer
    c.read_answered.new.r) c.in_err-read_answered.field-0.0 c.in_err-read_answered.ensures)

pub loop-first-preserved : goal.loop-first-preserved
loop-first-preserved g c = taken_answer (feed g.R.Source.left g.R.Source.failed g.R.Source.pulls
    c.args.buffer.now c.args.r.now) (feed g.R.Source.left g.R.Source.failed g.R.Source.pulls
    c.loop-first.buffer c.loop-first.r) c.args.values.now c.loop-first.is_answered
    c.loop-first.values c.loop-first.invariant (feed g.R.Source.left g.R.Source.failed
    g.R.Source.pulls c.first_byte.new.buffer c.first_byte.new.r) c.in-Some.first
    (rw c.in-Some.is at c.in_ok-first.ensures) c.if-first-eq115.true c.if-is_answered.false
    (feed g.R.Source.left g.R.Source.failed g.R.Source.pulls c.read_answered.new.buffer
    c.read_answered.new.r) c.in_ok-read_answered.ensures

pub returns-else-first-eq115 : goal.returns-else-first-eq115
returns-else-first-eq115 g c = taken_other (feed g.R.Source.left g.R.Source.failed g.R.Source.pulls
    c.args.buffer.now c.args.r.now) (feed g.R.Source.left g.R.Source.failed g.R.Source.pulls
    c.loop-first.buffer c.loop-first.r) c.args.values.now c.loop-first.is_answered
    c.loop-first.values c.loop-first.invariant (feed g.R.Source.left g.R.Source.failed
    g.R.Source.pulls c.first_byte.new.buffer c.first_byte.new.r) c.in-Some.first
    (rw c.in-Some.is at c.in_ok-first.ensures) c.if-first-eq118.false c.if-is_answered.false
    c.if-first-eq115.false

pub returns : goal.returns
returns g c = taken_end (feed g.R.Source.left g.R.Source.failed g.R.Source.pulls c.args.buffer.now
    c.args.r.now) (feed g.R.Source.left g.R.Source.failed g.R.Source.pulls c.loop-first.buffer
    c.loop-first.r) c.args.values.now c.loop-first.is_answered c.loop-first.values
    c.loop-first.invariant (feed g.R.Source.left g.R.Source.failed g.R.Source.pulls
    c.first_byte.new.buffer c.first_byte.new.r) c.wrong_end.result c.wrong_end.ensures
    (rw c.in_default.is at c.in_ok-first.ensures)
