use Rattle.std.proofs.lemmas.Result.{err_from_is_err_and}
use Rattle.aig_lexer.specs.Takes.{feed}
use Rattle.aig_witness.proofs.LineStarts.{last_none, last_other, last_refused, last_taken}
use Rattle.aig_witness.proofs.solutions.reading.read_last_answer.Goals as goal

pub returns-in_default : goal.returns-in_default
returns-in_default g c = last_none (feed g.R.Source.left g.R.Source.failed g.R.Source.pulls
    c.args.buffer.now c.args.r.now) (feed g.R.Source.left g.R.Source.failed g.R.Source.pulls
    c.first_byte.new.buffer c.first_byte.new.r) (rw c.in_default.is at c.in_ok-first.ensures)

pub returns-then-first-ne115 : goal.returns-then-first-ne115
returns-then-first-ne115 g c = last_other (feed g.R.Source.left g.R.Source.failed g.R.Source.pulls
    c.args.buffer.now c.args.r.now) (feed g.R.Source.left g.R.Source.failed g.R.Source.pulls
    c.first_byte.new.buffer c.first_byte.new.r) c.in-Some.first
    (rw c.in-Some.is at c.in_ok-first.ensures) c.if-first-ne115.true

pub returns-in_err-read_answer : goal.returns-in_err-read_answer
returns-in_err-read_answer g c =
    let p = err_from_is_err_and c.from_residual-in_err-read_answer.result
    c.from_residual-in_err-read_answer.ensures.1 in
    rw (p.1, p.2) (last_refused (feed g.R.Source.left g.R.Source.failed g.R.Source.pulls
    c.args.buffer.now c.args.r.now) (feed g.R.Source.left g.R.Source.failed g.R.Source.pulls
    c.first_byte.new.buffer c.first_byte.new.r) c.in-Some.first
    (rw c.in-Some.is at c.in_ok-first.ensures) c.if-first-ne115.false
    (feed g.R.Source.left g.R.Source.failed g.R.Source.pulls c.read_answer.new.buffer
    c.read_answer.new.r) c.in_err-read_answer.field-0.0 c.in_err-read_answer.ensures)

pub returns : goal.returns
returns g c = last_taken (feed g.R.Source.left g.R.Source.failed g.R.Source.pulls c.args.buffer.now
    c.args.r.now) (feed g.R.Source.left g.R.Source.failed g.R.Source.pulls c.first_byte.new.buffer
    c.first_byte.new.r) c.in-Some.first (rw c.in-Some.is at c.in_ok-first.ensures)
    c.if-first-ne115.false (feed g.R.Source.left g.R.Source.failed g.R.Source.pulls
    c.read_answer.new.buffer c.read_answer.new.r) c.in_ok-read_answer.field-0
    c.in_ok-read_answer.ensures
