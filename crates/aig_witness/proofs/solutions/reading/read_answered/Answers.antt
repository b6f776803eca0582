use Rattle.std.proofs.lemmas.Result.{err_from_is_err_and}
use Rattle.aig_lexer.specs.Takes.{feed}
use Rattle.aig_witness.proofs.LineStarts.{ends_answered, goes_answered, wrong_answered}
use Rattle.aig_witness.proofs.solutions.reading.read_answered.Goals as goal

pub returns-in_err-read_answer : goal.returns-in_err-read_answer
returns-in_err-read_answer g c =
    let p = err_from_is_err_and c.from_residual.result c.from_residual.ensures.1 in
    rw (p.1, p.2) (wrong_answered (feed g.R.Source.left g.R.Source.failed g.R.Source.pulls
    c.args.buffer.now c.args.r.now) (feed g.R.Source.left g.R.Source.failed g.R.Source.pulls
    c.read_answer.new.buffer c.read_answer.new.r) c.in_err-read_answer.field-0.0
    c.in_err-read_answer.ensures)

pub returns-then-not-branch : goal.returns-then-not-branch
returns-then-not-branch g c = ends_answered (feed g.R.Source.left g.R.Source.failed g.R.Source.pulls
    c.args.buffer.now c.args.r.now) (feed g.R.Source.left g.R.Source.failed g.R.Source.pulls
    c.read_answer.new.buffer c.read_answer.new.r)
    (rw c.if-not-branch.true at c.in_ok-read_answer.ensures)

pub returns : goal.returns
returns g c = goes_answered (feed g.R.Source.left g.R.Source.failed g.R.Source.pulls
    c.args.buffer.now c.args.r.now) (feed g.R.Source.left g.R.Source.failed g.R.Source.pulls
    c.read_answer.new.buffer c.read_answer.new.r)
    (rw c.if-not-branch.false at c.in_ok-read_answer.ensures)
