use Rattle.aig_base.proofs.Words.{arith, err_from_is_err_and}
use Rattle.aig_lexer.specs.Takes.{feed}
use Rattle.aig_witness.proofs.AnswerLines.{name_wrong, rest_wrong}
use Rattle.aig_witness.proofs.solutions.answer.read_answer.Goals as goal

pub returns-in_err-count : goal.returns-in_err-count
returns-in_err-count g c =
    let p = err_from_is_err_and c.from_residual-in_err-count.result
    c.from_residual-in_err-count.ensures.1 in
    rw (p.1, p.2) (name_wrong (feed g.R.Source.left g.R.Source.failed g.R.Source.pulls
    c.args.buffer.now c.args.r.now) (feed g.R.Source.left g.R.Source.failed g.R.Source.pulls
    c.read_gap.new.buffer c.read_gap.new.r) c.in_ok-first.first c.in_ok-first.ensures
    (feed g.R.Source.left g.R.Source.failed g.R.Source.pulls c.read_name.new.buffer
    c.read_name.new.r) c.read_name.new.name c.in_err-count.field-0.0
    (omega (arith, c.in_err-count.ensures.room)) c.in_err-count.ensures.name)

pub returns-in_err-is_line : goal.returns-in_err-is_line
returns-in_err-is_line g c =
    let p = err_from_is_err_and c.from_residual-in_err-is_line.result
    c.from_residual-in_err-is_line.ensures.1 in
    rw (p.1, p.2) (rest_wrong (feed g.R.Source.left g.R.Source.failed g.R.Source.pulls
    c.args.buffer.now c.args.r.now) (feed g.R.Source.left g.R.Source.failed g.R.Source.pulls
    c.read_gap.new.buffer c.read_gap.new.r) c.in_ok-first.first c.in_ok-first.ensures
    (feed g.R.Source.left g.R.Source.failed g.R.Source.pulls c.read_name.new.buffer
    c.read_name.new.r) c.read_name.new.name c.in_ok-count.count c.in_ok-count.end
    c.in_ok-count.ensures.name (feed g.R.Source.left g.R.Source.failed g.R.Source.pulls
    c.end_answer.new.buffer c.end_answer.new.r) c.in_err-is_line.field-0.0
    c.in_err-is_line.ensures)
