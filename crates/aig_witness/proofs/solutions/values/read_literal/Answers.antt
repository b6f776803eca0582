use Rattle.aig_base.proofs.Words.{sym, ◌∙◌, err_from_is_err_and}
use Rattle.aig_lexer.specs.Takes.{feed}
use Rattle.aig_witness.proofs.Literals.{literal_error, literal_given, literal_refused, literal_zero}
use Rattle.aig_witness.proofs.solutions.values.read_literal.Goals as goal

pub returns-in_err-word : goal.returns-in_err-word
returns-in_err-word g c =
    let p = err_from_is_err_and c.from_residual.result c.from_residual.ensures.1 in
    rw (p.1, p.2) (literal_error c.args.first
    (feed g.R.Source.left g.R.Source.failed g.R.Source.pulls c.args.buffer.now c.args.r.now)
    (feed g.R.Source.left g.R.Source.failed g.R.Source.pulls c.read_word.new.buffer
    c.read_word.new.r) c.args.values.now c.args.values.now c.in_err-word.field-0.0
    c.in_err-word.ensures)

pub returns-then-is_end : goal.returns-then-is_end
returns-then-is_end g c =
    literal_zero c.args.first (feed g.R.Source.left g.R.Source.failed g.R.Source.pulls
    c.args.buffer.now c.args.r.now) (feed g.R.Source.left g.R.Source.failed g.R.Source.pulls
    c.read_word.new.buffer c.read_word.new.r) c.args.values.now c.args.values.now
    c.in_ok-word.word c.in_ok-word.ensures (sym c.is_end.ensures ∙ c.if-is_end.true)

pub returns-in_err-set_value : goal.returns-in_err-set_value
returns-in_err-set_value g c =
    let p = err_from_is_err_and c.from_residual-in_err-set_value.result
    c.from_residual-in_err-set_value.ensures.1 in
    rw (p.1, p.2) (literal_refused c.args.first
    (feed g.R.Source.left g.R.Source.failed g.R.Source.pulls c.args.buffer.now c.args.r.now)
    (feed g.R.Source.left g.R.Source.failed g.R.Source.pulls c.read_word.new.buffer
    c.read_word.new.r) c.args.values.now c.set_value.new.values c.in_ok-word.word
    c.in_ok-word.ensures c.in_err-set_value.field-0.0 (sym c.is_end.ensures ∙ c.if-is_end.false)
    c.in_err-set_value.ensures)

pub returns : goal.returns
returns g c =
    rw c.reached_by.ensures (literal_given c.args.first
    (feed g.R.Source.left g.R.Source.failed g.R.Source.pulls c.args.buffer.now c.args.r.now)
    (feed g.R.Source.left g.R.Source.failed g.R.Source.pulls c.read_word.new.buffer
    c.read_word.new.r) c.args.values.now c.set_value.new.values c.in_ok-word.word
    c.in_ok-word.ensures (sym c.is_end.ensures ∙ c.if-is_end.false) c.in_ok-set_value.ensures)
