use Rattle.std.proofs.lemmas.Result.{err_from_is_err_and}
use Rattle.aig_lexer.specs.Takes.{feed}
use Rattle.aig_witness.proofs.SignedWords.{minus_end, minus_none, word_minus}
use Rattle.aig_witness.proofs.solutions.words.read_inverted.Goals as goal

pub returns-in_default : goal.returns-in_default
returns-in_default g c = minus_end (feed g.R.Source.left g.R.Source.failed g.R.Source.pulls
    c.args.buffer.now c.args.r.now) (feed g.R.Source.left g.R.Source.failed g.R.Source.pulls
    c.next.new.self c.next.new.r) c.in_ok-digit.field-0 c.in_ok-digit.ensures.steps c.in_default.is

pub returns-in_err-number : goal.returns-in_err-number
returns-in_err-number g c =
    let p = err_from_is_err_and c.from_residual-in_err-number.result
    c.from_residual-in_err-number.ensures.1 in
    rw (p.1, p.2) (minus_none (feed g.R.Source.left g.R.Source.failed g.R.Source.pulls
    c.args.buffer.now c.args.r.now) (feed g.R.Source.left g.R.Source.failed g.R.Source.pulls
    c.next.new.self c.next.new.r) c.in_ok-digit.field-0 c.in-Some.digit
    c.in_ok-digit.ensures.steps c.in-Some.is
    (feed g.R.Source.left g.R.Source.failed g.R.Source.pulls c.read_digits.new.buffer
    c.read_digits.new.r) c.in_err-number.field-0.0 c.in_err-number.ensures)

pub returns : goal.returns
returns g c =
    word_minus (feed g.R.Source.left g.R.Source.failed g.R.Source.pulls c.args.buffer.now
    c.args.r.now) (feed g.R.Source.left g.R.Source.failed g.R.Source.pulls c.next.new.self
    c.next.new.r) c.in_ok-digit.field-0 c.in-Some.digit c.in_ok-digit.ensures.steps c.in-Some.is
    (feed g.R.Source.left g.R.Source.failed g.R.Source.pulls c.read_digits.new.buffer
    c.read_digits.new.r) c.in_ok-number.number c.in_ok-number.end c.in_ok-number.ensures
