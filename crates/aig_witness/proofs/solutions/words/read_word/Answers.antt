use Rattle.std.proofs.lemmas.Result.{err_from_is_err_and}
use Rattle.aig_lexer.specs.Takes.{feed}
use Rattle.aig_witness.proofs.SignedWords.{word_none, word_plain}
use Rattle.aig_witness.proofs.solutions.words.read_word.Goals as goal

pub returns-in_err-number : goal.returns-in_err-number
returns-in_err-number g c =
    let p = err_from_is_err_and c.from_residual.result c.from_residual.ensures.1 in
    rw (p.1, p.2) (word_none c.args.first (feed g.R.Source.left g.R.Source.failed g.R.Source.pulls
    c.args.buffer.now c.args.r.now) (feed g.R.Source.left g.R.Source.failed g.R.Source.pulls
    c.read_digits.new.buffer c.read_digits.new.r) c.in_err-number.field-0.0
    c.if-first-eq45.false c.in_err-number.ensures)

pub returns : goal.returns
returns g c =
    word_plain c.args.first (feed g.R.Source.left g.R.Source.failed g.R.Source.pulls
    c.args.buffer.now c.args.r.now) (feed g.R.Source.left g.R.Source.failed g.R.Source.pulls
    c.read_digits.new.buffer c.read_digits.new.r) c.in_ok-number.number c.in_ok-number.end
    c.if-first-eq45.false c.in_ok-number.ensures
