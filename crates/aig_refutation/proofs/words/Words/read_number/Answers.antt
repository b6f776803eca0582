use Rattle.aig_base.proofs.Words.{None, ap, ◌∙◌, err_from_is_err_and}
use Rattle.aig_lexer.specs.Takes.{feed}
use Rattle.aig_lexer.proofs.Front.{no_digit}
use Rattle.aig_format.proofs.NumberReaders.{true_digit}
use Rattle.aig_refutation.proofs.ReadWords.{number_ends, number_large, number_other, number_stops}
use Rattle.aig_refutation.proofs.words.Words.read_number.Goals as goal

pub returns-then-not-is_ascii_digit-clause-number :
    goal.returns-then-not-is_ascii_digit-clause-number
returns-then-not-is_ascii_digit-clause-number g c none =
    let at = feed g.R.Source.left g.R.Source.failed g.R.Source.pulls c.args.self.now.held
    c.args.r.now in
    number_other at at c.args.digit c.args.positive None c.fault.result
    (no_digit c.args.digit c.if-not-is_ascii_digit.ensures.cases) c.fault.ensures

pub returns-in-Err-Shape-clause-number : goal.returns-in-Err-Shape-clause-number
returns-in-Err-Shape-clause-number g c none =
    let at = feed g.R.Source.left g.R.Source.failed g.R.Source.pulls in
    rw (← c.self.view_is)
    (number_large (at c.self.inside.buffer c.args.r.now) (at c.digits_from.new.buffer
    c.digits_from.new.r) c.args.digit c.args.positive None
    (true_digit c.args.digit c.if-not-is_ascii_digit.ensures.cases)
    (rw c.in-Err-Shape.field-0-is at c.in-Err-Shape.ensures))

pub returns-in_err-end_word-clause-number : goal.returns-in_err-end_word-clause-number
returns-in_err-end_word-clause-number g c none =
    let p = err_from_is_err_and c.from_residual.result
    c.from_residual.ensures.1 in
    rw (p.1, p.2, ← c.self.view_is)
    (number_stops (feed g.R.Source.left g.R.Source.failed g.R.Source.pulls c.self.inside.buffer
    c.args.r.now) (feed g.R.Source.left g.R.Source.failed g.R.Source.pulls
    c.digits_from.new.buffer c.digits_from.new.r) c.args.digit c.in-Ok.number.0
    c.args.positive c.in-Ok.number.1 _ c.end_word.new.self.end c.in_err-end_word.field-0.0
    (true_digit c.args.digit c.if-not-is_ascii_digit.ensures.cases)
    c.in-Ok.ensures c.in_err-end_word.ensures.ended)

pub returns-clause-number : goal.returns-clause-number
returns-clause-number g c none =
    rw (← c.self.view_is, c.end_word.ensures.same)
    (number_ends (feed g.R.Source.left g.R.Source.failed g.R.Source.pulls c.self.inside.buffer
    c.args.r.now) (feed g.R.Source.left g.R.Source.failed g.R.Source.pulls
    c.digits_from.new.buffer c.digits_from.new.r) c.args.digit c.in-Ok.number.0
    c.args.positive c.in-Ok.number.1 c.self.inside.end c.end_word.new.self.end (ap (λ t.
    t.end) c.self.view_is ∙ none)
    (true_digit c.args.digit c.if-not-is_ascii_digit.ensures.cases)
    c.in-Ok.ensures c.in_ok-end_word.ensures.ended)
