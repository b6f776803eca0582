use Rattle.aig_base.proofs.Words.{sym, ◌∙◌}
use Rattle.aig_format.proofs.NumberReaders.{true_digit}
use Rattle.aig_lexer.specs.Takes.{feed}
use Rattle.aig_lexer.proofs.Front.{no_digit}
use Rattle.aig_witness.proofs.Digits.{digits_large, digits_last, digits_none, digits_stop, digits_wrong}
use Rattle.aig_witness.proofs.solutions.words.read_digits.Goals as goal

pub returns-then-not-is_ascii_digit : goal.returns-then-not-is_ascii_digit
returns-then-not-is_ascii_digit g c =
    let at = feed g.R.Source.left g.R.Source.failed g.R.Source.pulls c.args.buffer.now c.args.r.now
    in
    digits_none at at c.args.first (no_digit c.args.first c.if-not-is_ascii_digit.ensures.cases)

pub returns-in-Err-Shape : goal.returns-in-Err-Shape
returns-in-Err-Shape g c =
    let at = feed g.R.Source.left g.R.Source.failed g.R.Source.pulls in
    digits_large (at c.args.buffer.now c.args.r.now)
    (at c.digits_from.new.buffer c.digits_from.new.r) c.args.first
    (true_digit c.args.first c.if-not-is_ascii_digit.ensures.cases)
    (rw c.in-Err-Shape.field-0-is at c.in-Err-Shape.ensures)

pub returns-in_default : goal.returns-in_default
returns-in_default g c =
    let at = feed g.R.Source.left g.R.Source.failed g.R.Source.pulls in
    digits_last (at c.args.buffer.now c.args.r.now)
    (at c.digits_from.new.buffer c.digits_from.new.r) c.args.first (true_digit c.args.first c.if-not-is_ascii_digit.ensures.cases)
    c.in-Ok.number.0 (rw c.in_default.is at c.in-Ok.ensures)

pub returns-in_default-end_of : goal.returns-in_default-end_of
returns-in_default-end_of g c =
    let at = feed g.R.Source.left g.R.Source.failed g.R.Source.pulls in
    digits_wrong (at c.args.buffer.now c.args.r.now) (at c.digits_from.new.buffer
    c.digits_from.new.r) c.args.first
    (true_digit c.args.first c.if-not-is_ascii_digit.ensures.cases) c.in-Ok.number.0
    c.in-Some.b (rw c.in-Some.is at c.in-Ok.ensures)
    (sym c.end_of.ensures ∙ c.in_default-end_of.is)

pub returns : goal.returns
returns g c =
    let at = feed g.R.Source.left g.R.Source.failed g.R.Source.pulls in
    digits_stop (at c.args.buffer.now c.args.r.now)
    (at c.digits_from.new.buffer c.digits_from.new.r) c.args.first (true_digit c.args.first c.if-not-is_ascii_digit.ensures.cases)
    c.in-Ok.number.0 c.in-Some.b c.in-Some-end_of.end
    (rw c.in-Some.is at c.in-Ok.ensures) (sym c.end_of.ensures ∙ c.in-Some-end_of.is)
