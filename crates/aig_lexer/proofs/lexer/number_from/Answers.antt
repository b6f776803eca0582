use Rattle.aig_base.proofs.Words.{◌-◌, sym, err_from_is_err_and}
use Rattle.aig_format.specs.Parse.{parse_digits}
use Rattle.aig_format.proofs.NumberReaders.{number_goes, number_stops}
use Rattle.aig_lexer.specs.Faults.{word_cause}
use Rattle.aig_lexer.specs.Takes.{feed}
use Rattle.aig_lexer.specs.WordReaders.{parse_number_from}
use Rattle.aig_lexer.proofs.Digits.{misses_end, misses_large, takes_number}
use Rattle.aig_lexer.proofs.Faults.{tells-weaker}
use Rattle.aig_lexer.proofs.Front.{is_other_than_digit}
use Rattle.aig_lexer.proofs.Going.{misses_all}
use Rattle.aig_lexer.proofs.Taking.{misses_same, takes_same}
use Rattle.aig_lexer.proofs.lexer.number_from.Goals as goal

pub returns-then-not-is_ascii_digit : goal.returns-then-not-is_ascii_digit
returns-then-not-is_ascii_digit g c =
    misses_all (parse_number_from c.args.first)
    (feed g.R.Source.left g.R.Source.failed g.R.Source.pulls c.args.buffer.now c.args.r.now)
    (number_stops c.args.first (is_other_than_digit _ c.if-not-is_ascii_digit.ensures.cases))

pub returns-in_err-value : goal.returns-in_err-value
returns-in_err-value g c =
    let at = feed g.R.Source.left g.R.Source.failed g.R.Source.pulls in
    let before = at c.args.buffer.now c.args.r.now in
    let after = at c.digits_from.new.buffer c.digits_from.new.r in
    let p = err_from_is_err_and c.from_residual.result c.from_residual.ensures.1 in
    let digit = c.if-not-is_ascii_digit.ensures.cases in
    let digits = parse_digits (c.args.first - 48) in
    rw (p.1, p.2)
    (tells-weaker (word_cause c.in_err-value.field-0.0) _ _ after.failed
    (λ many. misses_same digits (parse_number_from c.args.first) before
    (misses_large (c.args.first - 48) before after many)
    (λ bs. sym (number_goes c.args.first digit.0 digit.1 bs)))
    c.in_err-value.ensures)

pub returns-in_default : goal.returns-in_default
returns-in_default g c =
    let at = feed g.R.Source.left g.R.Source.failed g.R.Source.pulls in
    let before = at c.args.buffer.now c.args.r.now in
    let after = at c.digits_from.new.buffer c.digits_from.new.r in
    let digit = c.if-not-is_ascii_digit.ensures.cases in
    misses_same (parse_digits (c.args.first - 48)) (parse_number_from c.args.first) before
    (misses_end (c.args.first - 48) before after c.in_ok-value.value
    (rw c.in_default.is at c.in_ok-value.ensures))
    (λ bs. sym (number_goes c.args.first digit.0 digit.1 bs))

pub returns : goal.returns
returns g c =
    let at = feed g.R.Source.left g.R.Source.failed g.R.Source.pulls in
    let before = at c.args.buffer.now c.args.r.now in
    let after = at c.digits_from.new.buffer c.digits_from.new.r in
    let digit = c.if-not-is_ascii_digit.ensures.cases in
    takes_same (parse_digits (c.args.first - 48)) (parse_number_from c.args.first) before after
    (c.in_ok-value.value, c.in-Some.end)
    (takes_number (c.args.first - 48) before after c.in_ok-value.value c.in-Some.end
    (rw c.in-Some.is at c.in_ok-value.ensures))
    (λ bs. sym (number_goes c.args.first digit.0 digit.1 bs))
