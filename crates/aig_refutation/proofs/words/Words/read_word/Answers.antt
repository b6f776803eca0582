use Rattle.aig_base.proofs.Words.{ap, ◌∙◌, err_from_is_err_and}
use Rattle.aig_lexer.specs.Takes.{feed}
use Rattle.aig_refutation.proofs.ReadWords.{letter_ends, letter_stops, minus_end, minus_word, plain_word}
use Rattle.aig_refutation.proofs.words.Words.read_word.Goals as goal

pub returns-in_err-end_word-clause-word : goal.returns-in_err-end_word-clause-word
returns-in_err-end_word-clause-word g c none =
    let p = err_from_is_err_and c.from_residual-in_err-end_word.result
    c.from_residual-in_err-end_word.ensures.1 in
    rw (p.1, p.2, ← c.self.view_is)
    (letter_stops (feed g.R.Source.left g.R.Source.failed g.R.Source.pulls c.self.inside.buffer
    c.args.r.now) (feed g.R.Source.left g.R.Source.failed g.R.Source.pulls c.next.new.self
    c.next.new.r) c.in_ok-end.end c.args.first _ c.end_word.new.self.end
    c.in_err-end_word.field-0.0
    c.if-first-eq100.true c.in_ok-end.ensures.steps c.in_err-end_word.ensures.ended)

pub returns-then-first-eq100-clause-word : goal.returns-then-first-eq100-clause-word
returns-then-first-eq100-clause-word g c none =
    rw (← c.self.view_is, c.end_word.ensures.same)
    (letter_ends (feed g.R.Source.left g.R.Source.failed g.R.Source.pulls c.self.inside.buffer
    c.args.r.now) (feed g.R.Source.left g.R.Source.failed g.R.Source.pulls c.next.new.self
    c.next.new.r) c.in_ok-end.end c.args.first c.self.inside.end c.end_word.new.self.end (ap (λ
    t. t.end) c.self.view_is ∙ none)
    c.if-first-eq100.true c.in_ok-end.ensures.steps c.in_ok-end_word.ensures.ended)

pub returns-then-first-ne45-clause-word : goal.returns-then-first-ne45-clause-word
returns-then-first-ne45-clause-word g c none =
    plain_word (feed g.R.Source.left g.R.Source.failed g.R.Source.pulls c.args.self.now.held
    c.args.r.now) (feed g.R.Source.left g.R.Source.failed g.R.Source.pulls
    c.read_number.new.self.held c.read_number.new.r) c.args.first c.read_number.new.self.end
    c.read_number.result
    c.if-first-eq100.false c.if-first-ne45.true (c.read_number.ensures.number none)

pub returns-in-Some-clause-word : goal.returns-in-Some-clause-word
returns-in-Some-clause-word g c none =
    rw (← c.self-2.view_is)
    (minus_word (feed g.R.Source.left g.R.Source.failed g.R.Source.pulls c.self-2.inside.buffer
    c.args.r.now) (feed g.R.Source.left g.R.Source.failed g.R.Source.pulls c.next-2.new.self
    c.next-2.new.r) (feed g.R.Source.left g.R.Source.failed g.R.Source.pulls
    c.read_number-in-Some.new.self.held c.read_number-in-Some.new.r) c.args.first
    c.in-Some.digit c.in_ok-digit.field-0 c.read_number-in-Some.new.self.end
    c.read_number-in-Some.result
    c.if-first-ne45.false c.in_ok-digit.ensures.steps c.in-Some.is
    (c.read_number-in-Some.ensures.number (ap (λ t. t.end) c.self-2.view_is ∙ none)))

pub returns-in-None-clause-word : goal.returns-in-None-clause-word
returns-in-None-clause-word g c none =
    rw (← c.self-2.view_is)
    (minus_end (feed g.R.Source.left g.R.Source.failed g.R.Source.pulls c.self-2.inside.buffer
    c.args.r.now) (feed g.R.Source.left g.R.Source.failed g.R.Source.pulls c.next-2.new.self
    c.next-2.new.r) c.args.first c.in_ok-digit.field-0 c.self-2.inside.end
    c.if-first-ne45.false c.in_ok-digit.ensures.steps c.in-None.is)
