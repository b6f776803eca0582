use Rattle.std.proofs.Common.{◌≡◌, false, Some, None, ap, ◌∙◌, arith}
use Rattle.aig_lexer.specs.Takes.{feed}
use Rattle.aig_refutation.specs.Text.{is_blank}
use Rattle.aig_refutation.proofs.Lines.{closes_word, next_closed, next_line_end, next_some, next_stream_end, skips_as, some_of}
use Rattle.aig_refutation.proofs.words.Words.next_by_bytes.Goals as goal

pub returns-in-Some-clause-word : goal.returns-in-Some-clause-word
returns-in-Some-clause-word g c =
    rw (← c.self.view_is, c.in-Some.is) (next_closed (feed g.R.Source.left g.R.Source.failed
    g.R.Source.pulls c.self.inside.buffer c.args.r.now) c.in-Some.end)

pub returns-in-Some-eq10-clause-word : goal.returns-in-Some-eq10-clause-word
returns-in-Some-eq10-clause-word g c =
    let at = feed g.R.Source.left g.R.Source.failed g.R.Source.pulls in
    let before = at c.self.inside.buffer c.args.r.now in
    let mid = at c.skip_blanks.new.buffer c.skip_blanks.new.r in
    rw (
      ← c.self.view_is,
      c.in_default.is,
      c.end_line.ensures.same,
      c.end_line.ensures.ended,
      c.end_line.ensures.word,
    )
    (next_line_end before mid (skips_as before mid c.in_ok-skip_blanks.field-0 (Some 10)
    (c.in-Some-eq10.is ∙ ap (λ b. Some b) c.in-Some-eq10.field-0-test)
    c.in_ok-skip_blanks.ensures.skipped.1))

pub returns-in-Some-2-clause-word : goal.returns-in-Some-2-clause-word
returns-in-Some-2-clause-word g c =
    let at = feed g.R.Source.left g.R.Source.failed g.R.Source.pulls in
    let before = at c.self.inside.buffer c.args.r.now in
    let mid = at c.skip_blanks.new.buffer c.skip_blanks.new.r in
    let b = c.in-Some-2.byte in
    rw (← c.self.view_is, c.in_default.is)
    (next_some before mid b (λ e. omega arith) (some_of (λ byte. is_blank byte ≡ false)
    c.in_ok-skip_blanks.field-0 b c.in-Some-2.is c.in_ok-skip_blanks.ensures.skipped.0)
    (skips_as before mid c.in_ok-skip_blanks.field-0 (Some b) c.in-Some-2.is
    c.in_ok-skip_blanks.ensures.skipped.1)
    (at c.read_word.new.self.held c.read_word.new.r) c.read_word.new.self.end c.read_word.result
    (c.read_word.ensures.word c.in_default.is))

pub returns-in-Some-2-clause-closed : goal.returns-in-Some-2-clause-closed
returns-in-Some-2-clause-closed g c = closes_word c.read_word.result _ c.read_word.ensures.some

pub returns-in-None-clause-word : goal.returns-in-None-clause-word
returns-in-None-clause-word g c =
    let at = feed g.R.Source.left g.R.Source.failed g.R.Source.pulls in
    let before = at c.self.inside.buffer c.args.r.now in
    let mid = at c.skip_blanks.new.buffer c.skip_blanks.new.r in
    rw (
      ← c.self.view_is,
      c.in_default.is,
      c.end_line-in-None.ensures.same,
      c.end_line-in-None.ensures.ended,
      c.end_line-in-None.ensures.word,
    )
    (next_stream_end before mid (skips_as before mid c.in_ok-skip_blanks.field-0 None c.in-None.is
    c.in_ok-skip_blanks.ensures.skipped.1))
