use Rattle.aig_base.proofs.Words.{nat_tests, rules, ◌≡◌, ◌∷◌, false, Some, None, ap, ◌∙◌, arith, err_from_is_err_and}
use Rattle.aig_lexer.specs.Takes.{feed}
use Rattle.aig_refutation.specs.declared.error.RefutationError.TheVariants as errors
use Rattle.aig_refutation.specs.Text.{is_blank, word_at}
use Rattle.aig_refutation.specs.Tokens.{first_in, place}
use Rattle.aig_refutation.proofs.Lines.{comment_byte, comment_no_line, first_given, first_is_binary, first_refused, first_wrong, no_comment_byte, passed_all, passed_blank, passed_comment, passed_last, skips_as, some_of}
use Rattle.aig_refutation.proofs.Texts.{past_none}
use Rattle.aig_refutation.proofs.words.Words.first.Goals as goal

pub returns-in-Some-Stream-clause-first : goal.returns-in-Some-Stream-clause-first
returns-in-Some-Stream-clause-first g c =
    let stream = rw c.in-Some-Stream.is at c.in-Some-Stream.field-0-is in
    rw (← c.self.view_is, c.in-Some-Stream.is, stream) (λ bytes known. past_none)

pub loop-byte-preserved-in-10 : goal.loop-byte-preserved-in-10
loop-byte-preserved-in-10 g c =
    let at = feed g.R.Source.left g.R.Source.failed g.R.Source.pulls in
    let start = at c.args.self.now.held c.args.r.now in
    let now = at c.self-in-loop-byte.inside.buffer c.loop-byte.r in
    let mid = at c.skip_blanks.new.buffer c.skip_blanks.new.r in
    let so_far = rw (← c.self-in-loop-byte.view_is) at c.loop-byte.invariant.lines in
    record {
      fewer =
          let less = rw c.in-Some.is at c.in_ok-byte.ensures.fewer in
          let before = rw (← c.self-in-loop-byte.view_is) at c.loop-byte.invariant.fewer in
          omega (arith, less, before);
      open_line = ap (λ t. t.end) c.self-in-loop-byte.view_is ∙ c.loop-byte.invariant.open_line;
      lines = passed_blank start now mid c.args.self.now.end so_far (skips_as now mid
          c.in_ok-byte.field-0 (Some 10) (c.in-Some.is ∙ ap (λ b. Some b) c.in-10.is)
          c.in_ok-byte.ensures.skipped.1);
    }

pub loop-byte-preserved : goal.loop-byte-preserved
loop-byte-preserved g c =
    let at = feed g.R.Source.left g.R.Source.failed g.R.Source.pulls in
    let start = at c.args.self.now.held c.args.r.now in
    let now = at c.self-in-loop-byte.inside.buffer c.loop-byte.r in
    let mid = at c.skip_blanks.new.buffer c.skip_blanks.new.r in
    let after = at c.skip_line.new.buffer c.skip_line.new.r in
    let b = c.in-Some.byte in
    let so_far = rw (← c.self-in-loop-byte.view_is) at c.loop-byte.invariant.lines in
    record {
      fewer =
          let less = rw c.in-Some.is at c.in_ok-byte.ensures.fewer in
          let before = rw (← c.self-in-loop-byte.view_is) at c.loop-byte.invariant.fewer in
          let then = c.in_ok-skip_line-in-99.ensures.fewer c.if-not-branch.false in
          omega (arith, less, before, then);
      open_line = ap (λ t. t.end) c.self-in-loop-byte.view_is ∙ c.loop-byte.invariant.open_line;
      lines =
          passed_comment start now mid c.args.self.now.end so_far b (comment_no_line b c.in-99.is)
          (some_of (λ byte. is_blank byte ≡ false) c.in_ok-byte.field-0 b c.in-Some.is
          c.in_ok-byte.ensures.skipped.0)
          (skips_as now mid c.in_ok-byte.field-0 (Some b) c.in-Some.is
          c.in_ok-byte.ensures.skipped.1) (comment_byte b c.in-99.is) after (rw
          c.if-not-branch.false at c.in_ok-skip_line-in-99.ensures.skipped);
    }

pub returns-in-97-clause-first : goal.returns-in-97-clause-first
returns-in-97-clause-first g c =
    let at = feed g.R.Source.left g.R.Source.failed g.R.Source.pulls in
    let start = at c.args.self.now.held c.args.r.now in
    let now = at c.self-in-loop-byte.inside.buffer c.loop-byte.r in
    let mid = at c.skip_blanks.new.buffer c.skip_blanks.new.r in
    let b = c.in-Some.byte in
    let so_far = rw (← c.self-in-loop-byte.view_is) at c.loop-byte.invariant.lines in
    first_refused start now mid c.args.self.now.end so_far b (λ e. omega arith) (some_of (λ byte.
    is_blank byte ≡ false) c.in_ok-byte.field-0 b c.in-Some.is c.in_ok-byte.ensures.skipped.0)
    (skips_as now mid c.in_ok-byte.field-0 (Some b) c.in-Some.is c.in_ok-byte.ensures.skipped.1)
    (no_comment_byte b (λ e. omega arith) (λ e. omega arith)) errors.Binary
    (place g.R.Source.left g.R.Source.failed g.R.Source.pulls c.args.self.now c.args.r.now) (λ
    rest. ap (λ a. first_in (a ∷ word_at rest)) c.in-97.is ∙ first_is_binary rest)

pub returns-in_err-read_word-in_default-byte-clause-first :
    goal.returns-in_err-read_word-in_default-byte-clause-first
returns-in_err-read_word-in_default-byte-clause-first g c =
    let at = feed g.R.Source.left g.R.Source.failed g.R.Source.pulls in
    let start = at c.args.self.now.held c.args.r.now in
    let now = at c.self-in-loop-byte.inside.buffer c.loop-byte.r in
    let mid = at c.skip_blanks.new.buffer c.skip_blanks.new.r in
    let after = at c.read_word.new.self.held c.read_word.new.r in
    let b = c.in-Some.byte in
    let so_far = rw (← c.self-in-loop-byte.view_is) at c.loop-byte.invariant.lines in
    let p = err_from_is_err_and c.from_residual-in_err-read_word-in_default-byte.result
    c.from_residual-in_err-read_word-in_default-byte.ensures.1 in
    rw (p.1, p.2)
    (first_wrong start now mid c.args.self.now.end so_far b (λ e. omega arith) (some_of (λ byte.
    is_blank byte ≡ false) c.in_ok-byte.field-0 b c.in-Some.is c.in_ok-byte.ensures.skipped.0)
    (skips_as now mid c.in_ok-byte.field-0 (Some b) c.in-Some.is c.in_ok-byte.ensures.skipped.1)
    (first_of (
      grind (arith, nat_tests),
      search rules,
      grind (
        arith,
        nat_tests,
        c.in_default-byte,
      ),
    ))
    (place g.R.Source.left g.R.Source.failed g.R.Source.pulls c.read_word.new.self
    c.read_word.new.r) c.in_err-read_word-in_default-byte.field-0.0 (λ e. omega arith)
    c.read_word.new.self.end after
    (c.in_err-read_word-in_default-byte.ensures.word (ap (λ t. t.end) c.self-in-loop-byte.view_is ∙
    c.loop-byte.invariant.open_line)))

pub returns-in_default-byte-clause-first : goal.returns-in_default-byte-clause-first
returns-in_default-byte-clause-first g c =
    let at = feed g.R.Source.left g.R.Source.failed g.R.Source.pulls in
    let start = at c.args.self.now.held c.args.r.now in
    let now = at c.self-in-loop-byte.inside.buffer c.loop-byte.r in
    let mid = at c.skip_blanks.new.buffer c.skip_blanks.new.r in
    let after = at c.read_word.new.self.held c.read_word.new.r in
    let b = c.in-Some.byte in
    let so_far = rw (← c.self-in-loop-byte.view_is) at c.loop-byte.invariant.lines in
    first_given start now mid c.args.self.now.end so_far b (λ e. omega arith) (some_of (λ byte.
    is_blank byte ≡ false) c.in_ok-byte.field-0 b c.in-Some.is c.in_ok-byte.ensures.skipped.0)
    (skips_as now mid c.in_ok-byte.field-0 (Some b) c.in-Some.is c.in_ok-byte.ensures.skipped.1)
    (first_of (
      grind (arith, nat_tests),
      search rules,
      grind (
        arith,
        nat_tests,
        c.in_default-byte,
      ),
    ))
    after c.read_word.new.self.end c.in_ok-read_word-in_default-byte.field-0 (λ e. omega arith)
    (c.in_ok-read_word-in_default-byte.ensures.word (ap (λ t. t.end) c.self-in-loop-byte.view_is ∙
    c.loop-byte.invariant.open_line))

pub returns-then-not-branch-clause-first : goal.returns-then-not-branch-clause-first
returns-then-not-branch-clause-first g c =
    let at = feed g.R.Source.left g.R.Source.failed g.R.Source.pulls in
    let start = at c.args.self.now.held c.args.r.now in
    let now = at c.self-in-loop-byte.inside.buffer c.loop-byte.r in
    let mid = at c.skip_blanks.new.buffer c.skip_blanks.new.r in
    let after = at c.skip_line.new.buffer c.skip_line.new.r in
    let b = c.in-Some.byte in
    let so_far = rw (← c.self-in-loop-byte.view_is) at c.loop-byte.invariant.lines in
    passed_last start now mid c.args.self.now.end so_far b (comment_no_line b c.in-99.is) (some_of
    (λ byte. is_blank byte ≡ false) c.in_ok-byte.field-0 b c.in-Some.is
    c.in_ok-byte.ensures.skipped.0)
    (skips_as now mid c.in_ok-byte.field-0 (Some b) c.in-Some.is c.in_ok-byte.ensures.skipped.1)
    (comment_byte b c.in-99.is) after (rw c.if-not-branch.true at
    c.in_ok-skip_line-in-99.ensures.skipped)

pub returns-in_default-2-clause-first : goal.returns-in_default-2-clause-first
returns-in_default-2-clause-first g c =
    let at = feed g.R.Source.left g.R.Source.failed g.R.Source.pulls in
    let start = at c.args.self.now.held c.args.r.now in
    let now = at c.self-in-loop-byte.inside.buffer c.loop-byte.r in
    let mid = at c.skip_blanks.new.buffer c.skip_blanks.new.r in
    let so_far = rw (← c.self-in-loop-byte.view_is) at c.loop-byte.invariant.lines in
    passed_all start now mid c.args.self.now.end so_far (skips_as now mid c.in_ok-byte.field-0 None
    c.in_default-2.is c.in_ok-byte.ensures.skipped.1)
