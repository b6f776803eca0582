use Rattle.aig_base.proofs.Words.{◌≡◌, ◌∷◌, [], ap, ◌∙◌, ℕ, arith, ne_eqb}
use Rattle.aig_lexer.specs.Takes.{feed}
use Rattle.aig_refutation.specs.Text.{lines_after, lines_of}
use Rattle.aig_refutation.proofs.ReadWords.{leaves_byte, leaves_none, steps_fewer}
use Rattle.aig_refutation.proofs.Texts.{next_line, no_line, same_line}
use Rattle.aig_refutation.proofs.words.skip_line.Goals as goal

pub returns-then-byte-eq10-clause-skipped : goal.returns-then-byte-eq10-clause-skipped
returns-then-byte-eq10-clause-skipped g c =
    let at = feed g.R.Source.left g.R.Source.failed g.R.Source.pulls in
    leaves_byte (at c.args.buffer.now c.args.r.now) (at c.loop-byte.buffer c.loop-byte.r) (at
    c.next.new.self c.next.new.r) (λ bytes rest. lines_after bytes ≡ lines_after rest) (λ bytes
    rest. lines_after bytes ≡ lines_of rest) c.in_ok-byte.field-0 c.in-Some.byte
    c.loop-byte.invariant.lines c.in_ok-byte.ensures.steps c.in-Some.is
    (λ bytes rest h. h ∙ ap (λ (b : ℕ). lines_after (b ∷ rest)) c.if-byte-eq10.true ∙ next_line
    rest)

pub loop-byte-preserved : goal.loop-byte-preserved
loop-byte-preserved g c =
    let at = feed g.R.Source.left g.R.Source.failed g.R.Source.pulls in
    let b = c.in-Some.byte in
    record {
      fewer =
          let less = steps_fewer (at c.loop-byte.buffer c.loop-byte.r) (at c.next.new.self
          c.next.new.r) c.in_ok-byte.field-0 b c.in_ok-byte.ensures.steps c.in-Some.is in
          omega (arith, less, c.loop-byte.invariant.fewer);
      lines =
          leaves_byte (at c.args.buffer.now c.args.r.now) (at c.loop-byte.buffer c.loop-byte.r) (at
          c.next.new.self c.next.new.r) (λ bytes rest. lines_after bytes ≡ lines_after rest) (λ
          bytes rest. lines_after bytes ≡ lines_after rest) c.in_ok-byte.field-0 b
          c.loop-byte.invariant.lines c.in_ok-byte.ensures.steps c.in-Some.is
          (λ bytes rest h. h ∙ same_line b rest (ne_eqb b 10 c.if-byte-eq10.false));
    }

pub returns-clause-skipped : goal.returns-clause-skipped
returns-clause-skipped g c =
    let at = feed g.R.Source.left g.R.Source.failed g.R.Source.pulls in
    λ bytes known.
    (leaves_none (at c.args.buffer.now c.args.r.now) (at c.loop-byte.buffer c.loop-byte.r) (at
    c.next.new.self c.next.new.r) (λ bytes rest. lines_after bytes ≡ lines_after rest) (λ bytes
    rest. lines_after bytes ≡ []) c.in_ok-byte.field-0
    c.loop-byte.invariant.lines c.in_ok-byte.ensures.steps c.in_default.is
    (λ bytes rest h e. h ∙ no_line) bytes known).2
