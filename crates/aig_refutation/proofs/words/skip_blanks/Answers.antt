use Rattle.std.proofs.Common.{◌≡◌, ◌∙◌, arith}
use Rattle.aig_lexer.specs.Takes.{feed}
use Rattle.aig_refutation.specs.Text.{lines_of}
use Rattle.aig_refutation.proofs.ReadWords.{leaves_byte, steps_fewer}
use Rattle.aig_refutation.proofs.Texts.{blank_first, is_a_blank}
use Rattle.aig_refutation.proofs.words.skip_blanks.Goals as goal

pub loop-byte-preserved : goal.loop-byte-preserved
loop-byte-preserved g c =
    let at = feed g.R.Source.left g.R.Source.failed g.R.Source.pulls in
    let b = c.in-Some-eq32.field-0 in
    record {
      fewer =
          let less = steps_fewer (at c.loop-byte.buffer c.loop-byte.r) (at c.next.new.self
          c.next.new.r) c.in_ok-byte.byte b c.in_ok-byte.ensures.steps c.in-Some-eq32.is in
          omega (arith, less, c.loop-byte.invariant.fewer);
      lines =
          leaves_byte (at c.args.buffer.now c.args.r.now) (at c.loop-byte.buffer c.loop-byte.r) (at
          c.next.new.self c.next.new.r) (λ bytes rest. lines_of bytes ≡ lines_of rest) (λ bytes
          rest. lines_of bytes ≡ lines_of rest) c.in_ok-byte.byte b
          c.loop-byte.invariant.lines c.in_ok-byte.ensures.steps c.in-Some-eq32.is
          (λ bytes rest h. h ∙ blank_first b rest (is_a_blank b c.in-Some-eq32.field-0-test));
    }
