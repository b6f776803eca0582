use Rattle.std.proofs.Common.{arith}
use Rattle.aig_format.proofs.NumberReaders.{true_digit}
use Rattle.aig_lexer.proofs.Digits.{digits_large, digits_last, digits_more, digits_start, digits_stopped}
use Rattle.aig_lexer.proofs.Feeds.{steps_fewer}
use Rattle.aig_lexer.proofs.Front.{no_digit}
use Rattle.aig_lexer.proofs.lexer.digits_by_bytes.Goals as goal

pub loop-b-init : goal.loop-b-init
loop-b-init g c = record { taken = digits_start c.args.first _; small = omega arith }

pub returns-then-not-is_ascii_digit : goal.returns-then-not-is_ascii_digit
returns-then-not-is_ascii_digit g c =
    digits_stopped c.args.first _ _ _ c.loop-b.value c.loop-b.invariant.taken c.in_ok-b.field-0
    c.in_ok-b.ensures.steps c.in-Some.b c.in-Some.is
    (no_digit c.in-Some.b c.if-not-is_ascii_digit.ensures.cases)

pub returns-then-value : goal.returns-then-value
returns-then-value g c =
    digits_large c.args.first _ _ _ c.loop-b.value c.loop-b.invariant.taken c.in_ok-b.field-0
    c.in_ok-b.ensures.steps c.in-Some.b c.in-Some.is
    (true_digit c.in-Some.b c.if-not-is_ascii_digit.ensures.cases) (omega arith)

pub loop-b-smaller : goal.loop-b-smaller
loop-b-smaller g c =
    steps_fewer _ _ c.in_ok-b.field-0 c.in_ok-b.ensures.steps c.in-Some.b c.in-Some.is

pub loop-b-preserved : goal.loop-b-preserved
loop-b-preserved g c = record {
  taken =
      digits_more c.args.first _ _ _ c.loop-b.value c.loop-b.invariant.taken c.in_ok-b.field-0
      c.in_ok-b.ensures.steps c.in-Some.b c.in-Some.is
      (true_digit c.in-Some.b c.if-not-is_ascii_digit.ensures.cases) (omega arith);
  small = omega arith;
}

pub returns : goal.returns
returns g c =
    digits_last c.args.first _ _ _ c.loop-b.value c.loop-b.invariant.taken c.in_ok-b.field-0
    c.in_ok-b.ensures.steps c.in_default.is
