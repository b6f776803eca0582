use Rattle.std.proofs.Common.{◌<◌, ◌^◌}
use Rattle.aig_lexer.specs.Takes.{feed}
use Rattle.aig_lexer.proofs.Digits.{DigitsTaken}
use Rattle.aig_lexer.proofs.lexer.digits_by_bytes.Given as goal

abbrev pub invariant-loop-b : goal.invariant-loop-b
invariant-loop-b g l = record {
  taken : DigitsTaken l.fn.first
      (feed g.R.Source.left g.R.Source.failed g.R.Source.pulls l.fn.buffer l.fn.r)
      (feed g.R.Source.left g.R.Source.failed g.R.Source.pulls l.buffer l.r) l.value;
  small : l.value < 2 ^ 32;
}

abbrev pub decreases-loop-b : goal.decreases-loop-b
decreases-loop-b g l =
    (feed g.R.Source.left g.R.Source.failed g.R.Source.pulls l.buffer l.r).most
