use Rattle.std.proofs.Common.{◌≡◌, ◌++◌, ◌-◌, ℕ, List, length, replicate}
use Rattle.aig_format.specs.Parse.{parse_header_numbers}
use Rattle.aig_lexer.specs.Takes.{feed}
use Rattle.aig_lexer.proofs.Going.{GoesOn}
use Rattle.aig_lexer.proofs.HeaderNumbers.{numbers_following}
use Rattle.aig_lexer.proofs.header.header_numbers.Given as goal

abbrev pub invariant-loop-i : goal.invariant-loop-i
invariant-loop-i g l = record {
  written : List ℕ;
  count : length written ≡ l.i;
  filled : l.numbers ≡ written ++ replicate (9 - l.i) 0;
  goes_on : GoesOn parse_header_numbers (feed g.R.Source.left g.R.Source.failed g.R.Source.pulls l.fn.buffer l.fn.r) (numbers_following written (9 - l.i)) (feed g.R.Source.left g.R.Source.failed g.R.Source.pulls l.buffer l.r);
}
