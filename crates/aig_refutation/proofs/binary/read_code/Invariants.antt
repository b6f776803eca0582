use Rattle.std.proofs.Common.{◌≡◌, ◌-◌, ◌^◌, ◌<◌}
use Rattle.aig_format.specs.Parse.{parse_delta}
use Rattle.aig_lexer.specs.Takes.{feed}
use Rattle.aig_lexer.proofs.Deltas.{groups_following}
use Rattle.aig_lexer.proofs.Going.{GoesOn}
use Rattle.aig_refutation.proofs.binary.read_code.Given as goal

abbrev pub invariant-loop : goal.invariant-loop
invariant-loop g l = record {
  goes_on : GoesOn parse_delta (feed g.R.Source.left g.R.Source.failed g.R.Source.pulls l.fn.buffer
      l.fn.r) (groups_following l.code l.place (5 - l.counter)) (feed g.R.Source.left
      g.R.Source.failed g.R.Source.pulls l.buffer l.r);
  small : l.code < l.place;
  place : l.place ≡ 128 ^ l.counter;
}
