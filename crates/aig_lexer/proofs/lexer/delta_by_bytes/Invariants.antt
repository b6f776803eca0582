use Rattle.std.proofs.Common.{◌≡◌, ◌-◌, ◌^◌, ◌<◌}
use Rattle.aig_format.specs.Parse.{parse_delta}
use Rattle.aig_lexer.specs.Takes.{feed}
use Rattle.aig_lexer.proofs.Deltas.{groups_following}
use Rattle.aig_lexer.proofs.Going.{GoesOn}
use Rattle.aig_lexer.proofs.lexer.delta_by_bytes.Given as goal

abbrev pub invariant-loop : goal.invariant-loop
invariant-loop g l = record {
  goes_on : GoesOn parse_delta (feed g.R.Source.left g.R.Source.failed g.R.Source.pulls l.fn.buffer l.fn.r) (groups_following l.difference l.place (5 - l.counter)) (feed g.R.Source.left g.R.Source.failed g.R.Source.pulls l.buffer l.r);
  small : l.difference < l.place;
  place : l.place ≡ 128 ^ l.counter;
}
