use Rattle.std.proofs.Common.{◌≡◌, ◌-◌, ◌++◌, ◌<◌, ◌^◌, ℕ, List, take}
use Rattle.aig_format.specs.Parse.{parse_delta}
use Rattle.aig_lexer.proofs.Deltas.{groups_following}
use Rattle.aig_lexer.proofs.lexer.delta_in.Given as goal

abbrev pub invariant-loop-i : goal.invariant-loop-i
invariant-loop-i l = record {
  groups : (rest : List ℕ) → parse_delta (take l.i l.bytes ++ rest) ≡ groups_following l.difference l.place (5 - l.i) rest;
  small : l.difference < l.place;
  place : l.place ≡ 128 ^ l.i;
}
