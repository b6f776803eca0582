use Rattle.std.proofs.Common.{◌≡◌, ◌+◌, ◌++◌, ◌<◌, ◌^◌, ℕ, List, take}
use Rattle.aig_format.specs.Parse.{parse_digits}
use Rattle.aig_lexer.proofs.lexer.digits_in.Given as goal

abbrev pub invariant-loop-i : goal.invariant-loop-i
invariant-loop-i l = record {
  small : l.value < 10 ^ (l.i + 1);
  digits : l.i < 9 → (rest : List ℕ) → parse_digits l.fn.first (take l.i l.fn.bytes ++ rest) ≡ parse_digits l.value rest;
}
