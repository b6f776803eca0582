use Rattle.std.proofs.Common.{◌≡◌, []}
use Rattle.std.specs.List.{All, Contains}
use Rattle.aig_refutation.specs.Tables.{IsMovedUpTo, IsNumbering}
use Rattle.aig_refutation.proofs.numbered.take_live.Given as goal

abbrev pub invariant-loop-i : goal.invariant-loop-i
invariant-loop-i l = record {
  there : All (Contains l.clauses) l.live;
  moved : l.fn.live_numbers.items ≡ [] → IsNumbering l.clauses l.numbers l.fn.places.items →
      IsMovedUpTo l.i l.clauses l.fn.places.items l.live l.live_numbers.items l.places.items;
}
