use Rattle.std.proofs.Common.{◌≡◌, ◌+◌, ◌≤◌, ◌∷◌, length, map, take, vec_len, vec_capacity}
use Rattle.aig_base.specs.Clauses.{inverse_lit}
use Rattle.aig_base.proofs.logic.clauses.with_inverses.Given as goal

abbrev pub invariant-loop-lit : goal.invariant-loop-lit
invariant-loop-lit l = record {
  so_far : l.clause.items ≡ l.fn.first ∷ map inverse_lit (take l.lit-index l.others);
  room : vec_len l.clause + length l.others ≤ vec_capacity l.clause + l.lit-index;
}
