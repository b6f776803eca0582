use Rattle.std.proofs.Common.{◌≡◌, ◌+◌, ◌≤◌, ◌++◌, length, map, take, vec_len, vec_capacity}
use Rattle.aig_base.proofs.logic.far_clauses.append_shifted.Given as goal

abbrev pub invariant-loop-end : goal.invariant-loop-end
invariant-loop-end l = record {
  so_far : l.ends.items ≡ l.fn.ends.items ++ map (λ end. l.fn.by + end) (take l.end-index l.others);
  room : vec_len l.ends + length l.others ≤ vec_capacity l.ends + l.end-index;
}
