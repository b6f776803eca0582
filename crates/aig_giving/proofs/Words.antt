-- Words that proofs share, from one place.
pub use Rattle.aig_base.proofs.Words.{All, List, Some, [], ap, append-nil, append_assoc, arith, flat_map, get_or, get_or_from_slice_get, length, map, map-append, rules, slice_get, subst, suc, sym, take, take_all, take_more, zero, ℕ, ◌++◌, ◌+◌, ◌-◌, ◌<◌, ◌^◌, ◌∙◌, ◌∷◌, ◌≡◌, ◌≤◌}
pub use Rattle.aig_base.specs.Clauses.{AreBelow, variable_of}
pub use Rattle.aig_giving.specs.Numbers.{clause_numbers, dimacs_number}
pub use Rattle.std.specs.Prelude.{pos}
