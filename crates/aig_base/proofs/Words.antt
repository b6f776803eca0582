-- Words of std that proofs share, from one place.
pub use Rattle.std.proofs.Common.{Bool, Err, Global, IsTrue, List, None, Ok, Option, Result, Some, String, Vec, [], add-one, ap, append-nil, append_assoc, ap₂, arith, below_more, cond, drop, eqb, false, get_or, get_or-set_other, get_or-set_same, inl, inr, leb, length, length-append, length-drop, ltb, map, max, nat_cmp, not, refl, replicate, rules, set, subst, suc, sum, sym, take, take-append-drop, true, vec_len, zero, zero-add, ℕ, ◌%◌, ◌&&◌, ◌*◌, ◌++◌, ◌+◌, ◌-◌, ◌/◌, ◌<◌, ◌^◌, ◌||◌, ◌↔◌, ◌∙◌, ◌∷◌, ◌≡◌, ◌≢◌, ◌≤◌, ◌⊎◌}
pub use Rattle.std.proofs.KnownBytes.{Appends-trans, Consumes-trans, Consumes-whole, prepend_known-nil}
pub use Rattle.std.proofs.Math.Bool.{and-true, and_assoc, and_comm, or-false}
pub use Rattle.std.proofs.Math.Nat.{add-mul, mul-le-mul_right, pow-succ', suc-mul}
pub use Rattle.std.proofs.Math.Path.{fun_ext}
pub use Rattle.std.proofs.Math.Seq.{get_or-append_seam, take-append_seam}
pub use Rattle.std.proofs.lemmas.Bool.{and_from, and_parts, and_right, cases_eq, cases_lt, cond-false, cond-true, eq-eqb, eqb-false, eqb-true, false_from_ne_true, false≢true, le-leb, le-ltb, leb-true, lt-leb, lt-ltb, ltb-false, ltb-true, ne_eqb, not-true, or_cases, or_parts, or_right, true_from_ne_false, true≢false}
pub use Rattle.std.proofs.lemmas.Bool.Decides.{Decides-eqb, nat_tests}
pub use Rattle.std.proofs.lemmas.Cmp.{nat_cmp_total, nat_eq_equiv}
pub use Rattle.std.proofs.lemmas.Fmt.{length-decimal-le}
pub use Rattle.std.proofs.lemmas.Grind.{common_steps, pow_more}
pub use Rattle.std.proofs.lemmas.List.{drop-drop, drop-take, drop_all, drop_at, drop_more, get_or-append-add, get_or-map, get_or-replicate, get_or-take, get_or_append_left, get_or_default, get_or_read, length-map, length-replicate, length-set, length-take, length-take-le, map-append, map-set, map_more, map_push, same_lists, take-append-le, take-take, take_all, take_at, take_more, take_more_set, take_rest, with_items_is}
pub use Rattle.std.proofs.lemmas.List.Concat.{flat_map-append, length-flat_map}
pub use Rattle.std.proofs.lemmas.List.Edits.{map_over_more}
pub use Rattle.std.proofs.lemmas.List.Elements.{All-append, All-cons, All-contains, All-contains_itself, All-drop, All-filter, All-from_recursion, All-get_or, All-head, All-map, All-nil, All-push, All-same, All-set, All-tail, All-take, All-weaker, Contains-append_cases, Contains-append_left, Contains-append_right, Contains-get_or, Contains-push, Contains-push_cases, filter-append, filter_map-append, filter_passes, recursion_from_All}
pub use Rattle.std.proofs.lemmas.List.Folds.{Any-from_list_any, flat_map-map, list_all-append, list_any-append, list_any_at, list_any_more}
pub use Rattle.std.proofs.lemmas.List.FromFn.{length-enumerate_from}
pub use Rattle.std.proofs.lemmas.List.Kept.{AllPairs-filter}
pub use Rattle.std.proofs.lemmas.List.Quantifiers.{all_pairs_push}
pub use Rattle.std.proofs.lemmas.List.Sums.{AllPass-from_list_all, count_by-le-length, length-filter, sum_by-set}
pub use Rattle.std.proofs.lemmas.Map.Lookups.{exact_unsigned}
pub use Rattle.std.proofs.lemmas.Map.Made.{IsDistinct-from_AllPairs, is_member-Decides, length-le_from_is_member}
pub use Rattle.std.proofs.lemmas.Map.Steps.{length-le_from_distinct_below}
pub use Rattle.std.proofs.lemmas.Map.Views.{Contains-from_any}
pub use Rattle.std.proofs.lemmas.Option.{IfSome_then, cond_some, get_or_from_slice_get, same_Some, slice_get-get_or, slice_get_past, slice_get_within}
pub use Rattle.std.proofs.lemmas.Result.{IfOk-from_err, IfOk-weaker, MatchResult-weaker, err_from_is_err_and, on_err_weaker, on_ok_weaker}
pub use Rattle.std.proofs.lemmas.Simd.{map-map}
pub use Rattle.std.proofs.lemmas.Slice.Zip.{AllZip-long}
pub use Rattle.std.specs.Cmp.Lexicographic.{same_text}
pub use Rattle.std.specs.FinMap.{FinMap, contains_key, empty, entries, from_entries, get, get-empty, get-entries, get-from_entries, get-insert, get-retain_keys, insert, nat_cmp-IsAntisymmetric, retain_keys, same_map}
pub use Rattle.std.specs.Fmt.{WritesInCalls}
pub use Rattle.std.specs.HashSet.{contains_text}
pub use Rattle.std.specs.Io.KnownBytes.{Appends, Consumes, IsAtEnd, Keeps, prepend_known}
pub use Rattle.std.specs.List.{AllByRecursion, AllZip, IsDistinct, cons_option, enumerate_from, flat_map, fold, list_all, list_any, range_with_len, sum_by, zip}
pub use Rattle.std.specs.Map.{lookup}
pub use Rattle.std.specs.Ordering.{eq_by_cmp}
pub use Rattle.std.specs.Prelude.{All, AllPairs, Any, Contains, IfErr, IfOk, IfSome, IsErrOf, IsSomeAnd, IsUtf8, MatchOption, OnErr, OnOk, codes, count_by, decimal, filter, filter_map, find, if◌then◌else◌, is_some, min, nat_eq, nat_le, nat_lt, option_map, option_to_list, slice_get, slice_index, slice_index_or, slice_set, string_bytes, unwrap_or, vec_capacity, ◌==◌}
pub use Rattle.std.specs.Set.{is_member}
pub use Rattle.std.specs.Str.{bytes_eq, is_utf8}
