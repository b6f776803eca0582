-- Words that proofs share, from one place.
pub use Rattle.aig_base.proofs.Words.{All, All-append, All-cons, All-contains, All-contains_itself, All-filter, All-head, All-map, All-nil, All-push, All-same, All-tail, All-take, All-weaker, AllPairs, AllPairs-filter, AllPass-from_list_all, Bool, Contains, Contains-append_cases, Contains-append_left, Contains-append_right, Contains-get_or, Contains-push, Contains-push_cases, Global, IfOk-weaker, IfSome, IsTrue, List, MatchOption, None, Option, Some, Vec, [], add-one, all_pairs_push, and-true, and_assoc, ap, append-nil, append_assoc, ap₂, arith, below_more, cases_eq, cases_lt, cond, contains_key, drop, drop_all, drop_more, eq-eqb, eqb-true, err_from_is_err_and, false, false≢true, filter, filter_passes, fun_ext, get-empty, get_or, get_or-map, get_or-replicate, get_or-set_other, get_or-set_same, get_or-take, get_or_append_left, get_or_default, inl, inr, is_some, length, length-append, length-map, length-replicate, length-set, length-take, list_all, list_all-append, list_any, list_any-append, map, map-append, nat_cmp, ne_eqb, not, option_map, or-false, refl, replicate, same_Some, set, slice_get-get_or, string_bytes, subst, suc, sum_by-set, sym, take, take_all, take_at, take_more, true, vec_len, zero, zip, ℕ, ◌&&◌, ◌*◌, ◌++◌, ◌+◌, ◌/◌, ◌<◌, ◌==◌, ◌||◌, ◌↔◌, ◌∙◌, ◌∷◌, ◌≡◌, ◌≢◌, ◌≤◌, ◌⊎◌}
pub use Rattle.aig_circuit.proofs.Building.{AddsGates-with_node, GivesEdge-AddsGate, GivesEdge-Folds, Grows-itself, Grows-leaf, Grows-then}
pub use Rattle.aig_circuit.proofs.Circuits.{AllPairs-append, IsCircuit-only_false, latch_leaves-leaves}
pub use Rattle.aig_circuit.proofs.Joining.{GivesEdge-both_or_neither, GivesEdge-inverse, GivesEdge-same, edge_value-inverse, inverse_twice, true_where_equal}
pub use Rattle.aig_circuit.proofs.Lists.{All-first, All-from_map, All-second}
pub use Rattle.aig_circuit.proofs.Trees.{kind_at-last, kind_at-read, kind_at-there, kind_at-within, node_value-and, node_value-false, node_value-leaf}
pub use Rattle.aig_circuit.proofs.Values.{edge_value_by_leaves}
pub use Rattle.aig_circuit.proofs.Words.{AddsGates, AreNodes, Circuit, FoldsOrAdds, GivesEdge, Grows, HasConstantInit, IfAnd, IsCircuit, IsFanin, IsInRange, IsInitial, IsLatch, IsLeaf, IsRun, JoinsByAnd, and_of, edge_to, edge_value, inverse, inverted_if, is_in, kind_at, latch_leaves, lists_circuit, no_properties, node_value, only_false, step}
pub use Rattle.aig_circuit.specs.Build.{FoldsOrAddsAll, FoldsOrAddsEq, JoinsFromLeft, with_node}
pub use Rattle.aig_circuit.specs.Marks.{IsMarked}
pub use Rattle.aig_circuit.specs.Reach.{IsReached, root}
pub use Rattle.aig_circuit.specs.View.{names_of}
pub use Rattle.aig_circuit.specs.declared.edge.AigEdge.{AigEdge}
pub use Rattle.aig_circuit.specs.declared.node.AigLatch.{AigLatch}
pub use Rattle.aig_circuit.specs.declared.node.AigNode.{AigNode}
pub use Rattle.aig_circuit.specs.declared.node.AigNodeType.{AigNodeType}
pub use Rattle.aig_circuit.specs.declared.node.AigNodeType.TheVariants.{And, False, Leaf}
pub use Rattle.aig_join.specs.Pairs.{IsGoodState, MeetsConstraints}
pub use Rattle.aig_reader.specs.Reading.{node_told}
pub use Rattle.aig_renumber.proofs.Kept.{is_in-back, is_in-there}
pub use Rattle.aig_renumber.proofs.Places.{Contains-map, Contains-map_back}
pub use Rattle.aig_runs.specs.Safety.{IsCircuitSafeAt}
pub use Rattle.aig_witness_circuits.specs.Claims.{constraint_claims, good_claims, move_claim, move_claims, start_claim, start_claims, start_image}
pub use Rattle.aig_witness_circuits.specs.Circles.{AllGrounded, AreResets, HasCircle, HoldsResets, IsAtRest, IsGrounded, IsNew, IsSearch, IsTable, Leads, Opens, Rests, Settles, Turns, closed_count, grounded, reset_at, work_of}
pub use Rattle.aig_witness_circuits.specs.Circular.{IsCircular, IsReset, RestsOn}
pub use Rattle.aig_witness_circuits.specs.Exact.{Listed, Made, asked_base, asked_of, asked_property, asked_reset, asked_step, asked_transition, beside, copy_after, frame_in, listed_in, made_by, made_in, make_all, make_and, make_ands, make_base, make_claim, make_equal, make_property, make_refuting, make_reset, make_step, make_transition, model_leaf, moved, moved_beside, next_leaves, no_leaf, own_latches, question_of, shared_leaves, with_bad, with_claims, with_made}
pub use Rattle.aig_witness_circuits.specs.Frames.{AreCircuits, HasImage, IsClaimIn, MarksShared, given_at, is_marked, own_among}
pub use Rattle.aig_witness_circuits.specs.Marked.{AddsNamed, IsAt, IsRefused, Marks, MarksNodes}
pub use Rattle.aig_witness_circuits.specs.Named.{AreNamed, HasNoMapping, IsFault, IsFor, IsLiteralOf, IsMapping, IsNamed, Names, Shares, SharesByName, in_order, sharing_prefix}
pub use Rattle.aig_witness_circuits.specs.Questions.{AsksIf, CanShareLeaves, Holds, IsNeverTrue}
pub use Rattle.aig_witness_circuits.specs.Simulation.{Agrees, AllOwn, BaseHolds, CanStart, IsCertificate, IsMove, IsOwn, IsSharing, PropertyHolds, ResetHolds, Sharing, Starts, StepHolds, TakesNext, TransitionHolds}
pub use Rattle.aig_witness_circuits.specs.Stratified.{IsInOrder, IsIndependent, IsStratified}
pub use Rattle.aig_witness_circuits.specs.declared.claims.Claim.{Claim}
pub use Rattle.aig_witness_circuits.specs.declared.claims.Claim.TheVariants.{Edge, Equal}
pub use Rattle.aig_witness_circuits.specs.declared.condition.Condition.{Condition}
pub use Rattle.aig_witness_circuits.specs.declared.condition.Condition.TheVariants.{Base, Property, Reset, Step, Transition}
pub use Rattle.aig_unroll.proofs.Added.{following-are, following-distinct, following-have, no_node}
pub use Rattle.aig_unroll.proofs.Copied.{edge_value-image_in}
pub use Rattle.aig_unroll.proofs.Pushed.{made_pushed}
pub use Rattle.aig_unroll.proofs.Table.{no_latch}
pub use Rattle.aig_unroll.specs.Frame.{Frame, folded, frame_to, image_at, image_in, next_of, with_copy, with_folded}
pub use Rattle.std.proofs.Common.{Bor, if◌then◌else◌, lit<, take}
pub use Rattle.std.proofs.lemmas.List.{get_or_past, get_or_push}
pub use Rattle.std.proofs.lemmas.List.Elements.{All-pop, filter_more}
pub use Rattle.std.specs.FinMap.{get}
pub use Rattle.std.specs.Prelude.{MatchBool, is_none}
pub use Rattle.std.proofs.lemmas.List.Sums.{list_all-from_AllPass}
pub use Rattle.std.proofs.Math.Bool.{not-not}
pub use Rattle.std.specs.Bool.{beq}
pub use Rattle.std.specs.Cmp.{booleans_Decides}
pub use Rattle.std.specs.Option.{option_or}
pub use Rattle.aig_join.proofs.Partners.{or-none}
pub use Rattle.aig_change.proofs.Lists.{list_all-agrees}
pub use Rattle.aig_circuit.proofs.Edges.{literals-same}
