-- Words that proofs share, from one place.
pub use Rattle.aig.specs.Reading.{IsFileCircuit}
pub use Rattle.aig_answers.specs.Answers.{AreWrittenFrom, AskWith, IsAsked, IsCircuitOf, IsCircuitQuery, IsOfQuery, IsSaidBy, IsUnrolledWindow, TellsOfCircuit, TellsOfProof, asked_verdict, query_with, verdict_of, window_size, without_names}
pub use Rattle.aig_answers.specs.Asking.{AreSaid, AreSolution, AsksBounded, AsksOfBads, IsAskedWithin, IsOfWitness, IsSaidOfBads, IsSettled, RefusesAnswer, RefusesSolution, TellsOfSize, assigned, bounded_verdict, is_true}
pub use Rattle.aig_answers.specs.CircuitVerdicts.{asks_verdict, circuit_verdict}
pub use Rattle.aig_answers.specs.Encoded.{HasName, IsEncoded, IsEncodedQuestion}
pub use Rattle.aig_answers.specs.Naming.{IsNamed, leaf_of}
pub use Rattle.aig_answers.specs.Plans.{AnswersAt, AreRefuted, AreTaken, AreUnread, Covers, HasNone, HasRoom, Includes, IsTooLarge, Makes, Tells, asked_with, plan_certified, plan_each, plan_to, room_by, room_of, size_of, step_questions}
pub use Rattle.aig_answers.specs.Said.{IsSaid, IsSaidStart, SaysRun, SaysValues, SaysWitness}
pub use Rattle.aig_answers.specs.Solving.{Begins, HasNoTrueIn, HasPlace, IsBlank, IsConstrained, IsOpenAt, IsReached, IsTrueIn, SaysAll, SaysOnly, WitnessWithin, after, put, start_value, value_at, value_of_init, value_said, with_value}
pub use Rattle.aig_answers.specs.declared.bounded_checks.clauses.BoundedClauses.{BoundedClauses}
pub use Rattle.aig_answers.specs.declared.bounded_checks.error.BoundedAnswerError.{BoundedAnswerError}
pub use Rattle.aig_answers.specs.declared.bounded_checks.naming.Named.{Named}
pub use Rattle.aig_answers.specs.declared.circuits.CircuitQuery.{CircuitQuery}
pub use Rattle.aig_answers.specs.declared.error.AnswerError.{AnswerError}
pub use Rattle.aig_answers.specs.declared.plans.asking.Ask.TheVariants.{Step}
pub use Rattle.aig_answers.specs.declared.plans.asking.Question.{Question}
pub use Rattle.aig_answers.specs.declared.plans.errors.Why.{Why}
pub use Rattle.aig_answers.specs.declared.windows.WindowClauses.{WindowClauses}
pub use Rattle.aig_base.proofs.Literals.{literal_value-lit_to, variable_of-lit_to}
pub use Rattle.aig_base.proofs.Words.{All, All-cons, All-contains, All-drop, All-from_recursion, All-get_or, All-map, All-nil, All-push, All-same, All-set, All-take, All-weaker, AllByRecursion, AllZip, AllZip-long, Any-from_list_any, Bool, Contains, Contains-get_or, Err, IfOk, IsErrOf, IsTrue, List, None, Ok, Option, Result, Some, [], add-mul, and_parts, ap, append-nil, append_assoc, ap₂, arith, below_more, cases_lt, cond, drop, eq-eqb, eqb, eqb-false, err_from_is_err_and, false, false≢true, get_or, get_or-append_seam, get_or_append_left, get_or_from_slice_get, if◌then◌else◌, inl, inr, le-ltb, leb, length, length-append, length-drop, length-map, length-set, length-take-le, list_all-append, list_any, lt-ltb, ltb-false, map, map-map, map_more, map_push, mul-le-mul_right, nat_lt, ne_eqb, not, on_ok_weaker, range_with_len, recursion_from_All, refl, same_Some, set, slice_get, slice_get-get_or, slice_get_within, slice_index, slice_index_or, subst, suc, sym, take, take_all, true, true_from_ne_false, with_items_is, zero, ℕ, ◌*◌, ◌++◌, ◌+◌, ◌-◌, ◌<◌, ◌==◌, ◌^◌, ◌||◌, ◌↔◌, ◌∙◌, ◌∷◌, ◌≡◌, ◌≢◌, ◌≤◌, ◌⊎◌}
pub use Rattle.aig_base.specs.Clauses.{AreBelow, AreRelations, Satisfies, are_true, is_positive, is_true_clause, lit_to, variable_of, with_polarity}
pub use Rattle.aig_base.specs.Formula.{IsSatisfiable, clauses_in}
pub use Rattle.aig_base.specs.declared.logic.literal.Lit.{Lit}
pub use Rattle.aig_base.specs.declared.logic.three.Lbool.{Lbool}
pub use Rattle.aig_base.specs.declared.logic.three.Lbool.TheVariants.{FALSE, NONE, TRUE}
pub use Rattle.aig_bounded.specs.Question.{IsPlace, IsQuestion, Reaches, ReadsPlaces, question_size}
pub use Rattle.aig_bounded.specs.declared.error.BoundedError.TheVariants.{Memory}
pub use Rattle.aig_bounded.specs.declared.place.Place.{Place}
pub use Rattle.aig_circuit.proofs.Circuits.{AreLeaves-of_circuit, latch_leaves-leaves}
pub use Rattle.aig_circuit.proofs.Lists.{All-from_map, AllZip-map}
pub use Rattle.aig_circuit.proofs.Trees.{kind_at-within, node_value-false}
pub use Rattle.aig_circuit.proofs.Words.{HasConstantInit, IsInRange, IsInitial, IsLeaf, IsRun, Properties, edge_to, edge_value, lit_of, no_properties, node_value, only_false}
pub use Rattle.aig_circuit.specs.Circuit.{Circuit, IsCircuit, IsClosed, latch_leaves}
pub use Rattle.aig_circuit.specs.Edge.{inverse}
pub use Rattle.aig_circuit.specs.View.{lists_circuit}
pub use Rattle.aig_circuit.specs.declared.edge.AigEdge.{AigEdge}
pub use Rattle.aig_circuit.specs.declared.node.AigLatch.{AigLatch}
pub use Rattle.aig_circuit.specs.declared.node.AigNode.{AigNode}
pub use Rattle.aig_circuit.specs.declared.node.AigNodeType.TheVariants.{False, Leaf}
pub use Rattle.aig_circuit.specs.declared.view.CircuitLists.{CircuitLists}
pub use Rattle.aig_cnf.proofs.Forms.{edge_in-inverse, literal_value-lit_of}
pub use Rattle.aig_cnf.specs.Cnf.{AreNeeded, FixesRoots, HasClauses, IsFixed, NodeValuesSatisfy, edge_in}
pub use Rattle.aig_edits.proofs.Reading.{reads_on}
pub use Rattle.aig_edits.specs.Joints.{IsJointOf}
pub use Rattle.aig_edits.specs.declared.pairing.Pairing.TheVariants.{Certificate}
pub use Rattle.aig_encode.proofs.Bads.{bads_room}
pub use Rattle.aig_encode.specs.Encoding.{IsQuery}
pub use Rattle.aig_format.proofs.Circuits.{IsCircuit-of_file}
pub use Rattle.aig_format.proofs.Entries.{rec_append}
pub use Rattle.aig_format.proofs.Words.{Accepts, File, Fits, IsMachineRun, LatchLine, circuit_of, edge_of, latch_of, node_of_variable, value_of_literal}
pub use Rattle.aig_format.specs.declared.FileKind.TheVariants.{Text}
pub use Rattle.aig_format_laws.proofs.Closed.{IsClosed-of_file}
pub use Rattle.aig_format_laws.proofs.Writable.{plain_starts}
pub use Rattle.aig_format_laws.specs.Nodes.{values_over}
pub use Rattle.aig_reader.proofs.Verdicts.{of_no_file, refused_again, said_of_read}
pub use Rattle.aig_reader.specs.Reading.{AreListsOf, IsReadAs}
pub use Rattle.aig_reader.specs.Verdicts.{Accepted, Crowded, IsOfFile, IsSaidOf, IsVerdictOn, Judges, NoBads, Short, TooLarge, TooMany, Verdict, verdict_by}
pub use Rattle.aig_reader.specs.declared.error.ReadError.{ReadError}
pub use Rattle.aig_runs.proofs.Below.{bads_count, edges_there, latchs_there, query_below, window_below}
pub use Rattle.aig_runs.proofs.Further.{Holds, clause_says, stand_all, stand_any, units_say}
pub use Rattle.aig_runs.proofs.Rows.{all_is, any_none, get-drop, next_row, rec_from_get}
pub use Rattle.aig_runs.proofs.SafeSteps.{safe_is}
pub use Rattle.aig_runs.proofs.Witnesses.{witness_back, witness_forth}
pub use Rattle.aig_runs.specs.CircuitQueries.{AsksOfCircuit, HasCircuitWitness, IsCircuitWitness}
pub use Rattle.aig_runs.specs.Encodes.{Encodes}
pub use Rattle.aig_runs.specs.Induction.{HasDistinctStates, IsKInductive, IsWindow, Regards}
pub use Rattle.aig_runs.specs.Queries.{IsQueryOf, IsSafeTo, IsThere, asking_clauses, last_bads, query_clauses, unit_clauses}
pub use Rattle.aig_runs.specs.Safety.{IsCircuitSafeAt, IsGood, IsSafeAt}
pub use Rattle.aig_runs.specs.Unrolled.{IsUnrolledOf, UnrolledCircuit, Unrolls}
pub use Rattle.aig_runs.specs.WindowClauses.{AsksWindow, apart_clauses, count_free, count_pairs, difference_clauses, distinct_clauses, first_bads, induction_clauses, pair_clauses, pairwise_clauses, state_at, state_edges, states_clauses, variables_from, watched, window_clauses}
pub use Rattle.aig_runs.specs.declared.window.Window.{Window}
pub use Rattle.aig_runs.specs.declared.window.Window.TheVariants.{Distinct, Plain}
pub use Rattle.aig_ternary.specs.Ternary.{HasValue, IsFilling, Simulation, given_values, simulation_of, stepped, stepped_all, value_for, value_in}
pub use Rattle.aig_unroll.proofs.Lists.{zip_at, zip_from}
pub use Rattle.aig_unroll.specs.Places.{Reads, unrolled_size}
pub use Rattle.aig_unroll.specs.Unroll.{HasValuesAtSteps, UnrollsTo}
pub use Rattle.aig_witness.specs.Shown.{AreStarts, AreTrueIn, HasStart, IsKnownWitness, known_of, named_bad}
pub use Rattle.aig_witness.specs.SolverAnswers.{GivesSolution, solution_in}
pub use Rattle.aig_witness.specs.Witness.{Witness, rows_of, said_by}
pub use Rattle.aig_witness.specs.declared.solutions.error.SolutionError.{SolutionError}
pub use Rattle.aig_witness.specs.declared.solutions.error.SolutionError.TheVariants.{NoBad}
pub use Rattle.std.proofs.Common.{mul_assoc, mul_comm, ◌%◌, ◌/◌}
pub use Rattle.std.proofs.lemmas.Bool.Decides.{eqb_tells, leb_tells}
pub use Rattle.std.proofs.lemmas.List.{get_or-append-add, get_or-map, get_or-set_other, get_or-set_same, get_or_default, length-replicate, map-set, replicate-append-replicate, take_more}
pub use Rattle.std.specs.FinMap.{FinMap}
pub use Rattle.std.specs.List.{position, position_or_len, take-map}
pub use Rattle.std.specs.Ordering.{nat_cmp}
pub use Rattle.std.specs.Prelude.{AllPairs, IfSome, MatchOption, Vec, replicate, ◌&&◌}
pub use Rattle.std.specs.declared.alloc.Global.{Global}
