-- Words that proofs share, from one place.
pub use Rattle.aig_answers.specs.Answers.{IsCircuitQuery, IsOfQuery, query_with}
pub use Rattle.aig_answers.specs.Asking.{AsksOfBads, IsOfWitness, IsSettled}
pub use Rattle.aig_answers.specs.Plans.{AnswersAt, AreUnread, CanBeAsked, ChecksCircuit, HasNone, IsHeld, Makes, Tells, asked_with, clauses_only, room_of}
pub use Rattle.aig_answers.specs.declared.bounded_checks.clauses.BoundedClauses.{BoundedClauses}
pub use Rattle.aig_answers.specs.declared.bounded_checks.error.BoundedAnswerError.{BoundedAnswerError}
pub use Rattle.aig_answers.specs.declared.error.AnswerError.{AnswerError}
pub use Rattle.aig_answers.specs.declared.plans.asking.Question.{Question}
pub use Rattle.aig_answers.specs.declared.windows.WindowClauses.{WindowClauses}
pub use Rattle.aig_base.proofs.Words.{All, All-cons, All-drop, All-nil, All-weaker, AllByRecursion, Appends, Appends-trans, Bool, Consumes, Consumes-whole, Contains-get_or, Err, Global, Keeps, List, None, Ok, Option, Some, String, Vec, [], ap, ap₂, arith, codes, cond, enumerate_from, eqb-true, err_from_is_err_and, false, false_from_ne_true, false≢true, flat_map, fun_ext, get_or, inl, inr, length, length-append, length-enumerate_from, length-map, map, map-append, map-map, map_more, on_err_weaker, on_ok_weaker, range_with_len, refl, same_Some, slice_get-get_or, string_bytes, subst, suc, sym, take, take_all, take_rest, true, true≢false, zero, zip, ℕ, ◌*◌, ◌++◌, ◌+◌, ◌<◌, ◌^◌, ◌↔◌, ◌∙◌, ◌∷◌, ◌≡◌, ◌≢◌, ◌≤◌, ◌⊎◌}
pub use Rattle.aig_base.specs.Clauses.{lit_to, variable_of}
pub use Rattle.aig_base.specs.Formula.{clauses_in}
pub use Rattle.aig_base.specs.declared.logic.literal.Lit.{Lit}
pub use Rattle.aig_check_commands.specs.Acting.{Acts, RanOn}
pub use Rattle.aig_check_commands.specs.Bounded.{letter_of, place_line}
pub use Rattle.aig_check_commands.specs.CommandWords.{AreCommand, FitNone, Give, IsAlone, IsCall, IsOf, IsOnWitness, IsWhole, beside_of, command_of, form_of, name_of, of_both, paths_of, prints, raw_alone, raw_word, under, witness_form, witness_name}
pub use Rattle.aig_check_commands.specs.Comments.{bad_line, input_line, latch_comment}
pub use Rattle.aig_check_commands.specs.Explaining.{IsRefusedIn, Stream, bytes_of, has_failed, keeps_nothing, never_fails}
pub use Rattle.aig_check_commands.specs.FileSubjects.{AskForNone, GiveFairness, GiveNumbers, GiveSubject, IsNumberFirst, IsNumbered, fair_subject, fairness_word, is_asked, is_fair, subject_word}
pub use Rattle.aig_check_commands.specs.Opening.{AreOpened, OnOpening, OpensAll, unopened}
pub use Rattle.aig_check_commands.specs.Pairs.{AnswersObligations, IsObligationsText, formula_of, obligation_verdicts, part_text}
pub use Rattle.aig_check_commands.specs.EqualLines.{always_line, comparison_text, equal_line, starts_text}
pub use Rattle.aig_check_commands.specs.Printed.{EndsWith, Printed}
pub use Rattle.aig_check_commands.specs.Printing.{GivesSummed, IsKnownText, IsSolutionOf, IsTextOf, IsTextOfQuestion, WritesBehind, after_writing, clauses_with}
pub use Rattle.aig_check_commands.specs.Questions.{AnswersQuestion, ArePrinted, HasNoClauses, IsMadeOwn, IsQuestionText, TellsOfClauses, made_verdict}
pub use Rattle.aig_check_commands.specs.Running.{Answers, ChecksFile, IsAskedBy, IsErrorOf, IsOfFileAlone, Runs, TellsOfGiven, TellsOfQuestion, TellsOfSolution, error_of_claim, file_verdict, shown_line, verdict_of}
pub use Rattle.aig_check_commands.specs.Simulating.{IsErrorOfObligation, IsErrorOfSimulated, IsObligationText, LeavesProof, TellsOfSimulated, refusal_of}
pub use Rattle.aig_check_commands.specs.Sums.{IsSum, Sums, summed_text}
pub use Rattle.aig_check_commands.specs.Titles.{asked_text, beside_text, form_text, numbered_text, raw_text, topic_text}
pub use Rattle.aig_check_commands.specs.Titling.{condition_title, pair_title, title_of}
pub use Rattle.aig_check_commands.specs.Under.{source_of}
pub use Rattle.aig_check_commands.specs.declared.command.Action.{Action}
pub use Rattle.aig_check_commands.specs.declared.command.Asked.{Asked}
pub use Rattle.aig_check_commands.specs.declared.command.Command.{Command}
pub use Rattle.aig_check_commands.specs.declared.command.FileCommand.{FileCommand}
pub use Rattle.aig_check_commands.specs.declared.command.WitnessAction.{WitnessAction}
pub use Rattle.aig_check_commands.specs.declared.error.CheckError.{CheckError}
pub use Rattle.aig_check_commands.specs.declared.lines.titles.title.Title.{Title}
pub use Rattle.aig_circuit.proofs.Words.{IsCircuit, IsLeaf, Properties, edge_to, lit_of, no_properties, only_false}
pub use Rattle.aig_circuit.specs.Circuit.{Circuit, IsInRange, IsLatch, latch_leaves}
pub use Rattle.aig_circuit.specs.View.{lists_circuit}
pub use Rattle.aig_circuit.specs.declared.edge.AigEdge.{AigEdge}
pub use Rattle.aig_circuit.specs.declared.node.AigNodeType.TheVariants.{False, Leaf}
pub use Rattle.aig_cnf.specs.Cnf.{HasClauses}
pub use Rattle.aig_command_line.proofs.Kept.{appends_kept, said_unflushed, stops_unflushed}
pub use Rattle.aig_command_line.specs.Arguments.{Arguments, GivesArguments, further_of, setting_words}
pub use Rattle.aig_command_line.specs.Ending.{WritesLine, ended}
pub use Rattle.aig_command_line.specs.Limits.{IsLimited}
pub use Rattle.aig_command_line.specs.declared.discarded.Discarded.{Discarded}
pub use Rattle.aig_command_line.specs.declared.files.OpenError.{OpenError}
pub use Rattle.aig_dimacs.proofs.Comments.{ArePassed, StaysInside, decimal_inside, ends-append, ends-line_feed, inside-append, inside-cons, line_passed, parse_formula-passed, passed-append, passed-flat_map, sign_inside}
pub use Rattle.aig_dimacs.proofs.Reading.{parse_formula-dimacs_of}
pub use Rattle.aig_dimacs.specs.Text.{IsFormula, IsTextWith, sign_of}
pub use Rattle.aig_edits.proofs.ConstraintWords.{one_constraints}
pub use Rattle.aig_edits.proofs.ReadFiles.{file_on}
pub use Rattle.aig_edits.specs.Edits.{IsEditOwn, ReadsFile, edit_verdict}
pub use Rattle.aig_edits.specs.declared.edit_error.EditError.{EditError}
pub use Rattle.aig_format.proofs.Words.{Accepts}
pub use Rattle.aig_format.specs.Circuit.{circuit_of, text_of}
pub use Rattle.aig_format.specs.Writable.{FitsFormat}
pub use Rattle.aig_format.specs.File.{File}
pub use Rattle.aig_format.specs.Text.{IsNumber, value_of}
pub use Rattle.aig_join.specs.declared.comparison.Comparison.{Comparison}
pub use Rattle.aig_join.specs.declared.comparison.Constraints.{Constraints}
pub use Rattle.aig_join.specs.declared.comparison.Constraints.TheVariants.{Compared, OfBoth, OfFirst}
pub use Rattle.aig_join.specs.declared.starts.Matching.TheVariants.{ByName, ByOrder}
pub use Rattle.aig_join.specs.declared.starts.Starts.TheVariants.{Alike, Apart}
pub use Rattle.aig_output.proofs.Putting.{Buffers-trans, Buffers-turn, Stops-before, Stops-put, all_done, failed_among, failed_first, failed_put, failed_turn, then_call, written_through}
pub use Rattle.aig_output.specs.Sinks.{Buffers, BuffersOrStops, Stops, WritesOrStops}
pub use Rattle.aig_reader.proofs.Verdicts.{of_no_file, short_of}
pub use Rattle.aig_reader.specs.Reading.{IsReadAs}
pub use Rattle.aig_reader.specs.Verdicts.{Accepted, IsOfFile, Judges, Verdict}
pub use Rattle.aig_reader.specs.declared.error.ReadError.{ReadError}
pub use Rattle.aig_refutation.specs.declared.error.RefutationError.{RefutationError}
pub use Rattle.aig_runs.specs.Queries.{last_bads}
pub use Rattle.aig_runs.specs.declared.window.Window.{Window}
pub use Rattle.aig_witness_circuit_checks.specs.Simulated.{IsOwn, Proofs, TellsOfCondition, proof_for, proofs_of}
pub use Rattle.aig_witness_circuit_checks.specs.Witnesses.{ReadsWitness}
pub use Rattle.aig_witness_circuits.specs.Names.{condition_name}
pub use Rattle.aig_witness_circuits.specs.declared.condition.Condition.{Condition}
pub use Rattle.aig_subjects.specs.declared.subject.FileSubject.{FileSubject}
pub use Rattle.aig_unroll.specs.Places.{place_at}
pub use Rattle.aig_unroll.specs.Unroll.{UnrollsTo}
pub use Rattle.aig_witness.specs.Claims.{RefusesClaim, ShowsClaim}
pub use Rattle.hex.specs.Hex.{encode_lower, lower_digits}
pub use Rattle.std.proofs.Common.{append_assoc, decimal, rules, zero-add, ◌%◌, ◌/◌, ◌==◌}
pub use Rattle.std.proofs.Math.Logic.{∥∥₁_elim, ∥∥₁_map}
pub use Rattle.std.proofs.lemmas.List.FromFn.{get_or-enumerate_from, get_or-range_with_len, length-range_with_len}
pub use Rattle.std.proofs.lemmas.Option.{slice_get-map, slice_get_within}
pub use Rattle.std.proofs.lemmas.Slice.Zip.{get_or-zip, length-zip, zip_end, zip_turn}
pub use Rattle.std.specs.Io.KnownBytes.{IsAtEnd}
pub use Rattle.std.specs.List.{insert, remove}
pub use Rattle.std.specs.Prelude.{Contains, IfErr, IfNone, IfSome, IsErr, IsErrOf, IsTrue, Result, drop, not, option_map, replicate, slice_get, slice_index, slice_index_or}
