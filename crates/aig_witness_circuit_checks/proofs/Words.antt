-- Words that proofs share, from one place.
pub use Rattle.aig_answers.specs.Answers.{IsCircuitQuery, query_with}
pub use Rattle.aig_base.proofs.Words.{Bool, Err, Global, IfErr, IfSome, IsAtEnd, IsErrOf, IsTrue, List, None, Ok, OnOk, Option, Result, Some, Vec, [], ap, arith, codes, empty, eq-eqb, err_from_is_err_and, false, false≢true, fun_ext, length, refl, slice_index_or, subst, sym, true, vec_len, ℕ, ◌*◌, ◌-◌, ◌<◌, ◌==◌, ◌^◌, ◌∙◌, ◌∷◌, ◌≡◌, ◌≢◌, ◌≤◌}
pub use Rattle.aig_circuit.proofs.Words.{edge_to, no_properties}
pub use Rattle.aig_circuit.specs.Circuit.{Circuit, IsCircuit}
pub use Rattle.aig_circuit.specs.View.{lists_circuit}
pub use Rattle.aig_circuit.specs.declared.edge.AigEdge.{AigEdge}
pub use Rattle.aig_edits.specs.Edits.{IsEditOwn, ReadsFile, edit_verdict}
pub use Rattle.aig_edits.specs.declared.edit_error.EditError.{EditError}
pub use Rattle.aig_format.proofs.Words.{Accepts, File, circuit_of}
pub use Rattle.aig_reader.specs.Reading.{IsReadAs, node_in, node_told}
pub use Rattle.aig_reader.specs.Resets.{AcceptsWithResets, AreListsWithResets, SaysWhy, circuit_with_resets}
pub use Rattle.aig_reader.specs.Verdicts.{Accepted, Judges}
pub use Rattle.aig_witness_circuit_checks.specs.Conditions.{ChecksClaim, GivesModel, HoldsIn, IsAsked, TellsAt}
pub use Rattle.aig_witness_circuit_checks.specs.Simulated.{Certifies, ChecksModel, Claims, ClaimsNothing, IsClaim, IsNoQuestion, IsOfClaim, IsOfObligation, IsOwn, IsQuestionOf, LeavesProof, MakesClaim, OfModel, Proofs, TellsOfQuestion, file_error, node_of, proof_for, proofs_of, question_in, refusal_of, turn_of}
pub use Rattle.aig_witness_circuit_checks.specs.Witnesses.{ReadsWitness, file_verdict, part_of}
pub use Rattle.aig_witness_circuit_checks.specs.declared.claim.Claim.{Claim}
pub use Rattle.aig_witness_circuit_checks.specs.declared.error.ConditionError.{ConditionError}
pub use Rattle.aig_witness_circuit_checks.specs.declared.error.SimulationError.{SimulationError}
pub use Rattle.aig_witness_circuits.specs.Circular.{IsCircular}
pub use Rattle.aig_witness_circuits.specs.Exact.{model_leaf, question_of}
pub use Rattle.aig_witness_circuits.specs.Named.{IsFor, Shares}
pub use Rattle.aig_witness_circuits.specs.Simulation.{CanStart, IsCertificate, Sharing}
pub use Rattle.aig_witness_circuits.specs.declared.condition.Condition.{Condition}
pub use Rattle.aig_witness_circuits.specs.declared.condition.Condition.TheVariants.{Base, Property, Reset, Step, Transition}
