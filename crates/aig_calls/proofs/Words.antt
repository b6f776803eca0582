-- Words that proofs share, from one place.
pub use Rattle.aig_base.proofs.Words.{All-drop, All-same, All-take, All-weaker, Bool, Contains-get_or, Err, Global, List, Ok, Option, Result, Some, Vec, [], ap, arith, codes, drop, false, flat_map, get_or, length, map, map-map, range_with_len, refl, rules, same_Some, slice_index, suc, sym, take, take_all, true, zero, zero-add, ℕ, ◌*◌, ◌++◌, ◌+◌, ◌-◌, ◌<◌, ◌^◌, ◌∙◌, ◌∷◌, ◌≡◌, ◌≢◌, ◌≤◌}
pub use Rattle.aig_base.specs.Clauses.{lit_to}
pub use Rattle.aig_calls.specs.Calls.{AtStep, GivesItems, GivesListing, MakesEdit, MakesInfo, MakesJoint, MakesLive, MakesQuestion, MakesReduction, MakesRounds, Prints, RunsClauses, RunsOn, RunsTool, TellsBad, TellsLasso, form_of, RunsCertificate}
pub use Rattle.aig_calls.specs.Listings.{text_in}
pub use Rattle.aig_calls.specs.Memory.{On, Reader, Writer, bytes_of, has_failed, held}
pub use Rattle.aig_calls.specs.Numbers.{edge_number, input_numbers, variable_number}
pub use Rattle.aig_circuit.specs.Circuit.{Circuit, IsCircuit, IsInRange, IsLatch, IsLeaf}
pub use Rattle.aig_circuit.specs.declared.edge.AigEdge.{AigEdge}
pub use Rattle.aig_circuit.specs.declared.node.AigLatch.{AigLatch}
pub use Rattle.aig_giving.specs.Given.{IsGiven}
pub use Rattle.aig_giving.specs.Numbers.{clause_numbers, dimacs_number}
pub use Rattle.aig_giving.specs.Statuses.{read_status}
pub use Rattle.aig_giving.specs.declared.status.TheConstants.{DONE, SMALL}
pub use Rattle.aig_witness_circuits.specs.declared.condition.Condition.TheVariants.{Base, Step}
pub use Rattle.aig_tool_commands.specs.declared.tool.TheConstants.{LIMIT}
pub use Rattle.aig_unroll.specs.Places.{place_at}
pub use Rattle.std.proofs.Common.{Bor}
pub use Rattle.std.specs.Prelude.{IfOk, negsuc, pos, ℤ}
