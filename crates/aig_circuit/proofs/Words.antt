-- Words of circuits that proofs share, from one place.
pub use Rattle.aig_circuit.specs.Build.{AddsGate, AddsGateForEach, AddsGates, Folds, FoldsOrAdds, FoldsOrAddsAll, FoldsOrAddsEq, GivesEdge, Grows, JoinsByAnd, JoinsByOr, JoinsFromLeft, false_first, false_second, opposite, same, true_first, true_second, with_node}
pub use Rattle.aig_circuit.specs.Circuit.{AreNodes, Circuit, HasFreeLeaf, IsCircuit, IsClosed, IsFree, IsInRange, IsLatch, IsLeaf, latch_leaves, only_false}
pub use Rattle.aig_circuit.specs.Edge.{edge_to, inverse, inverted_if, lit_of, literal_of}
pub use Rattle.aig_circuit.specs.Edges.{HasConstantInit, HasNonConstantInit, ReferTo, initial_edges, latch_edges, nodes_of, property_edges, roots_of}
pub use Rattle.aig_circuit.specs.Marks.{AddsEdgeMarks, IsMarked}
pub use Rattle.aig_circuit.specs.Node.{FitsBelow, IfAnd, IsAnd, IsOrdered, and_of, gates_of, is_gate, kind_at}
pub use Rattle.aig_circuit.specs.PropLists.{edges_of, with_edges}
pub use Rattle.aig_circuit.specs.Properties.{AllProperties, AreProperties, Properties, append_properties, entries_of, map_properties, no_properties}
pub use Rattle.aig_circuit.specs.Reach.{DependsOn, IsFanin, IsInCone, IsReached, root, step}
pub use Rattle.aig_circuit.specs.Reencode.{IsReencoded, gate_number, new_number, order_of, reencoded}
pub use Rattle.aig_circuit.specs.Renumber.{is_in, kept_circuit, nodes_in_order, only_kept, position_of, renumbered_circuit, renumbered_edge, renumbered_kind, renumbered_latch, renumbered_names}
pub use Rattle.aig_circuit.specs.Runs.{AgreeOnLeaves, AreAsLong, HaveSameValues, IsInitial, IsRun, KeepsRuns, is_leaf, next_edges}
pub use Rattle.aig_circuit.specs.Tree.{AndTree, LeafTree, Tree, edge_value, node_value, tree_of, tree_of_kind}
pub use Rattle.aig_circuit.specs.View.{lists_circuit, names_of, properties_of}
