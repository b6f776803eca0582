-- A reduced circuit is no larger.
use Rattle.aig_base.proofs.Words.{◌≡◌, ℕ, ◌≤◌, not, List, length, refl, ◌∙◌, arith, length-map, count_by-le-length, length-filter, filter}
use Rattle.std.proofs.lemmas.List.Filters.{length-filter_both}
use Rattle.aig_circuit.specs.declared.node.AigLatch.{AigLatch}
use Rattle.aig_circuit.specs.declared.node.AigNode.{AigNode}
use Rattle.aig_circuit.proofs.Words.{Circuit, IsCircuit, is_in, position_of, renumbered_edge, renumbered_latch}
use Rattle.aig_renumber.proofs.NodesInOrder.{length-nodes_in_order}
use Rattle.aig_cone.specs.Refine.{AreKept, refined}
use Rattle.aig_cone.proofs.Keeping.{kept-few}
use Rattle.aig_strash.specs.Exchange.{image_of, is_representative, kept_nodes, node_numbers}
use Rattle.aig_strash.specs.Strash.{strashed}
use Rattle.aig_edit_laws.specs.Reduction.{asked_alone}

strashed_few : (c : Circuit) → length (strashed c).nodes ≤ length c.nodes
strashed_few c =
    let all = node_numbers c.nodes in
    let parts = length-filter_both (is_representative c.nodes) (λ n. not (is_representative c.nodes n)) (λ n. refl) all in
    omega (arith, length-nodes_in_order c.nodes (image_of c.nodes) 0 (kept_nodes c.nodes), parts, length-map c.nodes (λ (node : AigNode). node.node_id))

module _ (c : Circuit) (cone kept : List ℕ) where
  abbrev cut : Circuit
  cut = refined kept (asked_alone cone c)

  pub reduced_few : IsCircuit (asked_alone cone c) → AreKept (asked_alone cone c) kept
      → length (strashed cut).nodes ≤ length c.nodes
  reduced_few is are =
      omega (arith, strashed_few cut, length-nodes_in_order c.nodes (position_of kept) 0 kept, kept-few (asked_alone cone c) kept is are)

  pub reduced_latchs : length (strashed cut).latchs ≤ length c.latchs
  reduced_latchs =
      let test = λ (latch : AigLatch). is_in cone latch.input in
      let left = filter test c.latchs in
      omega (
        arith,
        length-map cut.latchs (renumbered_latch (image_of cut.nodes)),
        length-map left (renumbered_latch (position_of kept)),
        length-filter test c.latchs,
        count_by-le-length test c.latchs,
      )

  pub reduced_bads : length (strashed cut).properties.bads ≡ length c.properties.bads
  reduced_bads = length-map cut.properties.bads (renumbered_edge (image_of cut.nodes)) ∙ length-map c.properties.bads (renumbered_edge (position_of kept))
