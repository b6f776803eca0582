-- Part of what is promised.
-- Two circuits joined in one by leaves that both have: the first inputs, and perhaps the first
-- latches. (Miters of equivalence checking; witness circuits of the hardware model checking
-- competition.)
use Rattle.std.specs.Prelude.{ℕ, ◌+◌, ◌≤◌, ◌==◌, if◌then◌else◌, not, List, ◌++◌, length, map, filter, take, drop, slice_index}
use Rattle.aig_circuit.specs.declared.node.AigNode.{AigNode}
use Rattle.aig_circuit.specs.Circuit.{Circuit, latch_leaves}
use Rattle.aig_circuit.specs.Properties.{append_properties, map_properties}
use Rattle.aig_circuit.specs.Renumber.{is_in, nodes_in_order, position_of, renumbered_edge, renumbered_latch}
use Rattle.aig_change.specs.Merge.{numbers_but_0}
use Rattle.aig_join.specs.Names.{is_taken, with_names}

-- both circuits can share their first inputs, as many as the first one has, and so many latches
pub record CanShare (latches : ℕ) (first second : Circuit) : Type 0 where
  pub inputs : length first.inputs ≤ length second.inputs
  pub first_latches : latches ≤ length first.latchs
  pub second_latches : latches ≤ length second.latchs

-- the first inputs of a circuit, so many, and the leaves of its first latches, so many
abbrev pub first_leaves : ℕ → ℕ → Circuit → List ℕ
first_leaves inputs latches c = take inputs c.inputs ++ latch_leaves (take latches c.latchs)

-- the leaves of the first circuit that the second one shares, as many latches among them
abbrev pub shared_of_first : ℕ → Circuit → Circuit → List ℕ
shared_of_first latches first second = first_leaves (length first.inputs) latches first

-- the leaves of the second circuit that these are, in the same order
abbrev pub shared_of_second : ℕ → Circuit → Circuit → List ℕ
shared_of_second latches first second = first_leaves (length first.inputs) latches second

-- the numbers of the nodes but 0 that aren't shared, in rising order
abbrev pub other_numbers : List ℕ → List AigNode → List ℕ
other_numbers shared nodes = filter (λ n. not (is_in shared n)) (numbers_but_0 nodes)

-- The number that node n gets: 0 stays 0, a shared leaf has the number at its place in `theirs`,
-- and the others follow on after so many nodes.
abbrev pub joint_number : List ℕ → List ℕ → ℕ → List ℕ → ℕ → ℕ
joint_number shared theirs count others n =
    if n == 0 then 0 else
    if is_in shared n then slice_index theirs (position_of shared n) else
    count + position_of others n

-- the numbers of the second circuit's nodes that the joint one has beside those of the first
abbrev pub added_numbers : ℕ → Circuit → Circuit → List ℕ
added_numbers latches first second =
    other_numbers (shared_of_second latches first second) second.nodes

-- the number that node n of the second circuit has in the joint one
abbrev pub number_in_joint : ℕ → Circuit → Circuit → ℕ → ℕ
number_in_joint latches first second =
    joint_number (shared_of_second latches first second) (shared_of_first latches first second)
    (length first.nodes) (added_numbers latches first second)

-- the inputs of the second circuit past as many as the first has, and the leaves of its latches
-- past so many
abbrev pub further_leaves : ℕ → Circuit → Circuit → List ℕ
further_leaves latches first second =
    drop (length first.inputs) second.inputs ++ latch_leaves (drop latches second.latchs)

-- the first circuit, then the nodes of these numbers, the inputs past as many as the first circuit
-- has, the latches past so many and all properties of the second one, under the new numbers, and
-- the names of its further inputs and latches behind the prefix
abbrev pub joined_by : (ℕ → ℕ) → List ℕ → ℕ → Circuit → Circuit → Circuit
joined_by number added latches first second =
    record {
      nodes = first.nodes ++ nodes_in_order second.nodes number (length first.nodes) added;
      inputs = first.inputs ++ map number (drop (length first.inputs) second.inputs);
      latchs = first.latchs ++ map (renumbered_latch number) (drop latches second.latchs);
      properties =
          append_properties first.properties
          (map_properties (renumbered_edge number) second.properties);
      names =
          with_names number (is_taken first) second.names first.names
          (further_leaves latches first second);
    }

-- The first circuit, and after it what else the second one has. The second one's first inputs are
-- the inputs of the first, and its first latches, so many, are the first latches of the first,
-- whose next and initial edges count.
abbrev pub joined : ℕ → Circuit → Circuit → Circuit
joined latches first second =
    joined_by (number_in_joint latches first second) (added_numbers latches first second) latches
    first second
