-- Part of what is promised.
-- The turns of a circuit's leaves that are no latch's, by which places in unrolled circuits are
-- found. (Bounded model checking: time frames.)
use Rattle.std.specs.Prelude.{◌≡◌, ℕ, ◌+◌, ◌*◌, ◌<◌, ◌≤◌, Bool, List, length, take, Contains, slice_index, slice_index_or, count_by}
use Rattle.aig_circuit.specs.Circuit.{Circuit, latch_leaves}
use Rattle.aig_circuit.specs.Renumber.{is_in, position_of}
use Rattle.aig_unroll.specs.Places.{is_other_leaf, other_leaves}

-- a mark for each node, whether it is a latch's leaf
pub record MarksLatchLeaves (c : Circuit) (marks : List Bool) : Type 0 where
  pub count : length marks ≡ length c.nodes
  pub each : (n : ℕ) (d : Bool) → n < length c.nodes
      → slice_index_or marks n d ≡ is_in (latch_leaves c.latchs) n

-- for each node how many leaves that are no latch's come before it
pub record CountsOthers (c : Circuit) (turns : List ℕ) : Type 0 where
  pub count : length turns ≡ length c.nodes
  pub each : (n : ℕ) → n < length c.nodes
      → slice_index turns n ≡ count_by (is_other_leaf c) (take n c.nodes)

-- each leaf that is no latch's has its turn among them, and there are so many
pub record HasTurns (c : Circuit) (turns : List ℕ) (total : ℕ) : Type 0 where
  pub all : total ≡ length (other_leaves c)
  pub count : length turns ≡ length c.nodes
  pub each : (n : ℕ) → Contains (other_leaves c) n
      → slice_index turns n ≡ position_of (other_leaves c) n

-- the unrolled circuit has the inputs of step t
abbrev pub HasStep : Circuit → Circuit → ℕ → Type 0
HasStep c unrolled t = length c.inputs + t * length (other_leaves c) ≤ length unrolled.inputs
