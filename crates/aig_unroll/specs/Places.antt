-- Part of what is promised.
-- Where the steps of a run stand in an unrolled circuit. (Bounded model checking: time frames.)
use Rattle.std.specs.Prelude.{◌≡◌, ℕ, zero, suc, ◌+◌, ◌-◌, ◌*◌, ◌≤◌, ◌&&◌, ◌==◌, Bool, not, List, length, map, filter, drop, All, slice_index}
use Rattle.std.specs.List.{list_any}
use Rattle.aig_circuit.specs.declared.node.AigNode.{AigNode}
use Rattle.aig_circuit.specs.Circuit.{Circuit, latch_leaves}
use Rattle.aig_circuit.specs.Runs.{is_leaf}
use Rattle.aig_circuit.specs.Renumber.{position_of}

-- the node is a leaf that is no latch's
abbrev pub is_other_leaf : Circuit → AigNode → Bool
is_other_leaf c node =
    is_leaf node.typ && not (list_any (λ n. n == node.node_id) (latch_leaves c.latchs))

-- the leaves that are no latch's, in rising number
abbrev pub other_leaves : Circuit → List ℕ
other_leaves c = map (λ node. node.node_id) (filter (is_other_leaf c) c.nodes)

-- the leaves among the nodes after the first so many, in rising number
abbrev pub leaves_after : ℕ → List AigNode → List ℕ
leaves_after count nodes =
    map (λ node. node.node_id) (filter (λ node. is_leaf node.typ) (drop count nodes))

-- the place of leaf n, which is no latch's, at a step: at step 0 itself, and then its turn among
-- the inputs that the step added
abbrev pub place_at : Circuit → Circuit → ℕ → ℕ → ℕ
place_at c unrolled zero n = n
place_at c unrolled (suc t) n =
    let m = length (other_leaves c) in
    slice_index unrolled.inputs (length c.inputs + t * m + position_of (other_leaves c) n)

-- x reads the steps 0 to k off the leaf values y of the unrolled circuit: the first state at the
-- latches' leaves, and all else at its places
pub record Reads (c unrolled : Circuit) (k : ℕ) (y : ℕ → Bool) (x : ℕ → ℕ → Bool) : Type 0 where
  pub state : All (λ n. x 0 n ≡ y n) (latch_leaves c.latchs)
  pub others : (t : ℕ) → t ≤ k → All (λ n. x t n ≡ y (place_at c unrolled t n)) (other_leaves c)

-- how many nodes k further steps of a circuit take at the most: all nodes once, and for each step
-- one for each gate and each leaf that is no latch's
abbrev pub unrolled_size : Circuit → ℕ → ℕ
unrolled_size c k = length c.nodes + k * (length c.nodes - 1 - length c.latchs)
