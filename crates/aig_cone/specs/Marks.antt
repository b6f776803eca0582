-- Serves private clauses alone.
-- Marks of the nodes that are met, and the stack of those that are still to be followed.
use Rattle.std.specs.Prelude.{◌≡◌, ℕ, ◌+◌, ◌<◌, ◌⊎◌, ◌↔◌, Bool, if◌then◌else◌, Option, Some, None, List, length, sum_by, AllPairs, Contains, slice_index_or}
use Rattle.aig_circuit.specs.Circuit.{Circuit}
use Rattle.aig_circuit.specs.Marks.{IsMarked}
use Rattle.aig_circuit.specs.Reach.{IsLatchNext}

-- the nodes of which P holds are marked too, and nothing else
abbrev pub AddsMarks : List Bool → List Bool → (ℕ → Type 0) → Type 0
AddsMarks old new P = (n : ℕ) → IsMarked new n ↔ (IsMarked old n ⊎ P n)

-- how many nodes aren't marked
abbrev pub unmarked : List Bool → ℕ
unmarked marks = sum_by (λ marked. if marked then 0 else 1) marks

-- The nodes of which P holds are marked too, and nothing else. Those that weren't are put on the
-- stack, each once.
pub record Visits (old new : List Bool) (stack stacked : List ℕ) (P : ℕ → Type 0) : Type 0 where
  pub marks : AddsMarks old new P
  pub kept : (n : ℕ) → Contains stack n → Contains stacked n
  pub put : (n : ℕ) → IsMarked new n → IsMarked old n ⊎ Contains stacked n
  pub only : (n : ℕ) → Contains stacked n → Contains stack n ⊎ P n
  pub once : unmarked new + length stacked ≡ unmarked old + length stack

-- at the place of each latch's leaf stands the node of the latch's next edge, and elsewhere nothing
pub record AreNextStates (c : Circuit) (table : List (Option ℕ)) : Type 0 where
  pub count : length table ≡ length c.nodes
  pub exactly : (n m : ℕ) → (slice_index_or table n None ≡ Some m) ↔ IsLatchNext c.latchs n m

-- the marked numbers in rising order
pub record AreMarked (marks : List Bool) (numbers : List ℕ) : Type 0 where
  pub rising : AllPairs (λ m n. m < n) numbers
  pub exactly : (n : ℕ) → Contains numbers n ↔ IsMarked marks n
