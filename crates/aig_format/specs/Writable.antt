-- Part of what is promised.
-- When a circuit has a written form.
use Rattle.std.specs.Prelude.{ℕ, ◌^◌, ◌<◌, ◌≤◌, ◌++◌, List, [], ◌∷◌, length, IfSome, IsSomeAnd, IsUtf8, All, Contains}
use Rattle.std.specs.Ordering.{nat_cmp}
use Rattle.std.specs.FinMap.{FinMap, get}
use Rattle.aig_circuit.specs.Circuit.{Circuit, IsClosed, latch_leaves}
use Rattle.aig_circuit.specs.Edges.{HasConstantInit}

-- the node has a name that holds a line feed
abbrev pub HasLineFeed : FinMap nat_cmp (List ℕ) → ℕ → Type 0
HasLineFeed names n = IsSomeAnd (get names n) (λ name. Contains name 10)

-- the nodes whose names are written
abbrev pub named_nodes : Circuit → List ℕ
named_nodes c = c.inputs ++ latch_leaves c.latchs

-- the counts that a header has, that of gates aside
abbrev pub list_lengths : Circuit → List ℕ
list_lengths c =
    let p = c.properties in
    length c.inputs ∷ length c.latchs ∷ length p.outputs ∷ length p.bads ∷ length p.constraints
    ∷ length p.justice ∷ length p.fairness ∷ []

-- at most 2^31 nodes, and lists and justice sets of at most 2^32 - 1 entries
pub record FitsFormat (c : Circuit) : Type 0 where
  pub nodes : length c.nodes ≤ 2 ^ 31
  pub lists : All (λ n. n < 2 ^ 32) (list_lengths c)
  pub sets : All (λ set. length set < 2 ^ 32) c.properties.justice

-- no refusal applies
pub record IsWritable (c : Circuit) : Type 0 where
  pub closed : IsClosed c
  pub start : All HasConstantInit c.latchs
  pub names : All (λ n. ¬ HasLineFeed c.names n) (named_nodes c)
  pub small : FitsFormat c

-- each name is text
abbrev pub AreTexts : FinMap nat_cmp (List ℕ) → Type 0
AreTexts names = (n : ℕ) → IfSome (get names n) IsUtf8
