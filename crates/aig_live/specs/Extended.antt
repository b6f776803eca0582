-- Part of what is promised.
-- A circuit with inputs and latches more, and one bad edge.
use Rattle.std.specs.Prelude.{◌≡◌, ℕ, zero, suc, ◌+◌, ◌<◌, ◌≤◌, Option, Some, List, [], ◌∷◌, ◌++◌, length, All}
use Rattle.aig_circuit.specs.declared.edge.AigEdge.{AigEdge}
use Rattle.aig_circuit.specs.Build.{Grows}
use Rattle.aig_circuit.specs.Circuit.{Circuit, IsInRange, IsLeaf}
use Rattle.aig_circuit.specs.declared.node.AigNodeType.TheVariants.{And}
use Rattle.aig_circuit.specs.Node.{kind_at}
use Rattle.aig_circuit.specs.Properties.{no_properties}
use Rattle.aig_live.specs.Live.{false_latches}
use Rattle.aig_live.specs.Names.{with_row}

-- so many numbers in a row
abbrev pub row_from : ℕ → ℕ → List ℕ
row_from n zero = []
row_from n (suc count) = n ∷ row_from (n + 1) count

-- Leaves with these names come after the old nodes, and then gates: first so many inputs, then
-- latches that are false at the start and have these next edges. Of the properties constraints
-- alone stay, and one bad edge is there. Old names stay.
pub record IsExtended (inputs : ℕ) (nexts : List AigEdge) (bad : AigEdge)
    (texts : List (Option (List ℕ))) (c new : Circuit) : Type 0 where
  pub nodes : Grows c.nodes new.nodes
  pub leaves : (n : ℕ) → length c.nodes ≤ n → n < length c.nodes + (inputs + length nexts)
      → IsLeaf new.nodes n
  pub longer : length c.nodes + (inputs + length nexts) ≤ length new.nodes
  pub gates : (n : ℕ) → length c.nodes + (inputs + length nexts) ≤ n → n < length new.nodes
      → (a b : AigEdge) × (kind_at new.nodes n ≡ Some (And a b))
  pub nexts_there : All (IsInRange new.nodes) nexts
  pub bad_there : IsInRange new.nodes bad
  pub named : length texts ≡ inputs + length nexts
  pub rest : new
      ≡ record c {
        nodes = new.nodes;
        inputs = c.inputs ++ row_from (length c.nodes) inputs;
        latchs = c.latchs ++ false_latches (length c.nodes + inputs) nexts;
        properties =
            record no_properties {
              bads = bad ∷ [];
              constraints = c.properties.constraints;
            };
        names = with_row c.names (length c.nodes) texts;
      }
