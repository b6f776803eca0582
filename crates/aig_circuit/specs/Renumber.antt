-- Part of what is promised.
-- Circuits of some of a circuit's nodes under new numbers: re-encoded, cut to a cone, hashed.
use Rattle.std.specs.Prelude.{ℕ, ◌+◌, ◌==◌, if◌then◌else◌, Bool, Option, Some, None, option_map, List, [], ◌∷◌, map, filter}
use Rattle.std.specs.List.{list_any}
use Rattle.std.specs.Ordering.{nat_cmp}
use Rattle.std.specs.FinMap.{FinMap, from_entries, entries, retain_keys}
use Rattle.aig_circuit.specs.declared.edge.AigEdge.{AigEdge}
use Rattle.aig_circuit.specs.declared.node.AigNodeType.{AigNodeType}
use Rattle.aig_circuit.specs.declared.node.AigNodeType.TheVariants.{False, Leaf, And}
use Rattle.aig_circuit.specs.declared.node.AigNode.{AigNode}
use Rattle.aig_circuit.specs.declared.node.AigLatch.{AigLatch}
use Rattle.aig_circuit.specs.Edge.{edge_to}
use Rattle.aig_circuit.specs.Node.{kind_at, and_of}
use Rattle.aig_circuit.specs.Circuit.{Circuit}
use Rattle.aig_circuit.specs.Properties.{map_properties}

-- the place of a number in a list
abbrev pub position_of : List ℕ → ℕ → ℕ
position_of [] n = 0
position_of (m ∷ ms) n = if m == n then 0 else position_of ms n + 1

-- the edge to the node's new number
abbrev pub renumbered_edge : (ℕ → ℕ) → AigEdge → AigEdge
renumbered_edge number e = edge_to (number e.node_id) e.compl

-- a gate's operands have their new numbers, and are put in order again
abbrev pub renumbered_kind : (ℕ → ℕ) → Option AigNodeType → AigNodeType
renumbered_kind number (Some (And a b)) =
    and_of (renumbered_edge number a) (renumbered_edge number b)
renumbered_kind number (Some Leaf) = Leaf
renumbered_kind number (Some False) = False
renumbered_kind number None = False

-- the latch with its leaf and its edges under their new numbers
abbrev pub renumbered_latch : (ℕ → ℕ) → AigLatch → AigLatch
renumbered_latch number latch =
    record {
      input = number latch.input;
      next = renumbered_edge number latch.next;
      init = option_map (renumbered_edge number) latch.init;
    }

-- the old nodes of these numbers, numbered from i on
abbrev pub nodes_in_order : List AigNode → (ℕ → ℕ) → ℕ → List ℕ → List AigNode
nodes_in_order nodes number i [] = []
nodes_in_order nodes number i (n ∷ ns) =
    record { node_id = i; typ = renumbered_kind number (kind_at nodes n) }
    ∷ nodes_in_order nodes number (i + 1) ns

-- the names under the new numbers
abbrev pub renumbered_names : (ℕ → ℕ) → FinMap nat_cmp (List ℕ) → FinMap nat_cmp (List ℕ)
renumbered_names number names =
    from_entries (map (λ entry. (number entry.0, entry.1)) (entries names))

-- the circuit of the nodes of these numbers, in their order, with all lists and names under the new
-- numbers
abbrev pub renumbered_circuit : (ℕ → ℕ) → List ℕ → Circuit → Circuit
renumbered_circuit number ns c =
    record {
      nodes = nodes_in_order c.nodes number 0 ns;
      inputs = map number c.inputs;
      latchs = map (renumbered_latch number) c.latchs;
      properties = map_properties (renumbered_edge number) c.properties;
      names = renumbered_names number c.names;
    }

-- the number is in the list
abbrev pub is_in : List ℕ → ℕ → Bool
is_in kept n = list_any (λ m. m == n) kept

-- the circuit without the inputs and the names that aren't kept
abbrev pub only_kept : List ℕ → Circuit → Circuit
only_kept kept c =
    record c { inputs = filter (is_in kept) c.inputs; names = retain_keys c.names (is_in kept) }

-- The circuit of the kept nodes, in the order of their new numbers, where `number` gives every old
-- node a new number: operands and lists follow, and so do the inputs and the names of kept nodes.
abbrev pub kept_circuit : (ℕ → ℕ) → List ℕ → Circuit → Circuit
kept_circuit number kept c = renumbered_circuit number kept (only_kept kept c)
