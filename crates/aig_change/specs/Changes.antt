-- Part of what is promised.
-- Changes of properties and of initial edges. (The crate aig: `aig_move`, `compress_property`,
-- `gate_init_to_constraint`.)
use Rattle.std.specs.Prelude.{◌≡◌, ℕ, ◌≤◌, ◌==◌, ◌↔◌, if◌then◌else◌, Bool, true, false, Option, Some, None, IsTrue, option_to_list, List, [], ◌∷◌, ◌++◌, length, map, drop, All, slice_get}
use Rattle.aig_circuit.specs.declared.edge.AigEdge.{AigEdge}
use Rattle.aig_circuit.specs.declared.node.AigLatch.{AigLatch}
use Rattle.aig_circuit.specs.declared.node.AigNodeType.TheVariants.{Leaf}
use Rattle.aig_circuit.specs.Edge.{edge_to, inverse}
use Rattle.aig_circuit.specs.Tree.{edge_value}
use Rattle.aig_circuit.specs.Circuit.{Circuit}
use Rattle.aig_circuit.specs.Build.{AddsGates, FoldsOrAddsAll, Grows, JoinsByOr, with_node}
use Rattle.aig_circuit.specs.Edges.{HasConstantInit}
use Rattle.std.specs.List.{AllZip}
use Rattle.aig_circuit.specs.declared.node.AigNode.{AigNode}
use Rattle.aig_change.specs.Joining.{JoinsInSteps}
use Rattle.aig_change.specs.Inits.{SayInSteps, ImpliesInit, variable_latchs}
use Rattle.aig_change.specs.Runs.{AreOldRuns, ConstraintsHoldUpTo, IsAllowedRun, IsRunFromInitial}

-- On every run from an initial state the first edge holds at a step exactly where the old one holds
-- there and every old constraint holds at each step up to it. The other edges stay.
pub record JoinsConstraints (old new : Circuit) (edges joined : List AigEdge) : Type 0 where
  pub others : drop 1 joined ≡ drop 1 edges
  pub count : length joined ≡ length edges
  pub first : (last : ℕ) (z : ℕ → ℕ → Bool) → IsRunFromInitial new last z → (t : ℕ) (e f : AigEdge)
      → t ≤ last → slice_get edges 0 ≡ Some e → slice_get joined 0 ≡ Some f
      → IsTrue (edge_value new.nodes (z t) f)
      ↔ (IsTrue (edge_value old.nodes (z t) e) × ConstraintsHoldUpTo old t z)

-- the latch that is true in an initial state, with this next edge
abbrev pub constraints_held_latch : ℕ → AigEdge → AigLatch
constraints_held_latch leaf next =
    record { input = leaf; next = next; init = Some (edge_to 0 true) }

-- The constraints are joined to the first bad and the first output edge, by a latch that is added
-- on a new leaf; no constraint is left.
pub record FoldsConstraints (old new : Circuit) : Type 0 where
  pub next : AigEdge
  pub latchs : new.latchs ≡ old.latchs ++ constraints_held_latch (length old.nodes) next ∷ []
  pub nodes : AddsGates (with_node old.nodes Leaf) new.nodes
  pub steps : (one two three : List AigNode) × (constraint : AigEdge)
      × JoinsInSteps old one two three new.nodes constraint next new.properties.bads
      new.properties.outputs
  pub constraints : new.properties.constraints ≡ []
  pub bads : JoinsConstraints old new old.properties.bads new.properties.bads
  pub outputs : JoinsConstraints old new old.properties.outputs new.properties.outputs
  -- inputs, names, justice and fairness stay
  pub rest : new
      ≡ record old {
        nodes = new.nodes;
        latchs = new.latchs;
        properties =
            record old.properties {
              outputs = new.properties.outputs;
              bads = new.properties.bads;
              constraints = new.properties.constraints;
            };
      }
  pub runs : AreOldRuns old new (IsRunFromInitial new) (IsRunFromInitial old)

-- The one bad edge is the or of the old ones, joined by the rule of `new_ors_node`.
pub record CompressesBads (old new : Circuit) : Type 0 where
  pub bad : AigEdge
  pub bads : new.properties.bads ≡ bad ∷ []
  pub gates : AddsGates old.nodes new.nodes
  pub rule : FoldsOrAddsAll old.nodes (map inverse old.properties.bads) new.nodes (inverse bad)
  pub value : JoinsByOr old.nodes new.nodes old.properties.bads bad
  pub rest : new
      ≡ record old {
        nodes = new.nodes;
        properties = record old.properties { bads = new.properties.bads };
      }

-- the initial edge where it is constant, and else none
abbrev pub constant_start : Option AigEdge → Option AigEdge
constant_start (Some e) = if e.node_id == 0 then Some e else None
constant_start None = None

-- the latch without its initial edge where that isn't constant
abbrev pub with_constant_start : AigLatch → AigLatch
with_constant_start latch = record latch { init = constant_start latch.init }

-- the latch that is true at step 0 and false from then on
abbrev pub first_step_latch : ℕ → AigLatch
first_step_latch leaf =
    record { input = leaf; next = edge_to 0 false; init = Some (edge_to 0 true) }

-- Initial edges that aren't constant are replaced by constraints, with one latch more that is true
-- in the first step alone.
pub record ConstrainsInits (old new : Circuit) : Type 0 where
  pub leaf : Option ℕ
  pub latchs : new.latchs
      ≡ map with_constant_start old.latchs ++ map first_step_latch (option_to_list leaf)
  pub constrained : List AigEdge
  pub constraints : new.properties.constraints ≡ old.properties.constraints ++ constrained
  pub nodes : Grows old.nodes new.nodes
  -- inputs, names and all other properties stay
  pub rest : new
      ≡ record old {
        nodes = new.nodes;
        latchs = new.latchs;
        properties = record old.properties { constraints = new.properties.constraints };
      }
  -- the added latch is one on a new leaf, and else gates alone are added
  pub some : ¬ All HasConstantInit old.latchs
      → (leaf ≡ Some (length old.nodes)) × AddsGates (with_node old.nodes Leaf) new.nodes
  -- a constraint for each latch that loses its initial edge: where the added latch is true, the two
  -- are equal
  pub each : ¬ All HasConstantInit old.latchs
      → AllZip (ImpliesInit (with_node old.nodes Leaf) new.nodes (edge_to (length old.nodes) false))
      constrained (variable_latchs old.latchs)
  -- and it is made by the builders' rules
  pub steps : ¬ All HasConstantInit old.latchs
      → SayInSteps (with_node old.nodes Leaf) (edge_to (length old.nodes) false) constrained
      (variable_latchs old.latchs) new.nodes
  pub runs : AreOldRuns old new (IsAllowedRun new) (IsAllowedRun old)
  -- where all initial edges are constant or none, nothing changes
  pub none : All HasConstantInit old.latchs → new ≡ old
