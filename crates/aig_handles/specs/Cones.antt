-- Part of what is promised.
-- Cones and clauses of a circuit.
use Rattle.std.specs.Prelude.{◌≡◌, ◌<◌, ◌⊎◌, ℕ, Bool, List, All, length, map, ℤ}
use Rattle.std.specs.List.{flat_map}
use Rattle.aig_base.specs.declared.logic.literal.Lit.{Lit}
use Rattle.aig_circuit.specs.declared.edge.AigEdge.{AigEdge}
use Rattle.aig_circuit.specs.Circuit.{Circuit, IsInRange}
use Rattle.aig_circuit.specs.Reach.{IsFanin, IsInCone, IsReached, MarksExactly}
use Rattle.aig_cnf.specs.Cnf.{FixesRoots, HasClauses, NodeValuesSatisfy}
use Rattle.aig_giving.specs.Numbers.{clause_numbers}
use Rattle.aig_handles.specs.Handles.{HasRoom, Unmet}
use Rattle.aig_giving.specs.declared.status.TheConstants.{MEMORY}
use Rattle.aig_handles.specs.declared.status.TheConstants.{FULL, RANGE}

-- the edges are there, and what they reach along operands is marked
abbrev pub MarksFanin : List AigEdge → Circuit → List Bool → Type 0
MarksFanin es c marks =
    All (IsInRange c.nodes) es
    × MarksExactly c.nodes (IsReached (IsFanin c.nodes) (map (λ e. e.node_id) es)) marks

-- the nodes are there, and their cone of influence is marked
abbrev pub MarksCone : List ℕ → Circuit → List Bool → Type 0
MarksCone roots c marks =
    All (λ n. n < length c.nodes) roots × MarksExactly c.nodes (IsInCone c roots) marks

-- of these edges one isn't there, or memory was refused
abbrev pub HasNoFanin : List AigEdge → ℕ → Circuit → Type 0
HasNoFanin es status c = Unmet RANGE status (All (IsInRange c.nodes) es) ⊎ (status ≡ MEMORY)

-- of these nodes one isn't there, or memory was refused
abbrev pub HasNoCone : List ℕ → ℕ → Circuit → Type 0
HasNoCone roots status c =
    Unmet RANGE status (All (λ n. n < length c.nodes) roots) ⊎ (status ≡ MEMORY)

-- its variables have no numbers, or memory was refused
abbrev pub HasNoNumbers : ℕ → Circuit → Type 0
HasNoNumbers status c = Unmet FULL status (HasRoom c 1) ⊎ (status ≡ MEMORY)

-- the variables have numbers, and the numbers are those of the circuit's clauses, which give each
-- root its value
pub record AreClauses (optimize : Bool) (c : Circuit) (numbers : List ℤ) : Type 0 where
  pub room : HasRoom c 1
  pub lists : List (List (List Lit))
  pub clauses : HasClauses c optimize lists
  pub fixes : FixesRoots c lists
  pub satisfied : NodeValuesSatisfy c lists
  pub exact : numbers ≡ flat_map (flat_map clause_numbers) lists
