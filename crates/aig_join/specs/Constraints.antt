-- Part of what is promised.
-- What constraints say where two machines are compared. (AIGER 1.9, "Invariant constraints";
-- equivalence checking.)
use Rattle.std.specs.Prelude.{◌≡◌, ℕ, ◌<◌, ◌≤◌, ◌↔◌, ◌&&◌, Bool, false, List, [], ◌∷◌, ◌++◌, length}
use Rattle.aig_change.specs.Changes.{constraints_held_latch}
use Rattle.aig_change.specs.Runs.{IsRunFromInitial}
use Rattle.aig_circuit.specs.declared.edge.AigEdge.{AigEdge}
use Rattle.aig_circuit.specs.declared.node.AigNode.{AigNode}
use Rattle.aig_circuit.specs.declared.node.AigNodeType.TheVariants.{Leaf}
use Rattle.aig_circuit.specs.Build.{AddsGates, FoldsOrAdds, FoldsOrAddsAll, GivesEdge, JoinsByAnd, with_node}
use Rattle.aig_circuit.specs.Circuit.{Circuit}
use Rattle.aig_circuit.specs.Edge.{edge_to}
use Rattle.aig_circuit.specs.Tree.{edge_value}
use Rattle.aig_format.specs.File.{File}
use Rattle.aig_format.specs.Machine.{IsMachineInitial, IsMachineRun}
use Rattle.aig_join.specs.Alike.{AreEqualMachinesFrom, IsMiterFrom}
use Rattle.aig_join.specs.Files.{FilesCompareEqual, HaveSameFileInputs}
use Rattle.aig_join.specs.Miter.{CompareEqual, HaveSameInputs}
use Rattle.aig_join.specs.Pairs.{MeetsConstraints}
use Rattle.aig_join.specs.Starts.{AreAlike, Register, circuit_registers, file_registers}
use Rattle.aig_join.specs.declared.comparison.Comparison.{Comparison}
use Rattle.aig_join.specs.declared.comparison.Constraints.{Constraints}
use Rattle.aig_join.specs.declared.comparison.Constraints.TheVariants.{Compared, OfBoth, OfFirst}
use Rattle.aig_join.specs.declared.starts.Starts.{Starts}
use Rattle.aig_join.specs.declared.starts.Starts.TheVariants.{Alike, Apart}
use Rattle.aig_runs.specs.Safety.{IsConstrained}

-- ---- the circuit

-- the circuit without constraints
abbrev pub unconstrained : Circuit → Circuit
unconstrained c = record c { properties = record c.properties { constraints = [] } }

-- the edge d is the and of e and `all`
pub record IsJoined (old new : List AigNode) (all e d : AigEdge) : Type 0 where
  pub gates : AddsGates old new
  pub rule : FoldsOrAdds old new e all d
  pub gives : GivesEdge new (λ x. edge_value old x e && edge_value old x all) d

-- for each edge such an edge, made one after the other
abbrev pub AreJoined : List AigNode → AigEdge → List AigEdge → List AigEdge → List AigNode
    → Type 0
AreJoined old all [] [] new = new ≡ old
AreJoined old all (e ∷ es) (d ∷ ds) new =
    (mid : List AigNode) × IsJoined old mid all e d × AreJoined mid all es ds new
AreJoined old all es ds new = ⊥

-- what is added step by step: a leaf, the and `all` of the constraints, the and `next` of the two,
-- and the and of each output and of each bad edge with `all`
pub record DefersInSteps (old : Circuit) (one two three four : List AigNode) (all next : AigEdge)
    (outputs bads : List AigEdge) : Type 0 where
  pub first : AddsGates (with_node old.nodes Leaf) one
  pub all_rule : FoldsOrAddsAll (with_node old.nodes Leaf) old.properties.constraints one all
  pub joins : JoinsByAnd (with_node old.nodes Leaf) one old.properties.constraints all
  pub second : AddsGates one two
  pub rule : FoldsOrAdds one two (edge_to (length old.nodes) false) all next
  pub gives : GivesEdge two
      (λ x. edge_value one x (edge_to (length old.nodes) false) && edge_value one x all) next
  pub joins_outputs : AreJoined two all old.properties.outputs outputs three
  pub joins_bads : AreJoined three all old.properties.bads bads four

-- The circuit whose first output is the and of the old constraints. Each further output and each
-- bad edge is the old one and that and. Its one constraint is a latch that is true in an initial
-- state and stays so while the old constraints hold: they are met at every step before.
pub record DefersConstraints (old new : Circuit) : Type 0 where
  pub all : AigEdge
  pub next : AigEdge
  pub outputs : List AigEdge
  pub steps : (one two three : List AigNode)
      × DefersInSteps old one two three new.nodes all next outputs new.properties.bads
  -- inputs, names, justice and fairness stay
  pub rest : new
      ≡ record old {
        nodes = new.nodes;
        latchs = old.latchs ++ constraints_held_latch (length old.nodes) next ∷ [];
        properties =
            record old.properties {
              outputs = all ∷ outputs;
              bads = new.properties.bads;
              constraints = edge_to (length old.nodes) false ∷ [];
            };
      }

-- the miter of a and b, with constraints that say this
abbrev pub IsMiterUnder : Constraints → Starts → Circuit → Circuit → Circuit → Type 0
IsMiterUnder OfBoth starts a b new = IsMiterFrom starts a b new
IsMiterUnder OfFirst starts a b new = IsMiterFrom starts a (unconstrained b) new
IsMiterUnder Compared starts a b new =
    (c d : Circuit) × DefersConstraints a c × DefersConstraints b d × IsMiterFrom starts c d new

-- the miter of a and b, which are compared so
abbrev pub IsMiterBy : Comparison → Circuit → Circuit → Circuit → Type 0
IsMiterBy comparison a b new = IsMiterUnder comparison.constraints comparison.starts a b new

-- ---- what it says

-- registers start so
abbrev pub StartSo : Starts → List Register → List Register → (ℕ → Bool) → (ℕ → Bool) → Type 0
StartSo Apart ours theirs x y = Unit {0}
StartSo (Alike matching) ours theirs x y = AreAlike matching ours theirs x y

-- on all runs of both from initial states whose registers start so, that have the same inputs and
-- meet the constraints of both at each step before k: both meet theirs at step k, or neither does,
-- and where they do outputs and bad edges are the same there
abbrev pub AreEqualConstrainedAt : Starts → Circuit → Circuit → ℕ → Type 0
AreEqualConstrainedAt starts a b k =
    (x y : ℕ → ℕ → Bool) → IsRunFromInitial a k x → IsRunFromInitial b k y
    → StartSo starts (circuit_registers a) (circuit_registers b) (x 0) (y 0)
    → ((t : ℕ) → t ≤ k → HaveSameInputs a b (x t) (y t))
    → ((t : ℕ) → t < k → MeetsConstraints a (x t) × MeetsConstraints b (y t))
    → (MeetsConstraints a (x k) ↔ MeetsConstraints b (y k))
    × (MeetsConstraints a (x k) → CompareEqual a b (x k) (y k))

-- the same of the machines of files
abbrev pub AreEqualConstrainedMachinesAt : Starts → File → File → ℕ → Type 0
AreEqualConstrainedMachinesAt starts f g k =
    (run other : ℕ → ℕ → Bool) → IsMachineRun f k run → IsMachineInitial f run
    → IsMachineRun g k other → IsMachineInitial g other
    → StartSo starts (file_registers f) (file_registers g) (run 0) (other 0)
    → ((t : ℕ) → t ≤ k → HaveSameFileInputs f g (run t) (other t))
    → ((t : ℕ) → t < k → IsConstrained f (run t) × IsConstrained g (other t))
    → (IsConstrained f (run k) ↔ IsConstrained g (other k))
    × (IsConstrained f (run k) → FilesCompareEqual f g (run k) (other k))

-- the file without constraints
abbrev pub without_constraints : File → File
without_constraints f = record f { properties = record f.properties { constraints = [] } }

-- outputs and bad literals of the machines are the same at step k, with constraints that say this
abbrev pub AreEqualMachinesUnder : Constraints → Starts → File → File → ℕ → Type 0
AreEqualMachinesUnder OfBoth starts f g k = AreEqualMachinesFrom starts f g k
AreEqualMachinesUnder OfFirst starts f g k =
    AreEqualMachinesFrom starts f (without_constraints g) k
AreEqualMachinesUnder Compared starts f g k = AreEqualConstrainedMachinesAt starts f g k

-- they are the same at step k of the machines, which are compared so
abbrev pub AreEqualMachinesBy : Comparison → File → File → ℕ → Type 0
AreEqualMachinesBy comparison f g k =
    AreEqualMachinesUnder comparison.constraints comparison.starts f g k
