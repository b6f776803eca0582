-- Serves private clauses alone.
-- The nodes of a question while it is made.
use Rattle.std.specs.Prelude.{◌≡◌, ◌≢◌, ℕ, ◌^◌, ◌+◌, ◌<◌, ◌≤◌, ◌++◌, ◌∷◌, [], ◌⊎◌, false, Bool, length, All, AllPairs, Contains, Result, IsErrOf, OnOk}
use Rattle.aig_circuit.specs.declared.edge.AigEdge.{AigEdge}
use Rattle.aig_circuit.specs.declared.node.AigNodeType.TheVariants.{Leaf}
use Rattle.aig_circuit.specs.Edge.{edge_to}
use Rattle.aig_circuit.specs.Build.{AddsGates, GivesEdge, Grows, with_node}
use Rattle.aig_circuit.specs.Circuit.{Circuit, IsInRange, IsLeaf}
use Rattle.aig_circuit.specs.Runs.{IsInitial, IsRun}
use Rattle.aig_circuit.specs.Tree.{edge_value}
use Rattle.aig_bounded.specs.declared.error.BoundedError.{BoundedError}
use Rattle.aig_bounded.specs.declared.error.BoundedError.TheVariants.{TooLarge}
use Rattle.aig_bounded.specs.declared.frames.Frames.{Frames}
use Rattle.aig_bounded.specs.declared.place.Place.{Place}
use Rattle.aig_bounded.specs.Gates.{HasGates}
use Rattle.aig_bounded.specs.Shared.{Netlist}
use Rattle.aig_bounded.specs.Question.{IsPlace, ReadsPlaces}

-- the place is at a step before t, or at step t and below node n
abbrev pub IsBefore : ℕ → ℕ → Place → Type 0
IsBefore t n p = (p.step < t) ⊎ ((p.step ≡ t) × (p.leaf < n))

-- the netlist
abbrev pub net_of : Frames → Netlist
net_of f = record { nodes = f.nodes.items; inputs = f.inputs.items; places = f.places.items }

-- sound nodes, no more than the limit, of which all gates stand in the table
pub record AreShared (f : Frames) : Type 0 where
  pub gates : HasGates f.nodes.items f.gates
  pub few : length f.nodes.items ≤ f.limit
  pub small : f.limit ≤ 2 ^ 31

-- such nodes, of which the leaves are inputs at places of c before node n of step t
pub record AreFrames (c : Circuit) (t n : ℕ) (f : Frames) : Type 0 where
  pub shared : AreShared f
  pub inputs : All (IsLeaf f.nodes.items) f.inputs.items
  pub rising : AllPairs (λ m n. m < n) f.inputs.items
  pub closed : (n : ℕ) → IsLeaf f.nodes.items n → Contains f.inputs.items n
  pub count : length f.places.items ≡ length f.inputs.items
  pub places : All (IsPlace c) f.places.items
  pub distinct : AllPairs (λ p q. p ≢ q) f.places.items
  pub before : All (IsBefore t n) f.places.items

-- gates alone are added, within the limit
pub record AddsAnds (old new : Frames) : Type 0 where
  pub nodes : AddsGates old.nodes.items new.nodes.items
  pub limit : new.limit ≡ old.limit
  pub shared : AreShared new
  pub inputs : new.inputs.items ≡ old.inputs.items
  pub places : new.places.items ≡ old.places.items

-- gates alone are added, of which an edge has this value
pub record MakesEdge (wanted : (ℕ → Bool) → Bool) (old new : Frames) (e : AigEdge) : Type 0 where
  pub edge : GivesEdge new.nodes.items wanted e
  pub adds : AddsAnds old new

-- one leaf is added, the input of this place, within the limit
pub record Opens (old new : Frames) (place : Place) (e : AigEdge) : Type 0 where
  pub edge : e ≡ edge_to (length old.nodes.items) false
  pub nodes : new.nodes.items ≡ with_node old.nodes.items Leaf
  pub limit : new.limit ≡ old.limit
  pub shared : AreShared new
  pub inputs : new.inputs.items ≡ old.inputs.items ++ length old.nodes.items ∷ []
  pub places : new.places.items ≡ old.places.items ++ place ∷ []

-- y gives the inputs the run's values
abbrev pub ReadsOff : Frames → (ℕ → Bool) → (ℕ → ℕ → Bool) → Type 0
ReadsOff f y run = ReadsPlaces f.inputs.items f.places.items y run

-- old nodes keep their values, and old inputs their places
pub record Extends (old new : Frames) : Type 0 where
  pub limit : new.limit ≡ old.limit
  pub grows : Grows old.nodes.items new.nodes.items
  pub reads : (y : ℕ → Bool) (run : ℕ → ℕ → Bool) → ReadsOff new y run → ReadsOff old y run

-- on each run of the steps 0 to t from an initial state the edge has this value
pub record Shows (c : Circuit) (t : ℕ) (f : Frames) (e : AigEdge) (value : (ℕ → ℕ → Bool) → Bool)
    : Type 0 where
  pub there : IsInRange f.nodes.items e
  pub shown : (y : ℕ → Bool) (run : ℕ → ℕ → Bool) → IsRun c t run → IsInitial c (run 0)
      → ReadsOff f y run → edge_value f.nodes.items y e ≡ value run

-- at most so many nodes are added, and TooLarge comes only where so many more would pass the limit
pub record AddsUpTo (count : ℕ) (old new : Frames) {T : Type 0} (result : Result T BoundedError)
    : Type 0 where
  pub few : OnOk result (length new.nodes.items ≤ length old.nodes.items + count)
  pub large : IsErrOf result TooLarge → old.limit < length old.nodes.items + count
