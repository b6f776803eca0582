-- Serves private clauses alone.
-- A search for a circle: each node is opened once, and is settled when all on which it rests are.
use Rattle.std.specs.Prelude.{◌≡◌, ℕ, ◌+◌, ◌*◌, ◌<◌, ◌⊎◌, ◌↔◌, Bool, true, false, if◌then◌else◌, List, [], ◌∷◌, ◌++◌, length, replicate, sum_by, All, AllPairs, Contains, MatchBool, slice_index_or, slice_set, Option, Some, None}
use Rattle.aig_circuit.specs.declared.edge.AigEdge.{AigEdge}
use Rattle.aig_circuit.specs.declared.node.AigLatch.{AigLatch}
use Rattle.aig_circuit.specs.declared.node.AigNode.{AigNode}
use Rattle.aig_circuit.specs.Circuit.{AreNodes, Circuit, IsInRange}
use Rattle.aig_circuit.specs.Marks.{IsMarked}
use Rattle.aig_circuit.specs.Reach.{IsFanin, IsReached}
use Rattle.aig_witness_circuits.specs.Circular.{IsReset}
use Rattle.aig_witness_circuits.specs.Simulation.{Sharing}
use Rattle.aig_witness_circuits.specs.declared.circles.Search.{Search}
use Rattle.aig_witness_circuits.specs.declared.circles.Turn.{Turn}
use Rattle.aig_witness_circuits.specs.declared.circles.Turn.TheVariants.{Node, Done, Circle}

-- ---- what nodes rest on

-- the edge that the table has for node n
abbrev pub reset_at : List (Option AigEdge) → ℕ → Option AigEdge
reset_at resets n = slice_index_or resets n None

-- the table has the initial edge of each of these latches, and no other
pub record HoldsResets (latchs : List AigLatch) (resets : List (Option AigEdge)) : Type 0 where
  pub each : All (λ latch. reset_at resets latch.input ≡ latch.init) latchs
  pub only : (n : ℕ) (e : AigEdge) → reset_at resets n ≡ Some e
      → (latch : AigLatch) × Contains latchs latch × (latch.input ≡ n) × (latch.init ≡ Some e)

-- for each node the initial edge of the own latch whose leaf it is, if there is one
pub record AreResets (shared : Sharing) (c : Circuit) (resets : List (Option AigEdge)) : Type 0
  where
    pub count : length resets ≡ length c.nodes
    pub exactly : (n : ℕ) (e : AigEdge) → (reset_at resets n ≡ Some e) ↔ IsReset shared c n e

-- a table of such edges for nodes
pub record IsTable (nodes : List AigNode) (resets : List (Option AigEdge)) : Type 0 where
  pub sound : AreNodes nodes
  pub count : length resets ≡ length nodes
  pub there : (n : ℕ) (e : AigEdge) → reset_at resets n ≡ Some e → IsInRange nodes e

-- m is the node of the edge that the table has for n
abbrev pub IsResetNode : List (Option AigEdge) → ℕ → ℕ → Type 0
IsResetNode resets n m = (e : AigEdge) × (reset_at resets n ≡ Some e) × (m ≡ e.node_id)

-- m is the node of an operand of gate n, or of the edge that the table has for n
abbrev pub Rests : List AigNode → List (Option AigEdge) → ℕ → ℕ → Type 0
Rests nodes resets n m = IsFanin nodes n m ⊎ IsResetNode resets n m

-- n rests on m, directly or through others, or is it
abbrev pub Leads : List AigNode → List (Option AigEdge) → ℕ → ℕ → Type 0
Leads nodes resets n m = IsReached (Rests nodes resets) (n ∷ []) m

-- some node rests on itself
abbrev pub HasCircle : List AigNode → List (Option AigEdge) → Type 0
HasCircle nodes resets = (n m : ℕ) × Rests nodes resets n m × Leads nodes resets m n

-- no way down along such steps goes on for ever
pub data IsGrounded (Step : ℕ → ℕ → Type 0) : ℕ → Type 0 where
  grounded : {n : ℕ} → ((m : ℕ) → Step n m → IsGrounded Step m) → IsGrounded Step n

-- all nodes are so
abbrev pub AllGrounded : List AigNode → List (Option AigEdge) → Type 0
AllGrounded nodes resets =
    (n : ℕ) → n < length nodes → IsGrounded (Rests nodes resets) n

-- ---- the search

-- a node of which P holds and that isn't settled, if there is one
abbrev pub IsUnsettled : List Bool → (ℕ → Type 0) → Option ℕ → Type 0
IsUnsettled settled P None = (m : ℕ) → P m → IsMarked settled m
IsUnsettled settled P (Some m) = P m × (slice_index_or settled m false ≡ false)

-- how many nodes weren't opened
abbrev pub closed_count : List Bool → ℕ
closed_count opened = sum_by (λ marked. if marked then 0 else 1) opened

-- what is left to do: nodes to open, and those that wait
abbrev pub work_of : Search → ℕ
work_of s = 2 * closed_count s.opened.items + length s.path.items

-- what was opened stays so
abbrev pub StaysOpen : Search → Search → Type 0
StaysOpen old new = (n : ℕ) → IsMarked old.opened.items n → IsMarked new.opened.items n

-- a search in which nothing was opened
pub record IsNew (count : ℕ) (s : Search) : Type 0 where
  pub settled : s.settled.items ≡ replicate count false
  pub opened : s.opened.items ≡ replicate count false
  pub path : s.path.items ≡ []

-- the search has two marks for each node, and settled nodes are grounded
pub record IsSearch (nodes : List AigNode) (resets : List (Option AigEdge)) (s : Search) : Type 0
  where
    pub settled : length s.settled.items ≡ length nodes
    pub opened : length s.opened.items ≡ length nodes
    pub right : (n : ℕ) → IsMarked s.settled.items n → IsGrounded (Rests nodes resets) n

-- the search is at node n: what was opened is settled or waits on the path to it
pub record IsAt (nodes : List AigNode) (resets : List (Option AigEdge)) (s : Search) (n : ℕ)
    : Type 0 where
  pub search : IsSearch nodes resets s
  pub within : n < length nodes
  pub all_within : All (λ m. m < length nodes) s.path.items
  pub waits : AllPairs (Leads nodes resets) s.path.items
  pub leads : All (λ m. Leads nodes resets m n) s.path.items
  pub opened : (m : ℕ) → IsMarked s.opened.items m
      → IsMarked s.settled.items m ⊎ (Contains s.path.items m ⊎ (m ≡ n))

-- nothing waits, and what was opened is settled
pub record IsAtRest (nodes : List AigNode) (resets : List (Option AigEdge)) (s : Search) : Type 0
  where
    pub search : IsSearch nodes resets s
    pub path : s.path.items ≡ []
    pub opened : (n : ℕ) → IsMarked s.opened.items n → IsMarked s.settled.items n

-- node `next` is opened, for which the other waits, or it was open already
abbrev pub Opens : Search → Search → ℕ → ℕ → Turn → Type 0
Opens old new node next (Node n) =
    (n ≡ next) × (slice_index_or old.opened.items next false ≡ false)
    × (new.opened.items ≡ slice_set old.opened.items next true)
    × (new.path.items ≡ old.path.items ++ node ∷ []) × (new.settled.items ≡ old.settled.items)
Opens old new node next Done = ⊥
Opens old new node next Circle = IsMarked old.opened.items next

-- the node is settled, and the last one of the path waits no more
abbrev pub Settles : Search → Search → ℕ → Turn → Type 0
Settles old new node (Node n) =
    (new.settled.items ≡ slice_set old.settled.items node true)
    × (new.opened.items ≡ old.opened.items) × (old.path.items ≡ new.path.items ++ n ∷ [])
Settles old new node Done =
    (new.settled.items ≡ slice_set old.settled.items node true)
    × (new.opened.items ≡ old.opened.items) × (old.path.items ≡ []) × (new.path.items ≡ [])
Settles old new node Circle = ⊥

-- where a step leads
abbrev pub Turns : List AigNode → List (Option AigEdge) → Search → Search → Turn → Type 0
Turns nodes resets old new (Node n) =
    IsAt nodes resets new n × StaysOpen old new × (work_of new < work_of old)
Turns nodes resets old new Done = IsAtRest nodes resets new × StaysOpen old new
Turns nodes resets old new Circle = HasCircle nodes resets

-- what a search from a node on finds: that all on which it rests is settled, or a circle
abbrev pub Finds : List AigNode → List (Option AigEdge) → Search → Search → ℕ → Bool → Type 0
Finds nodes resets old new start circle =
    MatchBool circle (HasCircle nodes resets)
    (IsAtRest nodes resets new × StaysOpen old new × IsMarked new.opened.items start)
