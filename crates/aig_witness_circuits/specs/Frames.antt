-- Serves private clauses alone.
-- Copies of circuits: which edges are given for leaves, and what is there.
use Rattle.std.specs.Prelude.{◌≡◌, ℕ, ◌<◌, Bool, false, ◌||◌, Option, None, List, length, map, filter, not, slice_index_or}
use Rattle.aig_circuit.specs.declared.edge.AigEdge.{AigEdge}
use Rattle.aig_circuit.specs.declared.node.AigNode.{AigNode}
use Rattle.aig_circuit.specs.declared.node.AigLatch.{AigLatch}
use Rattle.aig_circuit.specs.Circuit.{Circuit, IsCircuit, IsInRange}
use Rattle.aig_circuit.specs.Renumber.{is_in}
use Rattle.aig_witness_circuits.specs.Simulation.{Sharing}
use Rattle.aig_witness_circuits.specs.declared.claims.Claim.{Claim}
use Rattle.aig_witness_circuits.specs.declared.claims.Claim.TheVariants.{Edge, Equal}
use Rattle.aig_witness_circuits.specs.declared.condition.Condition.{Condition}
use Rattle.aig_witness_circuits.specs.declared.condition.Condition.TheVariants.{Reset, Transition, Property, Base, Step}
use Rattle.aig_unroll.specs.Frame.{image_at}

-- the edge that is given for node n, if one is
abbrev pub given_at : List (Option AigEdge) → ℕ → Option AigEdge
given_at given n = slice_index_or given n None

-- node n has its image among the nodes
abbrev pub HasImage : List AigNode → List AigEdge → ℕ → Type 0
HasImage nodes images n = (n < length images) × IsInRange nodes (image_at images n)

-- the claim's edges are there
abbrev pub IsClaimIn : List AigNode → Claim → Type 0
IsClaimIn nodes (Edge e) = IsInRange nodes e
IsClaimIn nodes (Equal a b) = IsInRange nodes a × IsInRange nodes b

-- the circuits of which the condition speaks are circuits
abbrev pub AreCircuits : Condition → Circuit → Circuit → Type 0
AreCircuits Reset model witness = IsCircuit model × IsCircuit witness
AreCircuits Transition model witness = IsCircuit model × IsCircuit witness
AreCircuits Property model witness = IsCircuit model × IsCircuit witness
AreCircuits Base model witness = IsCircuit witness
AreCircuits Step model witness = IsCircuit witness

-- the latches whose leaves aren't shared
abbrev pub own_among : Sharing → List AigLatch → List AigLatch
own_among shared latchs = filter (λ latch. not (is_in (map (λ p. p.1) shared) latch.input)) latchs

-- the mark of node n
abbrev pub is_marked : List Bool → ℕ → Bool
is_marked marks n = slice_index_or marks n false

-- shared leaves are marked too
abbrev pub MarksShared : Sharing → List Bool → List Bool → Type 0
MarksShared shared before after =
    (n : ℕ) → n < length before
    → is_marked after n ≡ (is_marked before n || is_in (map (λ p. p.1) shared) n)
