-- Part of what is promised.
-- What of a circuit is told, and names that are set.
use Rattle.std.specs.Prelude.{◌≡◌, ◌<◌, ◌⊎◌, ℕ, List, IsSome, IsSomeAnd, IsUtf8, length, map, slice_get}
use Rattle.std.specs.FinMap.{contains_key, get, insert}
use Rattle.std.specs.List.{filter, range_with_len}
use Rattle.aig_circuit.specs.Circuit.{Circuit}
use Rattle.aig_circuit.specs.Edge.{literal_of}
use Rattle.aig_circuit.specs.Node.{gates_of}
use Rattle.aig_circuit.specs.PropLists.{edges_of}
use Rattle.aig_giving.specs.declared.lists.GivenLatch.{GivenLatch}
use Rattle.aig_giving.specs.declared.lists.GivenNode.{GivenNode}
use Rattle.aig_giving.specs.Edges.{given_latch, given_node}
use Rattle.aig_giving.specs.Given.{GivesOr}
use Rattle.aig_giving.specs.declared.status.TheConstants.{DONE, MEMORY}
use Rattle.aig_handles.specs.Handles.{ChangesOr, HasRoom, Unmet}
use Rattle.aig_handles.specs.Lists.{list_of}
use Rattle.aig_handles.specs.declared.status.TheConstants.{FULL, NOT_UTF8, NO_NAME, RANGE}

-- a count is told
abbrev pub Counts : (Circuit → ℕ) → ℕ → ℕ → Circuit → Circuit → Type 0
Counts of status count old new = (status ≡ DONE) × (new ≡ old) × (count ≡ of old)

-- these items of the circuit are given
abbrev pub Lists : {X : Type 0} → (Circuit → List X) → ℕ → List X → List X → ℕ → ℕ → Type 0
    → Circuit → Type 0
Lists of status old new before needed Refused c =
    GivesOr (λ items. items ≡ of c) status old new before needed Refused

-- its edges have no literals, or memory was refused
abbrev pub HasNoLiterals : ℕ → Circuit → Type 0
HasNoLiterals status c = Unmet FULL status (HasRoom c 0) ⊎ (status ≡ MEMORY)

-- its edges have literals, and these items of it are given; or they have none
abbrev pub ListsLiterals : {X : Type 0} → (Circuit → List X) → ℕ → List X → List X → ℕ → ℕ
    → Circuit → Type 0
ListsLiterals of status old new before needed c =
    GivesOr (λ items. HasRoom c 0 × (items ≡ of c)) status old new before needed
    (HasNoLiterals status c)

-- the nodes
abbrev pub node_list : Circuit → List GivenNode
node_list c = map given_node c.nodes

-- the latches
abbrev pub latch_list : Circuit → List GivenLatch
latch_list c = map given_latch c.latchs

-- the literals are those of the list of this number
abbrev pub AreEntries : ℕ → Circuit → List ℕ → Type 0
AreEntries list c literals =
    IsSomeAnd (list_of list) (λ l. HasRoom c 0 × (literals ≡ map literal_of (edges_of l c)))

-- the literals are those of justice property i
abbrev pub AreJustice : ℕ → Circuit → List ℕ → Type 0
AreJustice i c literals =
    IsSomeAnd (slice_get c.properties.justice i)
    (λ es. HasRoom c 0 × (literals ≡ map literal_of es))

-- there is no list of this number; or there is, but edges have no literals, or memory was refused
abbrev pub HasNoEntries : ℕ → ℕ → Circuit → Type 0
HasNoEntries list status c =
    Unmet RANGE status (IsSome (list_of list))
    ⊎ (IsSome (list_of list) × HasNoLiterals status c)

-- there is no justice property i; or there is, but edges have no literals, or memory was refused
abbrev pub HasNoJustice : ℕ → ℕ → Circuit → Type 0
HasNoJustice i status c =
    Unmet RANGE status (i < length c.properties.justice)
    ⊎ ((i < length c.properties.justice) × HasNoLiterals status c)

-- the numbers of the gates
abbrev pub gate_list : Circuit → List ℕ
gate_list c = map (λ gate. gate.node_id) (gates_of c.nodes)

-- the numbers of the nodes that have names, rising
abbrev pub named_list : Circuit → List ℕ
named_list c = filter (contains_key c.names) (range_with_len 0 (length c.nodes))

-- the node is named, in place of an older name
abbrev pub NamesOr : ℕ → List ℕ → ℕ → Circuit → Circuit → Type 0
NamesOr n name status old new =
    ChangesOr status old new ((n < length old.nodes) × IsUtf8 name
    × (new ≡ record old { names = insert old.names n name }))
    (Unmet RANGE status (n < length old.nodes)
    ⊎ ((n < length old.nodes) × Unmet NOT_UTF8 status (IsUtf8 name)) ⊎ (status ≡ MEMORY))

-- the node has no name, or memory was refused
abbrev pub HasNoName : ℕ → ℕ → Circuit → Type 0
HasNoName n status c = Unmet NO_NAME status (IsSome (get c.names n)) ⊎ (status ≡ MEMORY)
