-- Part of what is promised.
-- Lists of property edges, and justice properties, that are changed.
use Rattle.std.specs.Prelude.{◌≡◌, ◌<◌, ◌++◌, ◌∷◌, [], ◌⊎◌, ℕ, ◌==◌, if◌then◌else◌, List, All, length, Option, Some, None, slice_set}
use Rattle.aig_circuit.specs.declared.edge.AigEdge.{AigEdge}
use Rattle.aig_circuit.specs.declared.prop_list.PropList.{PropList}
use Rattle.aig_circuit.specs.declared.prop_list.PropList.TheVariants.{Outputs, Bads, Constraints, Fairness}
use Rattle.aig_circuit.specs.Circuit.{Circuit, IsInRange}
use Rattle.aig_circuit.specs.PropLists.{edges_of, with_edges}
use Rattle.aig_giving.specs.declared.status.TheConstants.{MEMORY}
use Rattle.aig_handles.specs.declared.status.TheConstants.{RANGE}
use Rattle.aig_handles.specs.Handles.{ChangesOr, Unmet}

-- the list of a number, if there is one
abbrev pub list_of : ℕ → Option PropList
list_of n =
    if n == 0 then Some Outputs
    else if n == 1 then Some Bads
    else if n == 2 then Some Constraints
    else if n == 3 then Some Fairness
    else None

-- The list of the number is changed so, if there is one, and what is asked of it holds; or the
-- circuit stays.
abbrev pub OnList : Option PropList → ℕ → Circuit → Circuit
    → (PropList → List AigEdge) → (PropList → Type 0) → Type 0 → Type 0
OnList None status old new becomes Asked Refused = (status ≡ RANGE) × (new ≡ old)
OnList (Some list) status old new becomes Asked Refused =
    ChangesOr status old new (Asked list × (new ≡ with_edges list old (becomes list)))
    (Unmet RANGE status (Asked list) ⊎ Refused)

-- an edge is appended
abbrev pub PushesOr : ℕ → AigEdge → ℕ → Circuit → Circuit → Type 0
PushesOr list e status old new =
    OnList (list_of list) status old new (λ l. edges_of l old ++ e ∷ [])
    (λ _. IsInRange old.nodes e) (status ≡ MEMORY)

-- entry i is replaced
abbrev pub SetsEdgeOr : ℕ → ℕ → AigEdge → ℕ → Circuit → Circuit → Type 0
SetsEdgeOr list i e status old new =
    OnList (list_of list) status old new (λ l. slice_set (edges_of l old) i e)
    (λ l. (i < length (edges_of l old)) × IsInRange old.nodes e) ⊥

-- all entries are replaced
abbrev pub SetsEdgesOr : ℕ → List AigEdge → ℕ → Circuit → Circuit → Type 0
SetsEdgesOr list es status old new =
    OnList (list_of list) status old new (λ _. es) (λ _. All (IsInRange old.nodes) es)
    (status ≡ MEMORY)

-- the list is emptied
abbrev pub ClearsOr : ℕ → ℕ → Circuit → Circuit → Type 0
ClearsOr list status old new = OnList (list_of list) status old new (λ _. []) (λ _. Unit {0}) ⊥

-- the circuit with these justice properties
abbrev pub with_justice : Circuit → List (List AigEdge) → Circuit
with_justice c sets = record c { properties = record c.properties { justice = sets } }

-- a justice property is appended
abbrev pub PushesJusticeOr : List AigEdge → ℕ → Circuit → Circuit → Type 0
PushesJusticeOr es status old new =
    ChangesOr status old new (All (IsInRange old.nodes) es
    × (new ≡ with_justice old (old.properties.justice ++ es ∷ [])))
    (Unmet RANGE status (All (IsInRange old.nodes) es) ⊎ (status ≡ MEMORY))
