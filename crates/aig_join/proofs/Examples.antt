-- Small circuits, joined.
use Rattle.aig_base.proofs.Words.{◌≡◌, ℕ, Bool, true, false, Option, Some, None, List, [], ◌∷◌, refl, ap, nat_cmp, codes, empty, get-empty, bytes_eq}
use Rattle.aig_circuit.specs.declared.edge.AigEdge.{AigEdge}
use Rattle.aig_circuit.specs.declared.node.AigNodeType.{AigNodeType}
use Rattle.aig_circuit.specs.declared.node.AigNodeType.TheVariants.{False, Leaf, And}
use Rattle.aig_circuit.specs.declared.node.AigNode.{AigNode}
use Rattle.aig_circuit.specs.declared.node.AigLatch.{AigLatch}
use Rattle.aig_circuit.proofs.Words.{edge_to, Circuit, Properties, no_properties}
use Rattle.aig_join.specs.Joined.{joined, number_in_joint}
use Rattle.aig_join.specs.Names.{is_taken, other_name, with_name, with_names}
use Rattle.aig_join.proofs.Naming.{Names}
use Rattle.aig_join.specs.Certificate.{certified}
use Rattle.aig_join.specs.declared.starts.Matching.TheVariants.{ByName, ByOrder}
use Rattle.aig_join.specs.Starts.{Register, partners}

abbrev pub node : ℕ → AigNodeType → AigNode
node n kind = record { node_id = n; typ = kind }

abbrev pub gate : ℕ → AigEdge → AigEdge → AigNode
gate n a b = node n (And a b)

abbrev pub circuit_with : List AigNode → List ℕ → List AigLatch → Properties AigEdge → Circuit
circuit_with nodes inputs latchs properties =
    record {
      nodes = nodes;
      inputs = inputs;
      latchs = latchs;
      properties = properties;
      names = empty;
    }

abbrev pub outputs_only : List AigEdge → Properties AigEdge
outputs_only es = record no_properties { outputs = es }

-- an exclusive or, as neither both nor none
abbrev pub first_xor : Circuit
first_xor = circuit_with
    (node 0 False ∷ node 1 Leaf ∷ node 2 Leaf ∷ gate 3 (edge_to 1 false) (edge_to 2 true) ∷ gate 4
    (edge_to 1 true) (edge_to 2 false) ∷ gate 5 (edge_to 3 true) (edge_to 4 true) ∷ [])
    (1 ∷ 2 ∷ []) [] (outputs_only (edge_to 5 true ∷ []))

-- another, whose inputs are listed the other way round
abbrev pub second_xor : Circuit
second_xor = circuit_with
    (node 0 False ∷ node 1 Leaf ∷ node 2 Leaf ∷ gate 3 (edge_to 1 false) (edge_to 2 false) ∷ gate 4
    (edge_to 1 true) (edge_to 2 true) ∷ gate 5 (edge_to 3 true) (edge_to 4 true) ∷ [])
    (2 ∷ 1 ∷ []) [] (outputs_only (edge_to 5 false ∷ []))

-- the gates of the second stand over the inputs of the first
xors-joined : joined 0 first_xor second_xor ≡ circuit_with
    (node 0 False ∷ node 1 Leaf ∷ node 2 Leaf ∷ gate 3 (edge_to 1 false) (edge_to 2 true) ∷ gate 4
    (edge_to 1 true) (edge_to 2 false) ∷ gate 5 (edge_to 3 true) (edge_to 4 true)
    ∷ gate 6 (edge_to 1 false) (edge_to 2 false) ∷ gate 7 (edge_to 1 true) (edge_to 2 true) ∷ gate 8
    (edge_to 6 true) (edge_to 7 true) ∷ [])
    (1 ∷ 2 ∷ []) [] (outputs_only (edge_to 5 true ∷ edge_to 8 false ∷ []))
xors-joined = refl

-- a latch that toggles from false, and one that toggles from true, never both true
abbrev pub toggles : Circuit
toggles = circuit_with
    (node 0 False ∷ node 1 Leaf ∷ node 2 Leaf ∷ gate 3 (edge_to 1 false) (edge_to 2 false) ∷ [])
    []
    (record { input = 1; next = edge_to 1 true; init = Some (edge_to 0 false) } ∷ record
    { input = 2; next = edge_to 2 true; init = Some (edge_to 0 true) } ∷ [])
    (record no_properties { bads = edge_to 3 false ∷ [] })

-- the invariant that the two differ, as a constraint, beside a further latch that is never read
abbrev pub invariant : Circuit
invariant = circuit_with
    (node 0 False ∷ node 1 Leaf ∷ node 2 Leaf ∷ node 3 Leaf ∷ gate 4 (edge_to 1 false)
    (edge_to 3 false) ∷ gate 5 (edge_to 1 true) (edge_to 3 true) ∷ gate 6 (edge_to 4 true)
    (edge_to 5 true) ∷ [])
    []
    (record { input = 1; next = edge_to 0 false; init = None } ∷ record
    { input = 3; next = edge_to 0 true; init = None } ∷ record
    { input = 2; next = edge_to 2 false; init = Some (edge_to 0 true) } ∷ [])
    (record no_properties { bads = edge_to 4 false ∷ []; constraints = edge_to 6 false ∷ [] })

-- nothing is named where the second circuit has no names
nameless : (number : ℕ → ℕ) (taken : List ℕ → Bool) (n : ℕ)
    → with_names number taken empty empty (n ∷ []) ≡ empty
nameless number taken n =
    ap (λ o. with_name empty (number n) (other_name taken o)) (get-empty nat_cmp n)

-- the next and initial edges are those of the model, and the constraint's inverse is bad
toggles-certified : certified toggles invariant ≡ circuit_with
    (node 0 False ∷ node 1 Leaf ∷ node 2 Leaf ∷ gate 3 (edge_to 1 false) (edge_to 2 false)
    ∷ node 4 Leaf ∷ gate 5 (edge_to 1 false) (edge_to 2 false) ∷ gate 6 (edge_to 1 true)
    (edge_to 2 true) ∷ gate 7 (edge_to 5 true) (edge_to 6 true) ∷ [])
    []
    (record { input = 1; next = edge_to 1 true; init = Some (edge_to 0 false) } ∷ record
    { input = 2; next = edge_to 2 true; init = Some (edge_to 0 true) } ∷ record
    { input = 4; next = edge_to 4 false; init = Some (edge_to 0 true) } ∷ [])
    (record no_properties { bads = edge_to 3 false ∷ edge_to 5 false ∷ edge_to 7 true ∷ [] })
toggles-certified = ap (λ (names : Names). record (certified toggles invariant) { names = names })
    (nameless (number_in_joint 2 toggles invariant) (is_taken toggles) 2)

-- a name behind the prefix, unless that is taken
other-named : other_name (λ text. false) (Some (codes "q")) ≡ Some (codes "other.q")
other-named = refl

taken-name : other_name (λ text. bytes_eq (codes "other.q") text) (Some (codes "q")) ≡ None
taken-name = refl

-- ---- registers that start alike

abbrev pub register : ℕ → Bool → Option (List ℕ) → Register
register n is_open name = record { place = n; is_open = is_open; name = name }

-- the last of the second has none left, and one that isn't open takes none
by-order : partners ByOrder
    (register 1 true None ∷ register 2 false None ∷ register 3 true None ∷ [])
    (register 5 true None ∷ register 6 false None ∷ register 7 true None ∷ register 8 true None
    ∷ [])
    ≡ Some 1 ∷ None ∷ Some 3 ∷ None ∷ []
by-order = refl

-- the first open one of the name counts; the others' name is that of one that isn't open, that of
-- none, no name, and that of one that isn't open itself
by-name : partners ByName
    (register 1 false (Some (codes "p")) ∷ register 2 true (Some (codes "q"))
    ∷ register 3 true (Some (codes "q")) ∷ register 4 true None ∷ [])
    (register 5 true (Some (codes "q")) ∷ register 6 true (Some (codes "p"))
    ∷ register 7 true (Some (codes "r")) ∷ register 8 true None
    ∷ register 9 false (Some (codes "q")) ∷ [])
    ≡ Some 2 ∷ None ∷ None ∷ None ∷ None ∷ []
by-name = refl
