-- Part of what is promised.
-- Which question it is, node by node. (Constants are folded; no gate is shared.)
use Rattle.std.specs.Prelude.{ℕ, ◌==◌, false, true, if◌then◌else◌, is_none, option_map, Option, Some, None, List, [], ◌∷◌, ◌++◌, length, filter}
use Rattle.std.specs.FinMap.{empty}
use Rattle.std.specs.Option.{option_or}
use Rattle.aig_circuit.specs.declared.edge.AigEdge.{AigEdge}
use Rattle.aig_circuit.specs.declared.node.AigLatch.{AigLatch}
use Rattle.aig_circuit.specs.declared.node.AigNode.{AigNode}
use Rattle.aig_circuit.specs.declared.node.AigNodeType.{AigNodeType}
use Rattle.aig_circuit.specs.declared.node.AigNodeType.TheVariants.{False}
use Rattle.aig_circuit.specs.Build.{with_node}
use Rattle.aig_circuit.specs.Circuit.{Circuit}
use Rattle.aig_circuit.specs.Edge.{edge_to, inverse}
use Rattle.aig_circuit.specs.Node.{and_of}
use Rattle.aig_circuit.specs.Properties.{no_properties}
use Rattle.aig_unroll.specs.Frame.{Frame, folded, frame_to, image_at, image_in, next_of}
use Rattle.aig_unroll.specs.Places.{leaves_after}
use Rattle.aig_witness_circuits.specs.Claims.{constraint_claims, good_claims, move_claims, start_claims}
use Rattle.aig_witness_circuits.specs.Simulation.{Sharing}
use Rattle.aig_witness_circuits.specs.declared.claims.Claim.{Claim}
use Rattle.aig_witness_circuits.specs.declared.claims.Claim.TheVariants.{Edge, Equal}
use Rattle.aig_witness_circuits.specs.declared.condition.Condition.{Condition}
use Rattle.aig_witness_circuits.specs.declared.condition.Condition.TheVariants.{Reset, Transition, Property, Base, Step}

-- ---- shared leaves

-- the model's leaf for which leaf n of the witness circuit stands, if there is one
abbrev pub model_leaf : Sharing → ℕ → Option ℕ
model_leaf [] n = None
model_leaf (p ∷ shared) n = if p.1 == n then Some p.0 else model_leaf shared n

-- the latches whose leaves stand for none
abbrev pub own_latches : (ℕ → Option ℕ) → List AigLatch → List AigLatch
own_latches leaf latchs = filter (λ latch. is_none (leaf latch.input)) latchs

-- ---- copies

-- no leaf is given
abbrev pub no_leaf : ℕ → Option AigEdge
no_leaf n = None

-- the leaves of latches are given, as the images of their next edges
abbrev pub next_leaves : List AigLatch → List AigEdge → ℕ → Option AigEdge
next_leaves latchs before n = option_map (image_in before) (next_of latchs n)

-- shared leaves are given, as the images of those that they stand for, and others as they were
abbrev pub shared_leaves : (ℕ → Option ℕ) → List AigEdge → (ℕ → Option AigEdge) → ℕ
    → Option AigEdge
shared_leaves leaf others given n = option_or (option_map (image_at others) (leaf n)) (given n)

-- nodes, and images in them
abbrev pub frame_in : List AigNode → List AigEdge → Frame
frame_in nodes images = record { nodes = nodes; images = images }

-- these nodes and a copy of the circuit
abbrev pub copy_after : List AigNode → Circuit → (ℕ → Option AigEdge) → Frame
copy_after nodes c given = frame_to c.nodes given nodes (length c.nodes)

-- ---- gates

-- nodes, and an edge in them
pub record Made : Type 0 where
  pub nodes : List AigNode
  pub edge : AigEdge

abbrev pub made_in : List AigNode → AigEdge → Made
made_in nodes edge = record { nodes = nodes; edge = edge }

-- the edge that was folded to, or else that to a new node
abbrev pub made_by : Option AigEdge → AigNodeType → List AigNode → Made
made_by (Some e) kind nodes = made_in nodes e
made_by None kind nodes = made_in (with_node nodes kind) (edge_to (length nodes) false)

abbrev pub make_and : List AigNode → AigEdge → AigEdge → Made
make_and nodes a b = made_by (folded a b) (and_of a b) nodes

-- both or neither
abbrev pub make_equal : List AigNode → AigEdge → AigEdge → Made
make_equal nodes a b =
    let both = make_and nodes a b in
    let neither = make_and both.nodes (inverse a) (inverse b) in
    let differ = make_and neither.nodes (inverse both.edge) (inverse neither.edge) in
    made_in differ.nodes (inverse differ.edge)

-- the edge and all others, joined from the left
abbrev pub make_ands : Made → List AigEdge → Made
make_ands made [] = made
make_ands made (e ∷ es) = make_ands (make_and made.nodes made.edge e) es

abbrev pub make_all : List AigNode → List AigEdge → Made
make_all nodes es = make_ands (made_in nodes (edge_to 0 true)) es

-- ---- claims

-- the edge that is true where the claim holds
abbrev pub make_claim : List AigNode → Claim → Made
make_claim nodes (Edge e) = made_in nodes e
make_claim nodes (Equal a b) = make_equal nodes a b

-- nodes, and edges in them
pub record Listed : Type 0 where
  pub nodes : List AigNode
  pub edges : List AigEdge

abbrev pub listed_in : List AigNode → List AigEdge → Listed
listed_in nodes edges = record { nodes = nodes; edges = edges }

-- an edge more
abbrev pub with_made : List AigEdge → Made → Listed
with_made edges made = listed_in made.nodes (edges ++ made.edge ∷ [])

-- the edges of claims, one after another
abbrev pub with_claims : Listed → List Claim → Listed
with_claims listed [] = listed
with_claims listed (c ∷ cs) =
    with_claims (with_made listed.edges (make_claim listed.nodes c)) cs

-- all premises, and not all conclusions
abbrev pub make_refuting : List AigNode → List Claim → List Claim → Made
make_refuting nodes premises conclusions =
    let given = with_claims (listed_in nodes []) premises in
    let wanted = with_claims (listed_in given.nodes []) conclusions in
    let asked = make_all wanted.nodes given.edges in
    let shown = make_all asked.nodes wanted.edges in
    make_and shown.nodes asked.edge (inverse shown.edge)

-- ---- what is asked of copies: x and next of the model, y and z of the witness circuit

abbrev pub make_reset : List AigLatch → Circuit → Circuit → Frame → Frame → Made
make_reset own model witness x y =
    make_refuting y.nodes
    (start_claims model.latchs x.images ++ constraint_claims model x.images
    ++ start_claims own y.images)
    (start_claims witness.latchs y.images ++ constraint_claims witness y.images)

abbrev pub make_transition : Circuit → Circuit → Frame → Frame → Frame → Frame → Made
make_transition model witness x y next z =
    make_refuting z.nodes
    (constraint_claims model x.images ++ constraint_claims model next.images
    ++ constraint_claims witness y.images)
    (move_claims witness y.images z.images ++ constraint_claims witness z.images)

abbrev pub make_property : Circuit → Circuit → Frame → Frame → Made
make_property model witness x y =
    make_refuting y.nodes
    (constraint_claims model x.images ++ constraint_claims witness y.images
    ++ good_claims witness y.images)
    (good_claims model x.images)

abbrev pub make_base : Circuit → Frame → Made
make_base witness y =
    make_refuting y.nodes
    (start_claims witness.latchs y.images ++ constraint_claims witness y.images)
    (good_claims witness y.images)

abbrev pub make_step : Circuit → Frame → Frame → Made
make_step witness y z =
    make_refuting z.nodes
    (good_claims witness y.images ++ constraint_claims witness y.images
    ++ constraint_claims witness z.images)
    (good_claims witness z.images)

-- ---- questions, each after copies of the circuits

-- a copy of the witness circuit that shares leaves with that of the model
abbrev pub beside : (ℕ → Option ℕ) → Circuit → Frame → Frame
beside leaf witness x = copy_after x.nodes witness (shared_leaves leaf x.images no_leaf)

-- a copy after a step of the circuit, and one that also shares leaves
abbrev pub moved : Circuit → List AigEdge → List AigNode → Frame
moved c before nodes = copy_after nodes c (next_leaves c.latchs before)

abbrev pub moved_beside : (ℕ → Option ℕ) → Circuit → List AigEdge → Frame → Frame
moved_beside leaf c before x =
    copy_after x.nodes c (shared_leaves leaf x.images (next_leaves c.latchs before))

abbrev pub asked_reset : List AigNode → (ℕ → Option ℕ) → Circuit → Circuit → Made
asked_reset nodes leaf model witness =
    let x = copy_after nodes model no_leaf in
    make_reset (own_latches leaf witness.latchs) model witness x (beside leaf witness x)

abbrev pub asked_transition : List AigNode → (ℕ → Option ℕ) → Circuit → Circuit → Made
asked_transition nodes leaf model witness =
    let x = copy_after nodes model no_leaf in
    let y = beside leaf witness x in
    let next = moved model x.images y.nodes in
    make_transition model witness x y next (moved_beside leaf witness y.images next)

abbrev pub asked_property : List AigNode → (ℕ → Option ℕ) → Circuit → Circuit → Made
asked_property nodes leaf model witness =
    let x = copy_after nodes model no_leaf in
    make_property model witness x (beside leaf witness x)

abbrev pub asked_base : List AigNode → Circuit → Made
asked_base nodes witness = make_base witness (copy_after nodes witness no_leaf)

abbrev pub asked_step : List AigNode → Circuit → Made
asked_step nodes witness =
    let y = copy_after nodes witness no_leaf in
    make_step witness y (moved witness y.images y.nodes)

-- the edge that is never true exactly where the condition holds
abbrev pub asked_of : Condition → List AigNode → (ℕ → Option ℕ) → Circuit → Circuit → Made
asked_of Reset nodes leaf model witness = asked_reset nodes leaf model witness
asked_of Transition nodes leaf model witness = asked_transition nodes leaf model witness
asked_of Property nodes leaf model witness = asked_property nodes leaf model witness
asked_of Base nodes leaf model witness = asked_base nodes witness
asked_of Step nodes leaf model witness = asked_step nodes witness

-- the circuit of these nodes, whose leaves are inputs, with one bad edge
abbrev pub with_bad : Made → Circuit
with_bad made =
    record {
      nodes = made.nodes;
      inputs = leaves_after 0 made.nodes;
      latchs = [];
      properties = record no_properties { bads = made.edge ∷ [] };
      names = empty;
    }

-- The question for the condition: `leaf` says for which leaf of the model each one of the witness
-- circuit stands.
abbrev pub question_of : Condition → (ℕ → Option ℕ) → Circuit → Circuit → Circuit
question_of condition leaf model witness =
    with_bad (asked_of condition (with_node [] False) leaf model witness)
