-- Small files and circuits, computed: the definitions give what the format wants of them.
use Rattle.aig_base.proofs.Words.{◌≡◌, ℕ, List, [], ◌∷◌, ◌++◌, Option, Some, None, true, false, refl, codes}
use Rattle.std.specs.Fmt.{digits}
use Rattle.std.specs.FinMap.{empty, gets}
use Rattle.aig_circuit.specs.declared.edge.AigEdge.{AigEdge}
use Rattle.aig_circuit.specs.declared.node.AigNodeType.{AigNodeType}
use Rattle.aig_circuit.specs.declared.node.AigNodeType.TheVariants.{False, Leaf, And}
use Rattle.aig_circuit.specs.declared.node.AigNode.{AigNode}
use Rattle.aig_circuit.specs.declared.node.AigLatch.{AigLatch}
use Rattle.aig_circuit.proofs.Words.{edge_to, Circuit, no_properties, reencoded}
use Rattle.aig_format.specs.declared.FileKind.{FileKind}
use Rattle.aig_format.specs.declared.FileKind.TheVariants.{Text, Binary}
use Rattle.aig_format.proofs.Words.{LatchLine, File, circuit_of, file_of}
use Rattle.aig_format.specs.Numbering.{node_of_variable, variables_in_order}
use Rattle.aig_format.specs.Written.{file_text, line_text, delta_of}
use Rattle.aig_format.proofs.Examples.{and_file}

abbrev pub node : ℕ → AigNodeType → AigNode
node n kind = record { node_id = n; typ = kind }

-- and(1,2): false, two leaves, the gate with its operands in order
and_file-nodes : (circuit_of and_file).nodes ≡ node 0 False ∷ node 1 Leaf ∷ node 2 Leaf ∷ node 3 (And (edge_to 1 false) (edge_to 2 false)) ∷ []
unfolding node_of_variable variables_in_order
and_file-nodes = refl

and_file-outputs : (circuit_of and_file).properties.outputs ≡ edge_to 3 false ∷ []
unfolding node_of_variable variables_in_order
and_file-outputs = refl

-- its text form is the same file, names aside
and_file-file : record (file_of Text (circuit_of and_file)) { names = [] } ≡ and_file
unfolding node_of_variable variables_in_order
and_file-file = refl

-- the operands in the other order give the same circuit
and_file-turned : circuit_of (record and_file { gates = record { lhs = 6; rhs0 = 2; rhs1 = 4 } ∷ [] }) ≡ circuit_of and_file
unfolding node_of_variable variables_in_order
and_file-turned = refl

-- latch 1 with next !1, output 1, and this reset
abbrev pub latch_file : LatchLine → File
latch_file l = record { kind = Text; greatest = 1; inputs = []; latches = l ∷ []; properties = record no_properties { outputs = 2 ∷ [] }; gates = []; names = [] }

latch_file-false : (circuit_of (latch_file (record { literal = 2; next = 3; reset = None }))).latchs ≡ record { input = 1; next = edge_to 1 true; init = Some (edge_to 0 false) } ∷ []
unfolding node_of_variable variables_in_order
latch_file-false = refl

latch_file-true : (circuit_of (latch_file (record { literal = 2; next = 3; reset = Some 1 }))).latchs ≡ record { input = 1; next = edge_to 1 true; init = Some (edge_to 0 true) } ∷ []
unfolding node_of_variable variables_in_order
latch_file-true = refl

latch_file-none : (circuit_of (latch_file (record { literal = 2; next = 3; reset = Some 2 }))).latchs ≡ record { input = 1; next = edge_to 1 true; init = None } ∷ []
unfolding node_of_variable variables_in_order
latch_file-none = refl

latch_file-files : record (file_of Text (circuit_of (latch_file (record { literal = 2; next = 3; reset = Some 2 })))) { names = [] } ≡ latch_file (record { literal = 2; next = 3; reset = Some 2 })
unfolding node_of_variable variables_in_order
latch_file-files = refl

-- latch 2 with next true, gate and(1,2), a name for the input, justice sets and a fairness literal
abbrev pub mixed_file : File
mixed_file = record {
  kind = Text;
  greatest = 3;
  inputs = 2 ∷ [];
  latches = record { literal = 4; next = 1; reset = None } ∷ [];
  properties = record no_properties { outputs = 6 ∷ []; justice = (2 ∷ 5 ∷ []) ∷ (4 ∷ []) ∷ []; fairness = 3 ∷ [] };
  gates = record { lhs = 6; rhs0 = 4; rhs1 = 2 } ∷ [];
  names = record { letter = 105; position = 0; name = 97 ∷ [] } ∷ record { letter = 108; position = 0; name = [] } ∷ [];
}

mixed_file-file : record (file_of Text (circuit_of mixed_file)) { names = mixed_file.names } ≡ mixed_file
unfolding node_of_variable variables_in_order
mixed_file-file = refl

-- its names are read back
mixed_file-names : (file_of Text (circuit_of mixed_file)).names ≡ mixed_file.names
unfolding node_of_variable variables_in_order
mixed_file-names = simp gets refl

-- ---- the written forms of circuits

-- a circuit of these lists, with no names
abbrev pub unnamed : List AigNode → List ℕ → List AigLatch → List AigEdge → List (List AigEdge) → List AigEdge → Circuit
unnamed nodes inputs latchs outputs justice fairness =
    record { nodes = nodes; inputs = inputs; latchs = latchs; properties = record no_properties { outputs = outputs; justice = justice; fairness = fairness }; names = empty }

-- the text of a circuit without its names, which are looked up and don't compute
abbrev pub lists_text : FileKind → Circuit → List ℕ
lists_text kind c = file_text (record (file_of kind c) { names = [] })

-- leaf 1 a latch with next 2 and initial edge false, leaf 2 an input, output 1
abbrev pub latch_before_input : Circuit
latch_before_input = unnamed (node 0 False ∷ node 1 Leaf ∷ node 2 Leaf ∷ []) (2 ∷ []) (record { input = 1; next = edge_to 2 false; init = Some (edge_to 0 false) } ∷ []) (edge_to 1 false ∷ []) [] []

-- in the binary form's numbering: input 1, latch 2 with next 1 and initial edge false, output 2
latch_before_input-inputs : (reencoded latch_before_input).inputs ≡ 1 ∷ []
latch_before_input-inputs = refl

latch_before_input-latchs : (reencoded latch_before_input).latchs ≡ record { input = 2; next = edge_to 1 false; init = Some (edge_to 0 false) } ∷ []
latch_before_input-latchs = refl

latch_before_input-outputs : (reencoded latch_before_input).properties.outputs ≡ edge_to 2 false ∷ []
latch_before_input-outputs = refl

latch_before_input-nodes : (reencoded latch_before_input).nodes ≡ latch_before_input.nodes
latch_before_input-nodes = refl

-- inputs 1 and 4, latch 2 with next 5 and initial edge false, gates 3 = and(1,2) and 5 = and(3,4), outputs 3 and 5
abbrev pub two_steps : Circuit
two_steps = unnamed (node 0 False ∷ node 1 Leaf ∷ node 2 Leaf ∷ node 3 (And (edge_to 1 false) (edge_to 2 false)) ∷ node 4 Leaf ∷ node 5 (And (edge_to 3 false) (edge_to 4 false)) ∷ [])
    (1 ∷ 4 ∷ []) (record { input = 2; next = edge_to 5 false; init = Some (edge_to 0 false) } ∷ []) (edge_to 3 false ∷ edge_to 5 false ∷ []) [] []

two_steps-text : lists_text Text two_steps ≡ codes "aag 5 2 1 2 2\n2\n8\n4 10\n6\n10\n6 4 2\n10 8 6\n"
unfolding file_text line_text digits
two_steps-text = refl

-- in the binary form the inputs come first, and the two differences of each gate are 2 and 4
two_steps-binary : lists_text Binary (reencoded two_steps) ≡ codes "aig 5 2 1 2 2\n10\n8\n10\n" ++ 2 ∷ 4 ∷ 2 ∷ 4 ∷ []
unfolding file_text line_text digits delta_of
two_steps-binary = refl

-- justice sets 1, !2 and 2, fairness !1 over two inputs
abbrev pub justice_sets : Circuit
justice_sets = unnamed (node 0 False ∷ node 1 Leaf ∷ node 2 Leaf ∷ []) (1 ∷ 2 ∷ []) [] [] ((edge_to 1 false ∷ edge_to 2 true ∷ []) ∷ (edge_to 2 false ∷ []) ∷ []) (edge_to 1 true ∷ [])

justice_sets-text : lists_text Text justice_sets ≡ codes "aag 2 2 0 0 0 0 0 2 1\n2\n4\n2\n1\n2\n5\n4\n3\n"
unfolding file_text line_text digits
justice_sets-text = refl

-- the output true, and no list after it that is written
justice_sets-constant : lists_text Text (unnamed (node 0 False ∷ []) [] [] (edge_to 0 true ∷ []) [] []) ≡ codes "aag 0 0 0 1 0\n1\n"
unfolding file_text line_text digits
justice_sets-constant = refl

-- a reset of 0 isn't written, 1 and the latch's own literal are
abbrev latch_text : (init : Option AigEdge) → List ℕ
latch_text init = lists_text Text (unnamed (node 0 False ∷ node 1 Leaf ∷ []) [] (record { input = 1; next = edge_to 1 true; init = init } ∷ []) (edge_to 1 false ∷ []) [] [])

latch_text_false : latch_text (Some (edge_to 0 false)) ≡ codes "aag 1 0 1 1 0\n2 3\n2\n"
unfolding file_text line_text digits
latch_text_false = refl

latch_text_true : latch_text (Some (edge_to 0 true)) ≡ codes "aag 1 0 1 1 0\n2 3 1\n2\n"
unfolding file_text line_text digits
latch_text_true = refl

latch_text_none : latch_text None ≡ codes "aag 1 0 1 1 0\n2 3 2\n2\n"
unfolding file_text line_text digits
latch_text_none = refl
