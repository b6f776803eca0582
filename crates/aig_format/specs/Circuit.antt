-- Part of what is promised.
-- The circuit of a file, and the files of a circuit. (AIGER format 20071012:
-- "Input/Latch/Output/And section", "Binary encoding"; AIGER 1.9: "Reset logic".)
use Rattle.std.specs.Prelude.{◌≡◌, ℕ, ◌+◌, ◌-◌, ◌*◌, ◌/◌, ◌%◌, ◌==◌, ◌≤◌, nat_lt, slice_index, if◌then◌else◌, List, [], ◌∷◌, ◌++◌, length, map, filter_map, Option, Some, None, option_map, unwrap_or, option_to_list}
use Rattle.std.specs.List.{list_any}
use Rattle.std.specs.FinMap.{get, from_entries, retain_keys}
use Rattle.aig_circuit.specs.declared.edge.AigEdge.{AigEdge}
use Rattle.aig_circuit.specs.declared.node.AigNodeType.{AigNodeType}
use Rattle.aig_circuit.specs.declared.node.AigNodeType.TheVariants.{False, Leaf, And}
use Rattle.aig_circuit.specs.declared.node.AigNode.{AigNode}
use Rattle.aig_circuit.specs.declared.node.AigLatch.{AigLatch}
use Rattle.aig_circuit.specs.Edge.{edge_to, literal_of}
use Rattle.aig_circuit.specs.Node.{and_of}
use Rattle.aig_circuit.specs.Circuit.{Circuit, latch_leaves}
use Rattle.aig_circuit.specs.Properties.{map_properties}
use Rattle.aig_circuit.specs.Reencode.{reencoded}
use Rattle.aig_format.specs.declared.FileKind.{FileKind}
use Rattle.aig_format.specs.declared.FileKind.TheVariants.{Text, Binary}
use Rattle.aig_format.specs.File.{LatchLine, GateLine, NameLine, File}
use Rattle.aig_format.specs.Letters.{letter_of_inputs, letter_of_latches}
use Rattle.aig_format.specs.Variables.{gate_of_variable}
use Rattle.aig_format.specs.Numbering.{node_of_variable, variables_in_order}
use Rattle.aig_format.specs.Fits.{Accepts}
use Rattle.aig_format.specs.Written.{file_text}

-- ---- from a file to its circuit

-- a literal's edge: to its variable's node, inverted where it is odd
abbrev pub edge_of : File → ℕ → AigEdge
edge_of f e = edge_to (node_of_variable f (e / 2)) (e % 2 == 1)

-- a gate is the and of its operands, put in order; a variable that no gate defines is a leaf
abbrev pub kind_by : File → Option GateLine → AigNodeType
kind_by f (Some g) = and_of (edge_of f g.rhs0) (edge_of f g.rhs1)
kind_by f None = Leaf

-- what a variable is: 0 is false, and any other by its gate
abbrev pub kind_of : File → ℕ → AigNodeType
kind_of f v = if v == 0 then False else kind_by f (gate_of_variable f v)

-- the nodes of these variables, numbered from i on
abbrev pub nodes_from : File → ℕ → List ℕ → List AigNode
nodes_from f i [] = []
nodes_from f i (v ∷ vs) = record { node_id = i; typ = kind_of f v } ∷ nodes_from f (i + 1) vs

-- a reset: 0 or none is the initial edge false, 1 is true, the latch's own literal is no initial
-- edge
abbrev pub initial_of : LatchLine → Option AigEdge
initial_of l = let r = unwrap_or l.reset 0 in if nat_lt r 2 then Some (edge_to 0 (r == 1)) else None

-- the latch of a line
abbrev pub latch_of : File → LatchLine → AigLatch
latch_of f l =
    record
    { input = node_of_variable f (l.literal / 2); next = edge_of f l.next; init = initial_of l }

-- the node that a name of an input or a latch names; other names are dropped
abbrev pub named_node : File → NameLine → Option (ℕ × List ℕ)
named_node f n =
    let node_at =
    λ (literals : List ℕ). Some (node_of_variable f (slice_index literals n.position / 2), n.name)
    in
    if n.letter == letter_of_inputs then node_at f.inputs
    else if n.letter == letter_of_latches then node_at (map (λ l. l.literal) f.latches)
    else None

-- the circuit of a file: false, then a node for each variable that is defined, in their order;
-- lists keep the file's order
abbrev pub circuit_of : File → Circuit
circuit_of f = record {
  nodes = nodes_from f 0 (0 ∷ variables_in_order f);
  inputs = map (λ e. node_of_variable f (e / 2)) f.inputs;
  latchs = map (latch_of f) f.latches;
  properties = map_properties (edge_of f) f.properties;
  names = from_entries (filter_map (named_node f) f.names);
}

-- ---- from a circuit to its files

-- a reset as it is written: none for false, 1 for true, the latch's own literal for no initial edge
abbrev pub reset_of : AigLatch → Option ℕ
reset_of latch = by_init latch.input latch.init
  where
    by_init : ℕ → Option AigEdge → Option ℕ
    by_init n (Some e) = if literal_of e == 0 then None else Some (literal_of e)
    by_init n None = Some (2 * n)

-- the line of a latch
abbrev pub latch_line : AigLatch → LatchLine
latch_line latch =
    record { literal = 2 * latch.input; next = literal_of latch.next; reset = reset_of latch }

-- a gate's line: the greater operand first
abbrev pub gate_line : AigNode → Option GateLine
gate_line node = by_kind node.node_id node.typ
  where
    by_kind : ℕ → AigNodeType → Option GateLine
    by_kind n (And a b) = Some (record { lhs = 2 * n; rhs0 = literal_of b; rhs1 = literal_of a })
    by_kind n Leaf = None
    by_kind n False = None

-- a name line for each entry of a list of nodes that has a name, in order of position
abbrev pub name_lines : ℕ → ℕ → List ℕ → (ℕ → Option (List ℕ)) → List NameLine
name_lines letter position [] name = []
name_lines letter position (n ∷ ns) name =
    option_to_list
    (option_map (λ bytes. record { letter = letter; position = position; name = bytes }) (name n))
    ++ name_lines letter (position + 1) ns name

-- the file of a circuit: its own node numbers; names of inputs, then of latches, and no others
abbrev pub file_of : FileKind → Circuit → File
file_of kind c = record {
  kind = kind;
  greatest = length c.nodes - 1;
  inputs = map (λ n. 2 * n) c.inputs;
  latches = map latch_line c.latchs;
  properties = map_properties literal_of c.properties;
  gates = filter_map gate_line c.nodes;
  names =
      name_lines letter_of_inputs 0 c.inputs (get c.names)
      ++ name_lines letter_of_latches 0 (latch_leaves c.latchs) (get c.names);
}

-- the one text form of a circuit
abbrev pub text_of : Circuit → List ℕ
text_of c = file_text (file_of Text c)

-- the one binary form of a circuit: that of its re-encoding
abbrev pub binary_of : Circuit → List ℕ
binary_of c = file_text (file_of Binary (reencoded c))

-- the circuit without the names of nodes that are neither inputs nor latches
abbrev pub without_other_names : Circuit → Circuit
without_other_names c =
    record c {
      names =
          retain_keys c.names (λ n. list_any (λ m. m == n) (c.inputs ++ latch_leaves c.latchs));
    }

-- the text spells a file that fits any limit from the count of nodes up, and whose circuit is c
-- without other names
abbrev pub IsReadAgain : Circuit → File → Type 0
IsReadAgain c f =
    ((limit : ℕ) → length c.nodes ≤ limit → Accepts (file_text f) limit f)
    × (circuit_of f ≡ without_other_names c)
