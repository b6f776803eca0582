-- Part of what is promised.
-- The one text of a file, and its one binary form, as they are written here. (AIGER format
-- 20071012: "Header", "Binary encoding", "Symbol table"; AIGER 1.9: "Reset logic", "Properties".)
use Rattle.std.specs.Prelude.{ℕ, zero, suc, ◌+◌, ◌-◌, ◌/◌, ◌%◌, nat_lt, ◌==◌, if◌then◌else◌, List, [], ◌∷◌, ◌++◌, length, map, decimal}
use Rattle.std.specs.List.{flat_map}
use Rattle.aig_circuit.specs.Properties.{Properties}
use Rattle.aig_format.specs.declared.FileKind.{FileKind}
use Rattle.aig_format.specs.declared.FileKind.TheVariants.{Text, Binary}
use Rattle.aig_format.specs.File.{LatchLine, GateLine, NameLine, File}
use Rattle.aig_format.specs.Spells.{magic, next_and_reset}

-- numbers apart by one space each, and a line feed
unfoldable pub line_text : List ℕ → List ℕ
line_text [] = 10 ∷ []
line_text (n ∷ []) = decimal n ++ 10 ∷ []
line_text (n ∷ m ∷ ns) = decimal n ++ 32 ∷ line_text (m ∷ ns)

-- a line of one number for each number
abbrev pub lines_text : List ℕ → List ℕ
lines_text = flat_map (λ n. line_text (n ∷ []))

-- a number in front, unless it is a 0 with nothing after it
abbrev pub in_front : ℕ → List ℕ → List ℕ
in_front n [] = if n == 0 then [] else n ∷ []
in_front n (m ∷ ms) = n ∷ m ∷ ms

-- without the zeros at its end
abbrev pub shortened : List ℕ → List ℕ
shortened [] = []
shortened (n ∷ ns) = in_front n (shortened ns)

-- the numbers of the header: five, and of the other four as many as up to the last that is not 0
abbrev pub header_line_of : File → List ℕ
header_line_of f =
    let p = f.properties in
    magic f.kind
    ++ line_text
    (f.greatest ∷ length f.inputs ∷ length f.latches ∷ length p.outputs ∷ length f.gates
    ∷ shortened
    (length p.bads ∷ length p.constraints ∷ length p.justice ∷ length p.fairness ∷ []))

-- groups of seven bits, at most k and one more, the lowest first
abbrev pub groups_of : ℕ → ℕ → List ℕ
groups_of zero d = d ∷ []
groups_of (suc k) d = if nat_lt d 128 then d ∷ [] else (d % 128 + 128) ∷ groups_of k (d / 128)

-- a difference in its shortest spelling
unfoldable pub delta_of : ℕ → List ℕ
delta_of = groups_of 4

-- a latch line
abbrev pub latch_text : FileKind → LatchLine → List ℕ
latch_text Text l = line_text (l.literal ∷ next_and_reset l)
latch_text Binary l = line_text (next_and_reset l)

-- a gate: a line of a text file, or two differences
abbrev pub gate_text : FileKind → GateLine → List ℕ
gate_text Text g = line_text (g.lhs ∷ g.rhs0 ∷ g.rhs1 ∷ [])
gate_text Binary g = delta_of (g.lhs - g.rhs0) ++ delta_of (g.rhs0 - g.rhs1)

-- the inputs: in a binary file they have no bytes
abbrev pub inputs_text : FileKind → List ℕ → List ℕ
inputs_text Text inputs = lines_text inputs
inputs_text Binary inputs = []

-- outputs and properties, a literal a line; of justice sets first how many literals each has
abbrev pub properties_text : Properties ℕ → List ℕ
properties_text p =
    lines_text p.outputs ++ lines_text p.bads ++ lines_text p.constraints
    ++ lines_text (map length p.justice) ++ flat_map lines_text p.justice ++ lines_text p.fairness

-- a name line
abbrev pub name_text : NameLine → List ℕ
name_text n = n.letter ∷ decimal n.position ++ 32 ∷ n.name ++ 10 ∷ []

-- the text of a file: the header, the sections in order, the names
unfoldable pub file_text : File → List ℕ
file_text f =
    header_line_of f ++ inputs_text f.kind f.inputs ++ flat_map (latch_text f.kind) f.latches
    ++ properties_text f.properties ++ flat_map (gate_text f.kind) f.gates
    ++ flat_map name_text f.names
