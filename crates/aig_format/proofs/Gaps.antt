-- Text files with missing variables and unordered gates, computed: which fit, how their variables are numbered, and what is printed of their circuits.
use Rattle.std.proofs.Common.{◌≡◌, ℕ, true, false, Some, None, List, [], ◌∷◌, map, refl, lit≤, arith}
use Rattle.aig_base.proofs.Words.{codes, false≢true}
use Rattle.std.specs.Fmt.{digits}
use Rattle.std.specs.List.{IsDistinct}
use Rattle.aig_circuit.specs.Properties.{no_properties}
use Rattle.aig_format.specs.declared.FileKind.TheVariants.{Text, Binary}
use Rattle.aig_format.proofs.Words.{LatchLine, GateLine, File, HeaderNumbers, level_of, Fits, has_enough, circuit_of, file_of}
use Rattle.aig_format.specs.Written.{file_text, line_text}
use Rattle.aig_format.specs.Numbering.{is_compact, node_of_variable, variables_in_order}
use Rattle.aig_format.proofs.Examples.{and_file}

-- ---- files

-- a text file of these sections alone
abbrev pub file_with : ℕ → List ℕ → List LatchLine → List ℕ → List GateLine → File
file_with greatest inputs latches outputs gates = record {
  kind = Text;
  greatest = greatest;
  inputs = inputs;
  latches = latches;
  properties = record no_properties { outputs = outputs };
  gates = gates;
  names = [];
}

abbrev pub gate : ℕ → ℕ → ℕ → GateLine
gate lhs rhs0 rhs1 = record { lhs = lhs; rhs0 = rhs0; rhs1 = rhs1 }

-- the circuit as it is printed; the files here have no names
abbrev printed : File → List ℕ
printed f = file_text (record (file_of Text (circuit_of f)) { names = [] })

-- what the rows compute by
steps : Unit {0}
unfolding file_text line_text digits node_of_variable variables_in_order
steps = tt

-- ---- files that are printed by level

-- input 3, output 2, gate 2 = and(3,3): an input above a gate
abbrev pub doubled : File
doubled = file_with 3 (6 ∷ []) [] (4 ∷ []) (gate 4 6 6 ∷ [])

doubled-printed : printed doubled ≡ codes "aag 2 1 0 1 1\n2\n4\n4 2 2\n"
unfolding steps
doubled-printed = refl

doubled-order : variables_in_order doubled ≡ 3 ∷ 2 ∷ []
unfolding steps
doubled-order = refl

doubled-fits : Fits doubled 16777216
unfolding IsDistinct
doubled-fits = record {
  within = lit≤ tt;
  enough = refl;
  definable = search tt;
  distinct = search tt;
  in_range = search tt;
  resets = search tt;
  order = refl;
  named = tt;
  once = tt;
}

-- two inputs, a latch, and four gates that are moved; gate 6 stands on gate 7 though 7 is greater
abbrev pub mixed : File
mixed = file_with 7 (2 ∷ 4 ∷ []) (record { literal = 6; next = 8; reset = None } ∷ []) (6 ∷ 7 ∷ []) (gate 8 4 10 ∷ gate 10 13 15 ∷ gate 12 2 6 ∷ gate 14 3 7 ∷ [])

mixed-printed : printed mixed ≡ codes "aag 7 2 1 2 4\n2\n4\n6 14\n6\n7\n8 6 2\n10 7 3\n12 11 9\n14 12 4\n"
unfolding steps
mixed-printed = refl

mixed-order : variables_in_order mixed ≡ 1 ∷ 2 ∷ 3 ∷ 6 ∷ 7 ∷ 5 ∷ 4 ∷ []
unfolding steps
mixed-order = refl

-- variable 2 is missing
abbrev pub gapped : File
gapped = file_with 3 (2 ∷ []) [] [] (gate 6 2 2 ∷ [])

gapped-printed : printed gapped ≡ codes "aag 2 1 0 0 1\n2\n4 2 2\n"
unfolding steps
gapped-printed = refl

gapped-order : variables_in_order gapped ≡ 1 ∷ 3 ∷ []
unfolding steps
gapped-order = refl

gapped-fits : Fits gapped 4
unfolding IsDistinct
gapped-fits = record {
  within = lit≤ tt;
  enough = refl;
  definable = search tt;
  distinct = search tt;
  in_range = search tt;
  resets = search tt;
  order = refl;
  named = tt;
  once = tt;
}

-- gates 3 and 2, in this order
abbrev pub falling : File
falling = file_with 3 (2 ∷ []) [] [] (gate 6 2 2 ∷ gate 4 2 2 ∷ [])

falling-printed : printed falling ≡ codes "aag 3 1 0 0 2\n2\n4 2 2\n6 2 2\n"
unfolding steps
falling-printed = refl

falling-order : variables_in_order falling ≡ 1 ∷ 2 ∷ 3 ∷ []
unfolding steps
falling-order = refl

-- variable 2 is missing at the end
abbrev pub short : File
short = file_with 2 (2 ∷ []) [] [] []

short-printed : printed short ≡ codes "aag 1 1 0 0 0\n2\n"
unfolding steps
short-printed = refl

short-order : variables_in_order short ≡ 1 ∷ []
unfolding steps
short-order = refl

-- inputs 5 and 2; gates 4 and 3 of level 1, and gate 1 of level 2 on both
abbrev pub tied : File
tied = file_with 5 (10 ∷ 4 ∷ []) [] (2 ∷ []) (gate 2 8 6 ∷ gate 8 4 10 ∷ gate 6 10 5 ∷ [])

tied-printed : printed tied ≡ codes "aag 5 2 0 1 3\n4\n2\n10\n6 4 3\n8 4 2\n10 8 6\n"
unfolding steps
tied-printed = refl

tied-order : variables_in_order tied ≡ 2 ∷ 5 ∷ 3 ∷ 4 ∷ 1 ∷ []
unfolding steps
tied-order = refl

-- a hole between an input and a gate, and one between gates; the gates rise
abbrev pub middle : File
middle = file_with 9 (2 ∷ 6 ∷ []) [] (18 ∷ []) (gate 10 2 6 ∷ gate 18 10 3 ∷ [])

middle-printed : printed middle ≡ codes "aag 4 2 0 1 2\n2\n4\n8\n6 4 2\n8 6 3\n"
unfolding steps
middle-printed = refl

middle-order : variables_in_order middle ≡ 1 ∷ 3 ∷ 5 ∷ 9 ∷ []
unfolding steps
middle-order = refl

-- inputs 3 and 1, out of order, and a hole: the list keeps its order
abbrev pub swapped : File
swapped = file_with 3 (6 ∷ 2 ∷ []) [] (6 ∷ 3 ∷ []) []

swapped-printed : printed swapped ≡ codes "aag 2 2 0 2 0\n4\n2\n4\n3\n"
unfolding steps
swapped-printed = refl

swapped-order : variables_in_order swapped ≡ 1 ∷ 3 ∷ []
unfolding steps
swapped-order = refl

-- ---- compact files keep their numbers

-- gates of levels 2, 1 and 3, in rising order
abbrev pub deep : File
deep = file_with 5 (2 ∷ 4 ∷ []) [] (10 ∷ []) (gate 6 4 2 ∷ gate 8 6 2 ∷ gate 10 4 2 ∷ [])

deep-printed : printed deep ≡ codes "aag 5 2 0 1 3\n2\n4\n10\n6 4 2\n8 6 2\n10 4 2\n"
unfolding steps
deep-printed = refl

deep-order : variables_in_order deep ≡ 1 ∷ 2 ∷ 3 ∷ 4 ∷ 5 ∷ []
unfolding steps
deep-order = refl

-- inputs 3 and 1 and a latch above a gate
abbrev pub late : File
late = file_with 4 (6 ∷ 2 ∷ []) (record { literal = 8; next = 4; reset = None } ∷ []) (4 ∷ []) (gate 4 2 0 ∷ [])

late-printed : printed late ≡ codes "aag 4 2 1 1 1\n6\n2\n8 4\n4\n4 2 0\n"
unfolding steps
late-printed = refl

late-order : variables_in_order late ≡ 1 ∷ 2 ∷ 3 ∷ 4 ∷ []
unfolding steps
late-order = refl

-- in binary too
abbrev pub in_binary : File
in_binary = record and_file { kind = Binary }

in_binary-numbers : map (node_of_variable in_binary) (0 ∷ 1 ∷ 2 ∷ 3 ∷ []) ≡ 0 ∷ 1 ∷ 2 ∷ 3 ∷ []
unfolding steps
in_binary-numbers = refl

and_file-numbers : map (node_of_variable and_file) (0 ∷ 1 ∷ 2 ∷ 3 ∷ []) ≡ 0 ∷ 1 ∷ 2 ∷ 3 ∷ []
unfolding steps
and_file-numbers = refl

-- the same gates merely moved are numbered by level
abbrev pub moved : File
moved = record deep { gates = gate 10 4 2 ∷ gate 6 4 2 ∷ gate 8 6 2 ∷ [] }

moved-order : variables_in_order moved ≡ 1 ∷ 2 ∷ 3 ∷ 5 ∷ 4 ∷ []
unfolding steps
moved-order = refl

-- ---- levels

mixed-levels : map (level_of mixed) (0 ∷ 1 ∷ 2 ∷ 3 ∷ 4 ∷ 5 ∷ 6 ∷ 7 ∷ []) ≡ Some 0 ∷ Some 0 ∷ Some 0 ∷ Some 0 ∷ Some 3 ∷ Some 2 ∷ Some 1 ∷ Some 1 ∷ []
mixed-levels = refl

-- ---- files that are refused

-- gates 1 and 2 stand on one another
abbrev pub exchanged : File
exchanged = file_with 2 [] [] (2 ∷ []) (gate 2 4 4 ∷ gate 4 2 2 ∷ [])

exchanged-refused : (limit : ℕ) → Fits exchanged limit → ⊥
exchanged-refused limit fits = false≢true fits.order

exchanged-levels : map (level_of exchanged) (0 ∷ 1 ∷ 2 ∷ []) ≡ Some 0 ∷ None ∷ None ∷ []
exchanged-levels = refl

-- gate 2 depends on itself; gate 3 depends on it
abbrev pub own : File
own = file_with 3 (2 ∷ []) [] [] (gate 4 4 2 ∷ gate 6 4 4 ∷ [])

own-refused : (limit : ℕ) → Fits own limit → ⊥
own-refused limit fits = false≢true fits.order

own-levels : map (level_of own) (1 ∷ 2 ∷ 3 ∷ []) ≡ Some 0 ∷ None ∷ None ∷ []
own-levels = refl

-- output 2 is not defined
abbrev pub lost_output : File
lost_output = file_with 3 (2 ∷ []) [] (4 ∷ []) (gate 6 2 2 ∷ [])

lost_output-refused : (limit : ℕ) → Fits lost_output limit → ⊥
lost_output-refused limit fits = false≢true fits.order

-- operand 2 is not defined
abbrev pub lost_operand : File
lost_operand = file_with 3 (2 ∷ []) [] [] (gate 6 4 2 ∷ [])

lost_operand-refused : (limit : ℕ) → Fits lost_operand limit → ⊥
lost_operand-refused limit fits = false≢true fits.order

-- ---- headers

-- a header of inputs alone
abbrev header_with : ℕ → ℕ → HeaderNumbers
header_with greatest inputs = record { greatest = greatest; inputs = inputs; latches = 0; outputs = 0; gates = 0; bads = 0; constraints = 0; justice = 0; fairness = 0 }

-- fewer than are defined in a text file, and any other count in a binary one; more in a text file
too_few : has_enough Text (header_with 1 2) ≡ false
too_few = refl

not_exact : has_enough Binary (header_with 2 1) ≡ false
not_exact = refl

more_in_text : has_enough Text (header_with 2 1) ≡ true
more_in_text = refl

-- of a file with missing variables the greatest counts, not how many there are
gapped-too_many : Fits gapped 3 → ⊥
gapped-too_many fits = omega (arith, fits.within)

-- in binary no variable is missing
short_in_binary : (limit : ℕ) → Fits (record short { kind = Binary }) limit → ⊥
short_in_binary limit fits = false≢true fits.order

-- whether a file is compact
compact-tests : map is_compact (deep ∷ late ∷ and_file ∷ in_binary ∷ []) ≡ true ∷ true ∷ true ∷ true ∷ []
compact-tests = refl

well_founded-tests : map is_compact (doubled ∷ mixed ∷ gapped ∷ falling ∷ short ∷ tied ∷ middle ∷ swapped ∷ moved ∷ []) ≡ false ∷ false ∷ false ∷ false ∷ false ∷ false ∷ false ∷ false ∷ false ∷ []
well_founded-tests = refl
