-- Part of what is promised.
-- Which bytes spell a file. It speaks of whole texts; no reader is in it.
-- (AIGER format 20071012: "Header", "Input/Latch/Output/And section", "Binary encoding", "Symbol
-- table",
-- "Comment section"; AIGER 1.9: "Reset logic", "Properties".)
use Rattle.std.specs.Prelude.{◌≡◌, ◌≢◌, Bool, true, ◌==◌, ℕ, zero, suc, ◌+◌, ◌*◌, ◌≤◌, List, [], ◌∷◌, ◌++◌, length, map, replicate, codes}
use Rattle.std.specs.Option.{option_to_list}
use Rattle.std.specs.List.{AllByRecursion, list_any}
use Rattle.aig_circuit.specs.Properties.{Properties}
use Rattle.aig_format.specs.Letters.{letter_of_comment}
use Rattle.aig_format.specs.Text.{◌then◌, Each, Just, IsDigit, Ended, IsLine, Lines, IsDelta}
use Rattle.aig_format.specs.declared.FileKind.{FileKind}
use Rattle.aig_format.specs.declared.FileKind.TheVariants.{Text, Binary}
use Rattle.aig_format.specs.File.{LatchLine, GateLine, NameLine, File, HeaderNumbers, header_of, defined}

-- the word that tells a file's kind, and the space after it
abbrev pub magic : FileKind → List ℕ
magic Text = codes "aag "
magic Binary = codes "aig "

-- the nine numbers of a header in the order of its line: M I L O A B C J F
abbrev pub numbers_in : HeaderNumbers → List ℕ
numbers_in n =
    n.greatest ∷ n.inputs ∷ n.latches ∷ n.outputs ∷ n.gates ∷ n.bads ∷ n.constraints ∷ n.justice
    ∷ n.fairness ∷ []

-- header: the kind's word, then five to nine numbers; those that are not written are 0
abbrev pub IsHeader : FileKind → HeaderNumbers → List ℕ → Type 0
IsHeader kind numbers bytes =
    (written : List ℕ) × (absent : ℕ) × (numbers_in numbers ≡ written ++ replicate absent 0)
    × (5 ≤ length written) × (Just (magic kind) then IsLine written) bytes

-- the numbers of a latch line after its literal: next, and the reset if one is written
abbrev pub next_and_reset : LatchLine → List ℕ
next_and_reset l = l.next ∷ option_to_list l.reset

-- inputs: in a text file a line each, in a binary file nothing
abbrev pub Inputs : FileKind → List ℕ → List ℕ → Type 0
Inputs Text = Lines
Inputs Binary = λ _. Just []

-- latches: a line each, in a binary file without the latch's own literal
abbrev pub Latch : FileKind → LatchLine → List ℕ → Type 0
Latch Text l = IsLine (l.literal ∷ next_and_reset l)
Latch Binary l = IsLine (next_and_reset l)

-- justice sets: how many literals each has, and then the literals, a line each
abbrev pub JusticeLines : List (List ℕ) → List ℕ → Type 0
JusticeLines sets = Lines (map length sets) then Each Lines sets

-- outputs and properties, a literal a line
abbrev pub PropertyLines : Properties ℕ → List ℕ → Type 0
PropertyLines p =
    Lines p.outputs then Lines p.bads then Lines p.constraints then JusticeLines p.justice
    then Lines p.fairness

-- gates: in a text file a line each, in a binary file two differences each, with nothing between
-- them
abbrev pub Gate : FileKind → GateLine → List ℕ → Type 0
Gate Text g = IsLine (g.lhs ∷ g.rhs0 ∷ g.rhs1 ∷ [])
Gate Binary g =
    λ bytes. (d0 d1 : ℕ) × (g.lhs ≡ g.rhs0 + d0) × (g.rhs0 ≡ g.rhs1 + d1)
    × (IsDelta d0 then IsDelta d1) bytes

-- a letter of a section that has names
abbrev pub is_letter : ℕ → Bool
is_letter b = list_any (λ c. c == b) (codes "ilobcjf")

-- names: a letter, a position, a space, any bytes but a line feed, a line feed
abbrev pub Name : NameLine → List ℕ → Type 0
Name n bytes =
    (is_letter n.letter ≡ true) × AllByRecursion (λ b. b ≢ 10) n.name
    × (Just (n.letter ∷ []) then Ended 32 n.position then Just (n.name ++ 10 ∷ [])) bytes

-- comment: nothing, or `c` with no digit after it and whatever follows
abbrev pub IsComment : List ℕ → Type 0
IsComment [] = Unit {0}
IsComment (c ∷ []) = c ≡ letter_of_comment
IsComment (c ∷ b ∷ rest) = (c ≡ letter_of_comment) × (IsDigit b → ⊥)

-- the header and the sections, in order
abbrev pub Body : File → List ℕ → Type 0
Body f =
    IsHeader f.kind (header_of f) then Inputs f.kind f.inputs then Each (Latch f.kind) f.latches
    then PropertyLines f.properties then Each (Gate f.kind) f.gates

-- the names, and the comment
abbrev pub Tail : File → List ℕ → Type 0
Tail f = Each Name f.names then IsComment

-- n even literals in a row, from the variable v on
abbrev pub places : ℕ → ℕ → List ℕ
places zero v = []
places (suc n) v = 2 * v ∷ places n (v + 1)

-- in a binary file inputs, latches and gates have the literals of their places
abbrev pub Placed : FileKind → List ℕ → Type 0
Placed Text literals = Unit {0}
Placed Binary literals = literals ≡ places (length literals) 1

-- the bytes spell the file, and nothing else
pub record Spells (f : File) (bytes : List ℕ) : Type 0 where
  pub sections : (Body f then Tail f) bytes
  pub placed : Placed f.kind (defined f)
