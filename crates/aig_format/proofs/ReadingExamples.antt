-- Small files, computed: they are read and so accepted; and bytes that are none.
use lib.Utf8.{encode}
use Rattle.aig_base.proofs.Words.{◌≡◌, ℕ, true, false, List, [], ◌∷◌, ◌++◌, Option, Some, None, refl, codes, AllByRecursion}
use Rattle.std.specs.Str.{is_utf8, chars}
use Rattle.aig_circuit.specs.Properties.{no_properties}
use Rattle.aig_format.specs.declared.FileKind.TheVariants.{Text, Binary}
use Rattle.aig_format.proofs.Words.{NameLine, File, Accepts, parse_fitting}
use Rattle.aig_format.proofs.Examples.{and_file, and_text}
use Rattle.aig_format.proofs.Gaps.{doubled, falling, gapped, mixed, short}
use Rattle.aig_format.specs.Parse.{parse_number, parse_digits, parse_ended, parse_line, parse_kind, parse_next_and_reset, parse_text, parse_groups, parse_sets, parse_tail, parse_file, too_many_at}
use Rattle.aig_format.proofs.FittingFiles.{fitting_sound}

-- the limit of the rows
abbrev limit : ℕ
limit = 16777216

abbrev IsRead : List ℕ → File → Type 0
IsRead bytes f = parse_fitting limit bytes ≡ Some f

abbrev AreRefused : List (List ℕ) → Type 0
AreRefused = AllByRecursion (λ bytes. parse_fitting limit bytes ≡ None)

-- what the rows compute by
steps : Unit {0}
unfolding parse_number parse_digits parse_ended parse_line parse_kind parse_next_and_reset parse_groups parse_text parse_sets is_utf8 chars encode parse_tail parse_file
steps = tt

-- a text file of inputs alone
abbrev of_inputs : ℕ → List ℕ → File
of_inputs greatest inputs = record {
  kind = Text;
  greatest = greatest;
  inputs = inputs;
  latches = [];
  properties = no_properties;
  gates = [];
  names = [];
}

abbrev name : ℕ → ℕ → List ℕ → NameLine
name letter position bytes = record { letter = letter; position = position; name = bytes }

-- ---- and(1,2)

pub and_file-read : IsRead and_text and_file
unfolding steps
and_file-read = refl

pub and_file-accepted : Accepts and_text limit and_file
and_file-accepted = fitting_sound limit and_text and_file and_file-read

-- its operands in the other order
pub turned-read : IsRead (codes "aag 3 2 0 1 1\n2\n4\n6\n6 2 4\n") (record and_file { gates = record { lhs = 6; rhs0 = 2; rhs1 = 4 } ∷ [] })
unfolding steps
turned-read = refl

-- in binary, the first difference as 02, 82 00 and 82 80 80 80 00
abbrev in_binary : List ℕ → List ℕ
in_binary gates = codes "aig 3 2 0 1 1\n6\n" ++ gates

abbrev and_in_binary : File
and_in_binary = record and_file { kind = Binary }

pub binary-read : IsRead (in_binary (2 ∷ 2 ∷ [])) and_in_binary × IsRead (in_binary (130 ∷ 0 ∷ 2 ∷ [])) and_in_binary × IsRead (in_binary (130 ∷ 128 ∷ 128 ∷ 128 ∷ 0 ∷ 2 ∷ [])) and_in_binary
unfolding steps
binary-read = (refl, refl, refl)

-- cut, a first difference of 0, a second that passes the first operand, a byte that goes on at the end, six bytes, and past 32 bits
pub no_differences : AreRefused (in_binary (2 ∷ []) ∷ in_binary (0 ∷ 2 ∷ []) ∷ in_binary (2 ∷ 5 ∷ []) ∷ in_binary (130 ∷ [])
    ∷ in_binary (128 ∷ 128 ∷ 128 ∷ 128 ∷ 128 ∷ 0 ∷ 2 ∷ []) ∷ in_binary (255 ∷ 255 ∷ 255 ∷ 255 ∷ 16 ∷ 2 ∷ []) ∷ [])
unfolding steps
no_differences = (refl, (refl, (refl, (refl, (refl, (refl, tt))))))

-- with a name and a comment after the gates
pub named-read : IsRead (in_binary (2 ∷ 2 ∷ codes "i0 x\ncmade here")) (record and_in_binary { names = name 105 0 (codes "x") ∷ [] })
unfolding steps
named-read = refl

-- ---- latches

-- latch 1 with next !1, and output 1
abbrev latch_of : ℕ → Option ℕ → File
latch_of next reset = record (of_inputs 1 []) { latches = record { literal = 2; next = next; reset = reset } ∷ []; properties = record no_properties { outputs = 2 ∷ [] } }

pub latch-read : IsRead (codes "aag 1 0 1 1 0\n2 3\n2\n") (latch_of 3 None)
unfolding steps
latch-read = refl

pub resets-read : IsRead (codes "aag 1 0 1 1 0\n2 3 0\n2\n") (latch_of 3 (Some 0)) × IsRead (codes "aag 1 0 1 1 0\n2 3 1\n2\n") (latch_of 3 (Some 1)) × IsRead (codes "aag 1 0 1 1 0\n2 3 2\n2\n") (latch_of 3 (Some 2))
unfolding steps
resets-read = (refl, refl, refl)

pub binary_latch-read : IsRead (codes "aig 1 0 1 1 0\n3\n2\n") (record (latch_of 3 None) { kind = Binary })
unfolding steps
binary_latch-read = refl

-- another literal is no reset, and there is one at most; a next literal is one of the file
pub no_latches : AreRefused (codes "aag 1 0 1 1 0\n2 3 3\n2\n" ∷ codes "aag 1 0 1 0 0\n2 3 4\n" ∷ codes "aag 1 0 1 0 0\n2 3 2 0\n" ∷ codes "aig 1 0 1 0 0\n3 3\n" ∷ codes "aag 1 0 1 0 0\n2 4\n" ∷ [])
unfolding steps
no_latches = (refl, (refl, (refl, (refl, (refl, tt)))))

-- ---- properties

-- two justice sets, and a fairness literal
pub justice-read : IsRead (codes "aag 2 2 0 0 0 0 0 2 1\n2\n4\n2\n1\n2\n5\n4\n3\n") (record (of_inputs 2 (2 ∷ 4 ∷ [])) { properties = record no_properties { justice = (2 ∷ 5 ∷ []) ∷ (4 ∷ []) ∷ []; fairness = 3 ∷ [] } })
unfolding steps
justice-read = refl

-- an empty justice set
pub empty_justice-read : IsRead (codes "aag 0 0 0 0 0 0 0 1\n0\n") (record (of_inputs 0 []) { properties = record no_properties { justice = [] ∷ [] } })
unfolding steps
empty_justice-read = refl

-- bads and constraints, and nine numbers of which the last are 0
pub nine-read : IsRead (codes "aag 1 1 0 1 0 1 1 0 0\n2\n1\n2\n3\n") (record (of_inputs 1 (2 ∷ [])) { properties = record no_properties { outputs = 1 ∷ []; bads = 2 ∷ []; constraints = 3 ∷ [] } })
unfolding steps
nine-read = refl

-- a literal that is none of the file, in each of these sections
pub unknown_properties : AreRefused (codes "aag 1 1 0 1 0\n2\n4\n" ∷ codes "aag 0 0 0 0 0 1\n2\n" ∷ codes "aag 0 0 0 0 0 0 1\n2\n" ∷ codes "aag 0 0 0 0 0 0 0 1\n1\n2\n" ∷ codes "aag 0 0 0 0 0 0 0 0 1\n2\n" ∷ [])
unfolding steps
unknown_properties = (refl, (refl, (refl, (refl, (refl, tt)))))

-- ---- names and the comment

-- an input
abbrev one_input : List ℕ → List ℕ
one_input tail = codes "aag 1 1 0 0 0\n2\n" ++ tail

abbrev with_names : List NameLine → File
with_names names = record (of_inputs 1 (2 ∷ [])) { names = names }

-- an empty name, a name of two bytes, a carriage return in a name, a comment without a line feed, and a `c` alone
pub names-read : IsRead (one_input (codes "i0 \n")) (with_names (name 105 0 [] ∷ [])) × IsRead (one_input (codes "i0 " ++ 195 ∷ 169 ∷ 10 ∷ [])) (with_names (name 105 0 (195 ∷ 169 ∷ []) ∷ []))
    × IsRead (one_input (codes "i0 a\r\n")) (with_names (name 105 0 (97 ∷ 13 ∷ []) ∷ [])) × IsRead (one_input (codes "cnote")) (with_names []) × IsRead (one_input (codes "c")) (with_names [])
unfolding steps
names-read = (refl, refl, refl, refl, refl)

-- a place twice, past the count, not UTF-8, without a space, in a section of none, with a leading zero the second time, no letter, too large a position, a cut name, and an empty line
pub no_names : AreRefused (one_input (codes "i0 a\ni0 b\n") ∷ one_input (codes "i1 a\n") ∷ one_input (codes "i0 " ++ 255 ∷ 10 ∷ []) ∷ one_input (codes "i0\n") ∷ one_input (codes "c0 x\n")
    ∷ one_input (codes "i00 a\ni0 b\n") ∷ one_input (codes "x0 a\n") ∷ one_input (codes "i4294967296 a\n") ∷ one_input (codes "i0 a") ∷ one_input (codes "\n") ∷ [])
unfolding steps
no_names = (refl, (refl, (refl, (refl, (refl, (refl, (refl, (refl, (refl, (refl, tt))))))))))

-- names of an output are any bytes, but for one place each
pub output_name-read : IsRead (codes "aag 0 0 0 1 0\n0\no0 " ++ 255 ∷ 10 ∷ []) (record (of_inputs 0 []) { properties = record no_properties { outputs = 0 ∷ [] }; names = name 111 0 (255 ∷ []) ∷ [] })
unfolding steps
output_name-read = refl

pub no_second_name : AreRefused (codes "aag 1 1 0 1 0\n2\n2\no0 a\no0 b\n" ∷ [])
unfolding steps
no_second_name = (refl, tt)

-- ---- headers and lines

-- the constant alone, at the least limit, and with a comment
pub empty-read : (parse_fitting 1 (codes "aag 0 0 0 0 0\n") ≡ Some (of_inputs 0 [])) × IsRead (codes "aag 0 0 0 0 0\nc") (of_inputs 0 [])
unfolding steps
empty-read = (refl, refl)

-- leading zeros
pub zeros-read : IsRead (codes "aag 1 01 0 0 0\n02\n") (of_inputs 1 (2 ∷ []))
unfolding steps
zeros-read = refl

-- no bytes, a carriage return, a number past 4,294,967,295, a sum past 32 bits, two spaces, four numbers, ten; fewer variables than are
-- defined, and in a binary file one that nothing defines
pub no_headers : AreRefused ([] ∷ codes "aag 0 0 0 0 0\r\n" ∷ codes "aag 4294967296 0 0 0 0\n" ∷ codes "aag 0 4294967295 1 0 0\n"
    ∷ codes "aag  0 0 0 0 0\n" ∷ codes "aag 0 0 0 0\n" ∷ codes "aag 0 0 0 0 0 0 0 0 0 0\n" ∷ codes "aag 1 2 0 0 0\n2\n4\n" ∷ codes "aig 2 1 0 0 0\n" ∷ [])
unfolding steps
no_headers = (refl, (refl, (refl, (refl, (refl, (refl, (refl, (refl, (refl, tt)))))))))

-- without a line feed at the end, with a space before it, too large a number; an odd literal, one past the greatest, one twice
pub no_inputs : AreRefused (codes "aag 1 1 0 0 0\n2" ∷ codes "aag 1 1 0 0 0\n2 \n" ∷ codes "aag 1 1 0 0 0\n4294967296\n" ∷ codes "aag 1 1 0 0 0\n3\n" ∷ codes "aag 1 1 0 0 0\n4\n" ∷ codes "aag 2 2 0 0 0\n2\n2\n" ∷ [])
unfolding steps
no_inputs = (refl, (refl, (refl, (refl, (refl, (refl, tt))))))

-- a gate as its own operand, two gates on one another, an operand past the greatest, an operand and an output that nothing defines
pub no_gates : AreRefused (codes "aag 2 1 0 0 1\n2\n4 4 2\n" ∷ codes "aag 2 0 0 1 2\n2\n2 4 4\n4 2 2\n" ∷ codes "aag 2 1 0 0 1\n2\n4 6 2\n"
    ∷ codes "aag 3 1 0 0 1\n2\n6 4 2\n" ∷ codes "aag 3 1 0 1 1\n2\n4\n6 2 2\n" ∷ [])
unfolding steps
no_gates = (refl, (refl, (refl, (refl, (refl, tt)))))

-- ---- variables that are missing, and gates in any order

-- an input above a gate, gates that are moved, a gap below a gate and one at the end, and gates that fall
pub gaps-read : IsRead (codes "aag 3 1 0 1 1\n6\n4\n4 6 6\n") doubled × IsRead (codes "aag 7 2 1 2 4\n2\n4\n6 8\n6\n7\n8 4 10\n10 13 15\n12 2 6\n14 3 7\n") mixed
    × IsRead (codes "aag 3 1 0 0 1\n2\n6 2 2\n") gapped × IsRead (codes "aag 2 1 0 0 0\n2\n") short × IsRead (codes "aag 3 1 0 0 2\n2\n6 2 2\n4 2 2\n") falling
unfolding steps
gaps-read = (refl, refl, refl, refl, refl)

-- the limit is on the greatest variable, however few are defined
pub gap-limited : (parse_fitting 4 (codes "aag 3 1 0 0 1\n2\n6 2 2\n") ≡ Some gapped) × (parse_fitting 3 (codes "aag 3 1 0 0 1\n2\n6 2 2\n") ≡ None)
    × (too_many_at 3 (codes "aag 3 1 0 0 1\n2\n6 2 2\n") ≡ true) × (too_many_at 3 (codes "aig 3 1 0 0 1\n2\n6 2 2\n") ≡ false)
unfolding steps
gap-limited = (refl, refl, refl, refl)

-- counts past what the file holds
pub no_large_counts : AreRefused (codes "aag 0 0 0 4294967295 0\n0\n" ∷ codes "aag 0 0 0 0 0 0 0 2\n4294967295\n4294967295\n0\n" ∷ [])
unfolding steps
no_large_counts = (refl, (refl, tt))

-- good headers past the limit, of both kinds
pub too_many-told : (too_many_at 100 (codes "aag 4000 4000 0 0 0\n") ≡ true) × (too_many_at limit (codes "aig 4294967295 4294967295 0 0 0\n") ≡ true)
unfolding steps
too_many-told = (refl, refl)

pub too_many-refused : parse_fitting 100 (codes "aag 4000 4000 0 0 0\n") ≡ None
unfolding steps
too_many-refused = refl
