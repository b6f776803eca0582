-- Part of what is promised.
-- The letters of the sections in name lines, and the counts of the sections by letter. (AIGER
-- format 20071012: "Symbol table", "Comment section"; AIGER 1.9: "Properties".)
use Rattle.std.specs.Prelude.{ℕ, Bool, ◌||◌, ◌==◌, if◌then◌else◌}
use Rattle.aig_format.specs.File.{HeaderNumbers}

-- `i`
abbrev pub letter_of_inputs : ℕ
letter_of_inputs = 105

-- `l`
abbrev pub letter_of_latches : ℕ
letter_of_latches = 108

-- `o`
abbrev pub letter_of_outputs : ℕ
letter_of_outputs = 111

-- `b`
abbrev pub letter_of_bads : ℕ
letter_of_bads = 98

-- `c`
abbrev pub letter_of_constraints : ℕ
letter_of_constraints = 99

-- `j`
abbrev pub letter_of_justice : ℕ
letter_of_justice = 106

-- `f`
abbrev pub letter_of_fairness : ℕ
letter_of_fairness = 102

-- `c`
abbrev pub letter_of_comment : ℕ
letter_of_comment = 99

-- the count of the section of a letter, in the numbers of a header
abbrev pub count_of : HeaderNumbers → ℕ → ℕ
count_of numbers letter =
    if letter == letter_of_inputs then numbers.inputs
    else if letter == letter_of_latches then numbers.latches
    else if letter == letter_of_outputs then numbers.outputs
    else if letter == letter_of_bads then numbers.bads
    else if letter == letter_of_constraints then numbers.constraints
    else if letter == letter_of_justice then numbers.justice
    else if letter == letter_of_fairness then numbers.fairness
    else 0

-- names of inputs and latches are kept
abbrev pub is_kept : ℕ → Bool
is_kept letter = (letter == letter_of_inputs) || (letter == letter_of_latches)
