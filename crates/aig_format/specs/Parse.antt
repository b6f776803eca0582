-- Part of what is promised.
-- Reading from the front: a value and the bytes after it, or nothing.
-- What a file is, and which files are accepted, `Spells` and `Fits` of aig_format say, of whole
-- texts and with no reader. Here are readers of it, one for each text, and what they test is a
-- parameter: with no tests they read what is spelled, and with those of ParseTested what fits.
-- (AIGER format 20071012: "Header", "Binary encoding", "Symbol table"; AIGER 1.9: "Reset logic",
-- "Properties".)
use Rattle.std.specs.Prelude.{ℕ, zero, suc, ◌+◌, ◌-◌, ◌*◌, ◌^◌, Bool, true, false, not, ◌&&◌, nat_lt, nat_le, ◌==◌, if◌then◌else◌, List, [], ◌∷◌, ◌++◌, length, slice_index_or, Option, Some, None, option_map, map}
use Rattle.aig_circuit.specs.Properties.{Properties}
use Rattle.aig_format.specs.declared.FileKind.{FileKind}
use Rattle.aig_format.specs.declared.FileKind.TheVariants.{Text, Binary}
use Rattle.aig_format.specs.File.{LatchLine, GateLine, NameLine, File, HeaderNumbers}
use Rattle.aig_format.specs.Letters.{letter_of_comment}
use Rattle.aig_format.specs.Spells.{magic, is_letter}
use Rattle.aig_format.specs.Fits.{has_enough}

-- what follows a value, if there is one
infixl 10 ◌>>=◌
abbrev pub ◌>>=◌ : {A B : Type 0} → Option A → (A → Option B) → Option B
(Some x) >>= f = f x
None >>= f = None

-- a decimal digit
abbrev pub is_digit : ℕ → Bool
is_digit b = nat_le 48 b && nat_le b 57

-- digits that go on, with the value so far: the value, and the byte that ends them
unfoldable pub parse_digits : ℕ → List ℕ → Option ((ℕ × ℕ) × List ℕ)
parse_digits v [] = None
parse_digits v (b ∷ bs) =
    if is_digit b
    then (if nat_lt (10 * v + (b - 48)) (2 ^ 32) then parse_digits (10 * v + (b - 48)) bs else None)
    else Some ((v, b), bs)

-- a number, and the byte that ends it
unfoldable pub parse_number : List ℕ → Option ((ℕ × ℕ) × List ℕ)
parse_number [] = None
parse_number (b ∷ bs) = if is_digit b then parse_digits (b - 48) bs else None

-- a number that this byte ends
unfoldable pub parse_ended : ℕ → List ℕ → Option (ℕ × List ℕ)
parse_ended end bytes = do
  n ← parse_number bytes
  if n.0.1 == end then Some (n.0.0, n.1) else None

-- one reader, and then another that may look at what the first gave
abbrev pub parse_both : {A B : Type 0} → (List ℕ → Option (A × List ℕ))
    → (A → List ℕ → Option (B × List ℕ)) → List ℕ → Option ((A × B) × List ℕ)
parse_both p q bytes = do
  x ← p bytes
  y ← q x.0 x.1
  Some ((x.0, y.0), y.1)

-- a reader that also wants a test passed
abbrev pub parse_if : {A : Type 0} → (List ℕ → Option (A × List ℕ)) → (A → Bool) → List ℕ
    → Option (A × List ℕ)
parse_if p test bytes = do
  x ← p bytes
  if test x.0 then Some x else None

-- a reader whose value is seen otherwise
abbrev pub parse_map : {A B : Type 0} → (A → B) → (List ℕ → Option (A × List ℕ)) → List ℕ
    → Option (B × List ℕ)
parse_map f p bytes = do
  x ← p bytes
  Some (f x.0, x.1)

-- n entries after these, each read beside those before it
abbrev pub parse_entries : {A : Type 0} → (List A → List ℕ → Option (A × List ℕ)) → List A → ℕ
    → List ℕ → Option (List A × List ℕ)
parse_entries p before zero bytes = Some ([], bytes)
parse_entries p before (suc n) bytes = do
  x ← p before bytes
  xs ← parse_entries p (before ++ x.0 ∷ []) n x.1
  Some (x.0 ∷ xs.0, xs.1)

-- a reader n times
abbrev pub parse_times : {A : Type 0} → (List ℕ → Option (A × List ℕ)) → ℕ → List ℕ
    → Option (List A × List ℕ)
parse_times p = parse_entries (λ _. p) []

-- a line of at most so many numbers
unfoldable pub parse_line : ℕ → List ℕ → Option (List ℕ × List ℕ)
parse_line zero bytes = None
parse_line (suc k) bytes = do
  n ← parse_number bytes
  if n.0.1 == 10 then Some (n.0.0 ∷ [], n.1)
      else if n.0.1 == 32 then (parse_line k n.1 >>= λ ns. Some (n.0.0 ∷ ns.0, ns.1))
      else None

-- what follows a text, if the bytes begin with it
abbrev pub strip : List ℕ → List ℕ → Option (List ℕ)
strip [] bytes = Some bytes
strip (a ∷ text) [] = None
strip (a ∷ text) (b ∷ bytes) = if a == b then strip text bytes else None

-- the first of two that is there
abbrev pub or_else : {A : Type 0} → Option A → Option A → Option A
or_else (Some x) other = Some x
or_else None other = other

-- the kind's word
unfoldable pub parse_kind : List ℕ → Option (FileKind × List ℕ)
parse_kind bytes =
    or_else (option_map (λ rest. (Text, rest)) (strip (magic Text) bytes))
    (option_map (λ rest. (Binary, rest)) (strip (magic Binary) bytes))

-- the header of the numbers of a line; those that are not written are 0
abbrev pub header_from : List ℕ → HeaderNumbers
header_from ns = record {
  greatest = slice_index_or ns 0 0;
  inputs = slice_index_or ns 1 0;
  latches = slice_index_or ns 2 0;
  outputs = slice_index_or ns 3 0;
  gates = slice_index_or ns 4 0;
  bads = slice_index_or ns 5 0;
  constraints = slice_index_or ns 6 0;
  justice = slice_index_or ns 7 0;
  fairness = slice_index_or ns 8 0;
}

-- five to nine numbers in a line, as a header
abbrev pub parse_header_numbers : List ℕ → Option (HeaderNumbers × List ℕ)
parse_header_numbers = parse_map header_from (parse_if (parse_line 9) (λ ns. nat_le 5 (length ns)))

-- the header: its kind and its numbers
abbrev pub parse_header : List ℕ → Option ((FileKind × HeaderNumbers) × List ℕ)
parse_header = parse_both parse_kind (λ _. parse_header_numbers)

-- a next literal, and the reset after it if one is written
unfoldable pub parse_next_and_reset : List ℕ → Option ((ℕ × Option ℕ) × List ℕ)
parse_next_and_reset bytes = do
  n ← parse_number bytes
  if n.0.1 == 10 then Some ((n.0.0, None), n.1)
      else if n.0.1 == 32 then (parse_ended 10 n.1 >>= λ r. Some ((n.0.0, Some r.0), r.1))
      else None

-- two numbers in a line
abbrev pub parse_pair : List ℕ → Option ((ℕ × ℕ) × List ℕ)
parse_pair = parse_both (parse_ended 32) (λ _. parse_ended 10)

-- a byte
abbrev pub parse_byte : List ℕ → Option (ℕ × List ℕ)
parse_byte [] = None
parse_byte (b ∷ bs) = Some (b, bs)

-- the bytes before the first line feed
unfoldable pub parse_text : List ℕ → Option (List ℕ × List ℕ)
parse_text [] = None
parse_text (b ∷ bs) =
    if b == 10 then Some ([], bs) else (parse_text bs >>= λ x. Some (b ∷ x.0, x.1))

-- a name of these parts
abbrev pub name_from : ℕ × (ℕ × List ℕ) → NameLine
name_from x = record { letter = x.0; position = x.1.0; name = x.1.1 }

-- a name line
abbrev pub parse_name : List ℕ → Option (NameLine × List ℕ)
parse_name =
    parse_map name_from
    (parse_both (parse_if parse_byte is_letter)
    (λ _. parse_both (parse_ended 32) (λ _. parse_text)))

-- whether the bytes are a comment, or nothing
abbrev pub is_comment : List ℕ → Bool
is_comment [] = true
is_comment (c ∷ []) = c == letter_of_comment
is_comment (c ∷ b ∷ bs) = c == letter_of_comment && not (is_digit b)

-- the names after these, each with a test beside those before it, with the comment after them, up
-- to the end; at most k names
unfoldable pub parse_tail : (List NameLine → NameLine → Bool) → ℕ → List NameLine → List ℕ
    → Option (List NameLine)
parse_tail test zero before bytes = None
parse_tail test (suc k) before bytes =
    if is_comment bytes then Some []
    else (parse_if parse_name (test before) bytes >>= λ n. parse_tail test k (before ++ n.0 ∷ [])
    n.1 >>= λ names. Some (n.0 ∷ names))

-- groups of seven bits, at most k of them
unfoldable pub parse_groups : ℕ → List ℕ → Option (ℕ × List ℕ)
parse_groups zero bytes = None
parse_groups (suc k) [] = None
parse_groups (suc k) (b ∷ bs) =
    if nat_lt b 128 then Some (b, bs)
    else (parse_groups k bs >>= λ x. Some ((b - 128) + 128 * x.0, x.1))

-- a difference
abbrev pub parse_delta : List ℕ → Option (ℕ × List ℕ)
parse_delta = parse_if (parse_groups 5) (λ d. nat_lt d (2 ^ 32))

-- ---- entries, beside the literals that are defined before them

-- what is tested of the lines after the header
pub record LineTests : Type 0 where
  -- a literal that is defined, beside those before it
  pub defined : List ℕ → ℕ → Bool
  -- a latch
  pub latch : LatchLine → Bool
  -- a literal of outputs and properties
  pub used : ℕ → Bool
  -- a gate
  pub gate : GateLine → Bool

-- the literal that an entry defines: in a text file it is written, in a binary file it is that of
-- the next variable
abbrev pub parse_own : FileKind → ℕ → List ℕ → List ℕ → Option (ℕ × List ℕ)
parse_own Text end before = parse_ended end
parse_own Binary end before = λ bytes. Some (2 * (length before + 1), bytes)

-- an input
abbrev pub parse_input : LineTests → FileKind → List ℕ → List ℕ → Option (ℕ × List ℕ)
parse_input tests kind before = parse_if (parse_own kind 10 before) (tests.defined before)

-- a latch of this literal
abbrev pub latch_line_from : ℕ → ℕ × Option ℕ → LatchLine
latch_line_from own x = record { literal = own; next = x.0; reset = x.1 }

-- a latch, after these inputs and latches
abbrev pub parse_latch : LineTests → FileKind → List ℕ → List LatchLine → List ℕ
    → Option (LatchLine × List ℕ)
parse_latch tests kind inputs before =
    let literals = inputs ++ map (λ m. m.literal) before in
    parse_if
    (parse_map (λ x. latch_line_from x.0 x.1)
    (parse_both (parse_own kind 32 literals) (λ _. parse_next_and_reset)))
    (λ l. tests.defined literals l.literal && tests.latch l)

-- neither difference passes the number that it is taken from
abbrev pub fits_gate : ℕ → ℕ × ℕ → Bool
fits_gate lhs d = nat_le d.0 lhs && nat_le d.1 (lhs - d.0)

-- the operands of a gate of this literal: in a text file two numbers, in a binary file by their
-- differences
abbrev pub parse_operands : FileKind → ℕ → List ℕ → Option ((ℕ × ℕ) × List ℕ)
parse_operands Text lhs = parse_pair
parse_operands Binary lhs =
    parse_map (λ d. (lhs - d.0, lhs - d.0 - d.1))
    (parse_if (parse_both parse_delta (λ _. parse_delta)) (fits_gate lhs))

-- the gate of three numbers
abbrev pub gate_line_from : ℕ × (ℕ × ℕ) → GateLine
gate_line_from x = record { lhs = x.0; rhs0 = x.1.0; rhs1 = x.1.1 }

-- a gate, after these leaves and gates
abbrev pub parse_gate : LineTests → FileKind → List ℕ → List GateLine → List ℕ
    → Option (GateLine × List ℕ)
parse_gate tests kind leaves before =
    let literals = leaves ++ map (λ h. h.lhs) before in
    parse_if
    (parse_map gate_line_from (parse_both (parse_own kind 32 literals) (parse_operands kind)))
    (λ g. tests.defined literals g.lhs && tests.gate g)

-- ---- sections, by the header's numbers

-- lines of one number
abbrev pub parse_numbers : ℕ → List ℕ → Option (List ℕ × List ℕ)
parse_numbers = parse_times (parse_ended 10)

-- lines of one number that passes a test
abbrev pub parse_tested : (ℕ → Bool) → ℕ → List ℕ → Option (List ℕ × List ℕ)
parse_tested test = parse_times (parse_if (parse_ended 10) test)

-- sets of such lines, of these sizes
unfoldable pub parse_sets : (ℕ → Bool) → List ℕ → List ℕ → Option (List (List ℕ) × List ℕ)
parse_sets test [] bytes = Some ([], bytes)
parse_sets test (n ∷ sizes) bytes = do
  set ← parse_tested test n bytes
  sets ← parse_sets test sizes set.1
  Some (set.0 ∷ sets.0, sets.1)

-- so many justice sets: their sizes, and then their literals
abbrev pub parse_justice : (ℕ → Bool) → ℕ → List ℕ → Option (List (List ℕ) × List ℕ)
parse_justice test count bytes = do
  sizes ← parse_numbers count bytes
  parse_sets test sizes.0 sizes.1

-- outputs and properties
abbrev pub parse_properties : (ℕ → Bool) → HeaderNumbers → List ℕ → Option (Properties ℕ × List ℕ)
parse_properties test ns bytes = do
  outputs ← parse_tested test ns.outputs bytes
  bads ← parse_tested test ns.bads outputs.1
  constraints ← parse_tested test ns.constraints bads.1
  justice ← parse_justice test ns.justice constraints.1
  fairness ← parse_tested test ns.fairness justice.1
  Some (
    record {
      outputs = outputs.0;
      bads = bads.0;
      constraints = constraints.0;
      justice = justice.0;
      fairness = fairness.0;
    },
    fairness.1,
  )

-- the sections after the header
pub record Parts : Type 0 where
  pub inputs : List ℕ
  pub latches : List LatchLine
  pub properties : Properties ℕ
  pub gates : List GateLine

-- the sections after the header
abbrev pub parse_sections : LineTests → FileKind → HeaderNumbers → List ℕ
    → Option (Parts × List ℕ)
parse_sections tests kind ns bytes = do
  inputs ← parse_entries (parse_input tests kind) [] ns.inputs bytes
  latches ← parse_entries (parse_latch tests kind inputs.0) [] ns.latches inputs.1
  properties ← parse_properties tests.used ns latches.1
  gates ←
      parse_entries (parse_gate tests kind (inputs.0 ++ map (λ l. l.literal) latches.0)) [] ns.gates
      properties.1
  Some (
    record {
      inputs = inputs.0;
      latches = latches.0;
      properties = properties.0;
      gates = gates.0;
    },
    gates.1,
  )

-- ---- files

-- what is tested of a file: its header, its lines, all sections after the last gate, and each name
-- beside those before it
pub record Tests : Type 0 where
  pub header : FileKind × HeaderNumbers → Bool
  pub lines : FileKind × HeaderNumbers → LineTests
  pub sections : File → Bool
  pub names : HeaderNumbers → List NameLine → NameLine → Bool

-- the file of a header, sections and names
abbrev pub file_from : (FileKind × HeaderNumbers) × Parts → List NameLine → File
file_from b names = let x = b.1 in record {
  kind = b.0.0;
  greatest = b.0.1.greatest;
  inputs = x.inputs;
  latches = x.latches;
  properties = x.properties;
  gates = x.gates;
  names = names;
}

-- the header and the sections
abbrev pub parse_body : Tests → List ℕ → Option (((FileKind × HeaderNumbers) × Parts) × List ℕ)
parse_body tests =
    parse_both (parse_if parse_header tests.header)
    (λ h. parse_if (parse_sections (tests.lines h) h.0 h.1)
    (λ x. tests.sections (file_from (h, x) [])))

-- the file that the bytes spell, if any, where it passes the tests
unfoldable pub parse_file : Tests → List ℕ → Option File
parse_file tests bytes = do
  b ← parse_body tests bytes
  names ← parse_tail (tests.names b.0.0.1) (suc (length b.1)) [] b.1
  Some (file_from b.0 names)

-- no tests: these read whatever is spelled
abbrev pub no_tests : Tests
no_tests = record {
  header = λ _. true;
  lines = λ _. record {
    defined = λ _ _. true;
    latch = λ _. true;
    used = λ _. true;
    gate = λ _. true;
  };
  sections = λ _. true;
  names = λ _ _ _. true;
}

-- whether the header line is good, and M + 1 passes the limit
abbrev pub too_many_of : ℕ → Option ((FileKind × HeaderNumbers) × List ℕ) → Bool
too_many_of limit None = false
too_many_of limit (Some h) = has_enough h.0.0 h.0.1 && nat_lt limit (h.0.1.greatest + 1)

-- whether bytes begin with such a header line
abbrev pub too_many_at : ℕ → List ℕ → Bool
too_many_at limit bytes = too_many_of limit (parse_header bytes)

-- each entry meets the condition beside the entries before it
abbrev pub AllAfter : {A : Type 0} → (List A → A → Type 0) → List A → List A → Type 0
AllAfter F before [] = Unit {0}
AllAfter F before (x ∷ xs) = F before x × AllAfter F (before ++ x ∷ []) xs
