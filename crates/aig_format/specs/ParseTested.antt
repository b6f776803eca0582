-- Serves private clauses alone.
-- The tests of the running reader, which are the rules of `Fits`: each line is tested beside those
-- before it, and the gates all together. What is read with them is a file that fits the limit.
-- (AIGER format 20071012: "Header", "Binary encoding", "Symbol table"; AIGER 1.9: "Reset logic",
-- "Properties".)
use Rattle.std.specs.Prelude.{ℕ, ◌+◌, Bool, true, not, ◌&&◌, nat_lt, nat_le, ◌==◌, List, [], Option}
use Rattle.std.specs.List.{list_any}
use Rattle.aig_circuit.specs.Properties.{Properties}
use Rattle.aig_format.specs.declared.FileKind.{FileKind}
use Rattle.aig_format.specs.declared.FileKind.TheVariants.{Text, Binary}
use Rattle.aig_format.specs.File.{LatchLine, GateLine, NameLine, File, HeaderNumbers}
use Rattle.aig_format.specs.Fits.{has_enough, is_definable, is_literal, has_reset, is_name, same_place, is_accepted_order}
use Rattle.aig_format.specs.Parse.{LineTests, Tests, Parts, parse_entries, parse_input, parse_latch, parse_gate, parse_tested, parse_sets, parse_justice, parse_properties, parse_sections, parse_header, parse_body, parse_file, parse_tail, parse_if, file_from}

-- ---- the tests

-- a good header within the limit
abbrev pub fits_header : ℕ → FileKind × HeaderNumbers → Bool
fits_header limit h = has_enough h.0 h.1 && nat_le (h.1.greatest + 1) limit

-- a literal that may be defined, and that none of those before it is
abbrev pub defines : ℕ → List ℕ → ℕ → Bool
defines greatest before e = is_definable greatest e && not (list_any (λ d. d == e) before)

-- the literals of a binary file may be defined by their places
abbrev pub may_define : FileKind → ℕ → List ℕ → ℕ → Bool
may_define Text greatest before e = defines greatest before e
may_define Binary greatest before e = true

-- a latch's next literal may be used, and its reset is one
abbrev pub has_next : ℕ → LatchLine → Bool
has_next greatest l = is_literal greatest l.next && has_reset l

-- a gate's operands may be used: in a text file each literal of a variable, in a binary file where
-- the first is below the gate
abbrev pub may_use : FileKind → ℕ → GateLine → Bool
may_use Text greatest g = is_literal greatest g.rhs0 && is_literal greatest g.rhs1
may_use Binary greatest g = nat_lt g.rhs0 g.lhs

-- a name that none of those before it has the place of
abbrev pub tests_name : HeaderNumbers → List NameLine → NameLine → Bool
tests_name ns before n = is_name ns n && not (list_any (λ m. same_place m n) before)

-- the tests of lines, by the greatest variable
abbrev pub line_tests : FileKind → ℕ → LineTests
line_tests kind greatest = record {
  defined = may_define kind greatest;
  latch = has_next greatest;
  used = is_literal greatest;
  gate = may_use kind greatest;
}

-- the tests of a file, by the limit
abbrev pub fitting : ℕ → Tests
fitting limit = record {
  header = fits_header limit;
  lines = λ h. line_tests h.0 h.1.greatest;
  sections = λ f. is_accepted_order f.kind f;
  names = tests_name;
}

-- ---- the readers with them

-- a header line that is good and within the limit
abbrev pub parse_fitting_header : ℕ → List ℕ → Option ((FileKind × HeaderNumbers) × List ℕ)
parse_fitting_header limit = parse_if parse_header (fits_header limit)

-- an input, after these
abbrev pub parse_input_entry : FileKind → ℕ → List ℕ → List ℕ → Option (ℕ × List ℕ)
parse_input_entry kind greatest = parse_input (line_tests kind greatest) kind

-- inputs
abbrev pub parse_fitting_inputs : FileKind → HeaderNumbers → List ℕ → Option (List ℕ × List ℕ)
parse_fitting_inputs kind ns = parse_entries (parse_input_entry kind ns.greatest) [] ns.inputs

-- a latch, after these inputs and latches
abbrev pub parse_latch_entry : FileKind → ℕ → List ℕ → List LatchLine → List ℕ
    → Option (LatchLine × List ℕ)
parse_latch_entry kind greatest = parse_latch (line_tests kind greatest) kind

-- latches, after these inputs
abbrev pub parse_fitting_latches : FileKind → HeaderNumbers → List ℕ → List ℕ
    → Option (List LatchLine × List ℕ)
parse_fitting_latches kind ns inputs =
    parse_entries (parse_latch_entry kind ns.greatest inputs) [] ns.latches

-- so many literals that may be used, a line each
abbrev pub parse_literals : ℕ → ℕ → List ℕ → Option (List ℕ × List ℕ)
parse_literals greatest = parse_tested (is_literal greatest)

-- sets of such literals, of these sizes
abbrev pub parse_literal_sets : ℕ → List ℕ → List ℕ → Option (List (List ℕ) × List ℕ)
parse_literal_sets greatest = parse_sets (is_literal greatest)

-- so many sets of such literals: their sizes, and then the literals
abbrev pub parse_literal_justice : ℕ → ℕ → List ℕ → Option (List (List ℕ) × List ℕ)
parse_literal_justice greatest = parse_justice (is_literal greatest)

-- outputs and properties
abbrev pub parse_fitting_properties : HeaderNumbers → List ℕ → Option (Properties ℕ × List ℕ)
parse_fitting_properties ns = parse_properties (is_literal ns.greatest) ns

-- a gate, after these leaves and gates
abbrev pub parse_gate_entry : FileKind → ℕ → List ℕ → List GateLine → List ℕ
    → Option (GateLine × List ℕ)
parse_gate_entry kind greatest = parse_gate (line_tests kind greatest) kind

-- gates, after these leaves
abbrev pub parse_fitting_gates : FileKind → HeaderNumbers → List ℕ → List ℕ
    → Option (List GateLine × List ℕ)
parse_fitting_gates kind ns leaves =
    parse_entries (parse_gate_entry kind ns.greatest leaves) [] ns.gates

-- the lines of the sections after the header
abbrev pub parse_section_lines : FileKind → HeaderNumbers → List ℕ → Option (Parts × List ℕ)
parse_section_lines kind ns = parse_sections (line_tests kind ns.greatest) kind ns

-- the sections after the header
abbrev pub parse_fitting_sections : FileKind → HeaderNumbers → List ℕ → Option (Parts × List ℕ)
parse_fitting_sections kind ns =
    parse_if (parse_section_lines kind ns)
    (λ x. is_accepted_order kind (file_from ((kind, ns), x) []))

-- the header within the limit, and the sections
abbrev pub parse_fitting_body : ℕ → List ℕ → Option (((FileKind × HeaderNumbers) × Parts) × List ℕ)
parse_fitting_body limit = parse_body (fitting limit)

-- the names after these, with the comment after them, up to the end; at most k names
abbrev pub parse_fitting_tail : HeaderNumbers → ℕ → List NameLine → List ℕ
    → Option (List NameLine)
parse_fitting_tail ns = parse_tail (tests_name ns)

-- the file that the bytes spell, if it fits the limit
abbrev pub parse_fitting : ℕ → List ℕ → Option File
parse_fitting limit = parse_file (fitting limit)
