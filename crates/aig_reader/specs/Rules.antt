-- Serves private clauses alone.
-- Reading by a rule for resets: the tests of the running reader, and what they accept.
use Rattle.std.specs.Prelude.{ℕ, ◌/◌, ◌==◌, Bool, ◌&&◌, ◌||◌, if◌then◌else◌, List, [], Option, Some, None}
use Rattle.aig_circuit.specs.declared.edge.AigEdge.{AigEdge}
use Rattle.aig_circuit.specs.declared.node.AigLatch.{AigLatch}
use Rattle.aig_circuit.specs.declared.view.CircuitLists.{CircuitLists}
use Rattle.aig_format.specs.declared.FileKind.{FileKind}
use Rattle.aig_format.specs.File.{File, HeaderNumbers, LatchLine}
use Rattle.aig_format.specs.Fits.{Accepts, is_accepted_order, is_literal}
use Rattle.aig_format.specs.Parse.{LineTests, Parts, Tests, file_from, parse_body, parse_entries, parse_file, parse_if, parse_latch, parse_sections}
use Rattle.aig_format.specs.ParseTested.{fits_header, may_define, may_use, tests_name}
use Rattle.aig_ordering.specs.Lists.{edge_from}
use Rattle.aig_reader.specs.declared.latches.Resets.{Resets}
use Rattle.aig_reader.specs.declared.latches.Resets.TheVariants.{Values, Functions}
use Rattle.aig_reader.specs.declared.variable_nodes.NumberedLists.{NumberedLists}
use Rattle.aig_reader.specs.Reading.{AreListsOf, TellsNodes}
use Rattle.aig_reader.specs.Resets.{AcceptsWithResets, AreListsWithResets, knows_resets, reset_in}

-- ---- lines

-- the greatest variable of a reset, by that of the file
abbrev pub greatest_by : Resets → ℕ → ℕ
greatest_by Values greatest = 0
greatest_by Functions greatest = greatest

-- the rule allows the reset of a latch
abbrev pub allows : Resets → ℕ → LatchLine → Bool
allows resets greatest l =
    is_literal (greatest_by resets greatest) (reset_in l) || (reset_in l == l.literal)

-- the initial edge of a latch, with each variable as its own number
abbrev pub edge_of_reset : LatchLine → Option AigEdge
edge_of_reset l = if reset_in l == l.literal then None else Some (edge_from (reset_in l))

-- the latch of a line, with each variable as its own number
abbrev pub latch_from : LatchLine → AigLatch
latch_from l =
    record { input = l.literal / 2; next = edge_from l.next; init = edge_of_reset l }

-- the tests of lines
abbrev pub line_tests_by : Resets → FileKind → ℕ → LineTests
line_tests_by resets kind greatest = record {
  defined = may_define kind greatest;
  latch = λ l. is_literal greatest l.next && allows resets greatest l;
  used = is_literal greatest;
  gate = may_use kind greatest;
}

-- the test of all sections, after the last gate
abbrev pub keeps : FileKind → File → Bool
keeps kind f = is_accepted_order kind f && knows_resets f

-- ---- readers

-- a latch, after these inputs and latches
abbrev pub parse_latch_by : Resets → FileKind → ℕ → List ℕ → List LatchLine → List ℕ
    → Option (LatchLine × List ℕ)
parse_latch_by resets kind greatest = parse_latch (line_tests_by resets kind greatest) kind

-- latches, after these inputs
abbrev pub parse_latches_by : Resets → FileKind → HeaderNumbers → List ℕ → List ℕ
    → Option (List LatchLine × List ℕ)
parse_latches_by resets kind ns inputs =
    parse_entries (parse_latch_by resets kind ns.greatest inputs) [] ns.latches

-- the lines of the sections after the header
abbrev pub parse_lines_by : Resets → FileKind → HeaderNumbers → List ℕ → Option (Parts × List ℕ)
parse_lines_by resets kind ns = parse_sections (line_tests_by resets kind ns.greatest) kind ns

-- the sections after the header
abbrev pub parse_sections_by : Resets → FileKind → HeaderNumbers → List ℕ
    → Option (Parts × List ℕ)
parse_sections_by resets kind ns =
    parse_if (parse_lines_by resets kind ns) (λ x. keeps kind (file_from ((kind, ns), x) []))

-- the tests of a file
abbrev pub fitting_by : Resets → ℕ → Tests
fitting_by resets limit = record {
  header = fits_header limit;
  lines = λ h. line_tests_by resets h.0 h.1.greatest;
  sections = λ f. keeps f.kind f;
  names = tests_name;
}

-- the header within the limit, and the sections
abbrev pub parse_body_by : Resets → ℕ → List ℕ
    → Option (((FileKind × HeaderNumbers) × Parts) × List ℕ)
parse_body_by resets limit = parse_body (fitting_by resets limit)

-- the file that the bytes spell, if it passes
abbrev pub parse_by : Resets → ℕ → List ℕ → Option File
parse_by resets limit = parse_file (fitting_by resets limit)

-- ---- files

-- the bytes are accepted by the rule, and are this file
abbrev pub AcceptsBy : Resets → ℕ → List ℕ → File → Type 0
AcceptsBy Values = λ limit bytes. Accepts bytes limit
AcceptsBy Functions = AcceptsWithResets

-- the lists are those of its circuit by the rule
abbrev pub AreListsBy : Resets → File → CircuitLists → Type 0
AreListsBy Values = AreListsOf
AreListsBy Functions = AreListsWithResets

-- and of each variable its node is told
abbrev pub IsNumberedBy : Resets → File → NumberedLists → Type 0
IsNumberedBy resets f read = AreListsBy resets f read.lists × TellsNodes f read.variables
