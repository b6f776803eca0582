-- What the lines of sections tell of their file, before the rules after the last gate are tested.
use Rattle.aig_base.proofs.Words.{◌≡◌, ℕ, ◌≤◌, true, List, [], length, Some, refl, arith, eqb-true, leb-true}
use Rattle.std.specs.Prelude.{IsTrue}
use Rattle.aig_format.specs.declared.FileKind.{FileKind}
use Rattle.aig_format.specs.declared.FileKind.TheVariants.{Text, Binary}
use Rattle.aig_format.proofs.Words.{File, HeaderNumbers, header_of, defined, used, AllPass, is_literal, has_enough, count_defined, Placed, Parts, file_from}
use Rattle.aig_format.proofs.Entries.{length-defined, on_used}
use Rattle.aig_format.specs.ParseTested.{line_tests, parse_section_lines}
use Rattle.aig_format.proofs.WholeFile.{file_passes}
use Rattle.aig_format.proofs.InARow.{Reads-sections}
use Rattle.aig_format.proofs.FittingFiles.{VariablesFit, next_literals, variables_fit}

-- the file of these sections, with no names
abbrev file_by : FileKind → HeaderNumbers → Parts → File
file_by kind ns x = file_from ((kind, ns), x) []

-- there are as many entries as the numbers say, and the literals of binary files are those of their places
pub record HasCounts (kind : FileKind) (ns : HeaderNumbers) (x : Parts) : Type 0 where
  pub inputs : length x.inputs ≡ ns.inputs
  pub latches : length x.latches ≡ ns.latches
  pub gates : length x.gates ≡ ns.gates
  pub placed : Placed kind (defined (file_by kind ns x))

-- what the lines of sections tell
pub record LinesTell (kind : FileKind) (ns : HeaderNumbers) (x : Parts) : Type 0 where
  pub counts : HasCounts kind ns x
  pub count : length (defined (file_by kind ns x)) ≡ count_defined ns
  pub variables : VariablesFit (file_by kind ns x)
  pub in_range : AllPass (is_literal ns.greatest) (used (file_by kind ns x))
  pub enough : length (defined (file_by kind ns x)) ≤ ns.greatest

enough_for : (kind : FileKind) (ns : HeaderNumbers) → has_enough kind ns ≡ true → count_defined ns ≤ ns.greatest
enough_for Text ns h = leb-true (count_defined ns) ns.greatest h
enough_for Binary ns h = let exact = eqb-true ns.greatest (count_defined ns) h in omega arith

-- the test of a header looks at its greatest variable and at how many are defined
enough_in : (kind : FileKind) (ns : HeaderNumbers) (f : File) → f.greatest ≡ ns.greatest → count_defined (header_of f) ≡ count_defined ns → has_enough kind ns ≡ true → has_enough kind (header_of f) ≡ true
enough_in Text ns f top count h = rw (top, count) h
enough_in Binary ns f top count h = rw (top, count) h

-- the sections after a good header, which were read
pub lines_tell : (kind : FileKind) (ns : HeaderNumbers) (x : Parts) (bytes rest : List ℕ) → has_enough kind ns ≡ true → parse_section_lines kind ns bytes ≡ Some (x, rest) → LinesTell kind ns x
lines_tell kind ns x bytes rest good read =
    let f = file_by kind ns x in
    let s = (Reads-sections (line_tests kind ns.greatest) kind ns).sound bytes (x, rest) read in
    let lines = (file_passes (line_tests kind ns.greatest) f).0 s.2.0 in
    let latches = s.2.1.4 in
    let following = latches.4 in
    let counts : HasCounts kind ns x = record { inputs = s.2.1.3.0; latches = latches.3.0; gates = following.4.0; placed = lines.placed } in
    let all : length (defined f) ≡ count_defined ns = omega (arith, length-defined f, counts.inputs, counts.latches, counts.gates) in
    let header : count_defined (header_of f) ≡ count_defined ns = omega (arith, counts.inputs, counts.latches, counts.gates) in
    let high = enough_for kind ns good in
    let variables = variables_fit kind f following.1 refl (enough_in kind ns f refl header good) lines.placed following.4.1 lines.defined lines.gates in
    record {
      counts = counts;
      count = all;
      variables = variables;
      in_range = (on_used (λ e. IsTrue (is_literal f.greatest e)) f).1 (record { latches = ((next_literals f.greatest f.latches).0 lines.latches).0; properties = lines.properties; gates = variables.operands });
      enough = omega (arith, all, high);
    }
