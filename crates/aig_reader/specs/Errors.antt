-- Part of what is promised.
-- What errors are made of.
use Rattle.std.specs.Prelude.{ℕ, List, codes}
use Rattle.aig_lexer.specs.declared.error.LexError.{LexError}
use Rattle.aig_lexer.specs.declared.error.LexError.TheVariants as lex
use Rattle.aig_reader.specs.declared.error.ReadError.{ReadError}
use Rattle.aig_reader.specs.declared.error.ReadError.TheVariants as errors
use Rattle.aig_reader.specs.declared.error.Section.{Section}
use Rattle.aig_reader.specs.declared.error.Section.TheVariants as sections

-- what a section is called
abbrev pub section_name : Section → List ℕ
section_name sections.Inputs = codes "inputs"
section_name sections.Latches = codes "latches"
section_name sections.Outputs = codes "outputs"
section_name sections.Bads = codes "bads"
section_name sections.Constraints = codes "constraints"
section_name sections.Justice = codes "justice"
section_name sections.Fairness = codes "fairness"
section_name sections.Gates = codes "gates"

-- a fault in the header line
abbrev pub header_error_of : LexError → ReadError
header_error_of lex.Stream = errors.Stream
header_error_of lex.Shape = errors.Header
