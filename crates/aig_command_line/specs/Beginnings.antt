-- Serves private clauses alone.
-- The first bytes of a file, and the header that they spell.
use Rattle.std.specs.Prelude.{◌≡◌, ℕ, List, Some, take}
use Rattle.aig_format.specs.Parse.{parse_header}
use Rattle.aig_lexer.specs.Header.{numbers_of}
use Rattle.aig_lexer.specs.declared.header.Header.{Header}
use Rattle.aig_command_line.specs.declared.beginning.Beginning.{Beginning}

-- the bytes that were kept
abbrev pub beginning_of : Beginning → List ℕ
beginning_of b = take b.len b.bytes

-- the bytes begin with the header
abbrev pub HasHeader : List ℕ → Header → Type 0
HasHeader bytes h = (rest : List ℕ) × (parse_header bytes ≡ Some ((h.kind, numbers_of h), rest))
