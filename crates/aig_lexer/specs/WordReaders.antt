-- Serves private clauses alone.
-- Readers on lists for the words of the format.
use Rattle.std.specs.Prelude.{ℕ, ◌==◌, List, ◌∷◌, Option}
use Rattle.aig_format.specs.Parse.{parse_byte, parse_number, parse_if}

-- this byte
abbrev pub parse_expected : ℕ → List ℕ → Option (ℕ × List ℕ)
parse_expected byte = parse_if parse_byte (λ b. byte == b)

-- a number whose first byte came before, and the byte that ends it
abbrev pub parse_number_from : ℕ → List ℕ → Option ((ℕ × ℕ) × List ℕ)
parse_number_from first bytes = parse_number (first ∷ bytes)
