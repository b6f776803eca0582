-- Serves private clauses alone.
-- Sets of numbers, a bit each.
use Rattle.std.specs.Prelude.{ℕ, ◌/◌, ◌%◌, ◌==◌, Bool, List, slice_index_or}
use Rattle.std.specs.Int.{bit_at}

-- whether bit v % 64 of word v / 64 is set; past the end none is
abbrev pub bit_is_set : List ℕ → ℕ → Bool
bit_is_set words v = bit_at (slice_index_or words (v / 64) 0) (v % 64) == 1
