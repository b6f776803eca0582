-- Part of what is promised.
-- What the answer of an encoding call is, and what such a call says of the bytes.
use Rattle.std.specs.Prelude.{ℕ, Bool, if◌then◌else◌, nat_le}
use Rattle.aig_format.specs.File.{File}
use Rattle.aig_format.specs.Circuit.{circuit_of}
use Rattle.aig_reader.specs.Verdicts as reading
use Rattle.aig_reader.specs.Verdicts.{Accepted, Short, TooLarge, Verdict}
use Rattle.aig_unroll.specs.Places.{unrolled_size}
use Rattle.aig_runs.specs.Encodes.{Encodes}
use Rattle.aig_runs.specs.Queries.{IsQueryOf}
use Rattle.aig_encode.specs.declared.error.EncodeError.{EncodeError}
use Rattle.aig_encode.specs.declared.error.EncodeError.TheVariants as errors
use Rattle.aig_encode.specs.declared.query_clauses.Query.{Query}

-- ---- answers

-- the file is encoded, and the query clauses ask for a run from an initial state to a bad literal
-- at step k
abbrev pub IsQuery : ℕ → Bool → File → Query → Type 0
IsQuery k optimize f q =
    Encodes f k optimize q.encoded.circuit q.encoded.unrolled q.encoded.clauses
    × IsQueryOf f k q.encoded.circuit q.encoded.unrolled q.encoded.clauses q.extra

-- ---- bytes

-- the verdict on a file that fits: whether the bound of its circuit with k further steps is within
-- the limit
abbrev pub encoded_verdict : ℕ → ℕ → File → Verdict
encoded_verdict limit k f =
    if nat_le (unrolled_size (circuit_of f) k) limit then Accepted else TooLarge

-- what an error says
abbrev pub verdict_of : EncodeError → Verdict
verdict_of (errors.Read e) = reading.verdict_of e
verdict_of errors.Memory = Short
verdict_of errors.TooLarge = TooLarge
