-- Serves private clauses alone.
-- Names up to the end of the stream, and those that are kept. (AIGER format 20071012: "Symbol
-- table", "Comment section".)
use Rattle.std.specs.Prelude.{◌≡◌, ℕ, suc, ◌==◌, if◌then◌else◌, List, [], length, filter_map, slice_index, Option, Some, None, IfSome, Result, Ok, Err, option_map}
use Rattle.std.specs.Ordering.{nat_cmp}
use Rattle.std.specs.FinMap.{FinMap, from_entries}
use Rattle.aig_format.specs.Letters.{letter_of_inputs, letter_of_latches}
use Rattle.aig_format.specs.File.{NameLine, HeaderNumbers}
use Rattle.aig_format.specs.ParseTested.{parse_fitting_tail}
use Rattle.aig_lexer.specs.declared.error.LineError.{LineError}
use Rattle.aig_lexer.specs.declared.error.LineError.TheVariants as line
use Rattle.aig_lexer.specs.Faults.{Cause, Memory, Never, Other, Stream, Tells}
use Rattle.aig_lexer.specs.Takes.{Feed, Ends}

-- the names and the comment after the gates, by the header's numbers
abbrev pub tail_of : HeaderNumbers → List ℕ → Option (List NameLine)
tail_of ns bytes = parse_fitting_tail ns (suc (length bytes)) [] bytes

-- why names aren't read
abbrev pub name_cause : LineError → Cause
name_cause line.Memory = Memory
name_cause line.Stream = Stream
name_cause line.Syntax = Other
name_cause line.Literal = Never

-- a value that was made of what the bytes up to the end are read as, or an error that tells that
-- they aren't read
abbrev pub EndsWith : {X Y E : Type 0} → (E → Cause) → (X → Y → Type 0) → Feed → Feed
    → Result X E → (List ℕ → Option Y) → Type 0
EndsWith {Y = Y} cause IsOf before after (Ok x) read =
    (y : Y) × IsOf x y × (taken : List ℕ) × (read taken ≡ Some y) × Ends before after taken
EndsWith cause IsOf before after (Err e) read =
    Tells (cause e) (IfSome before.coming (λ bytes. read bytes ≡ None)) after.failed

-- the node at a position of inputs or latches
abbrev pub node_at : List ℕ → List ℕ → ℕ → ℕ → Option ℕ
node_at inputs leaves letter position =
    if letter == letter_of_inputs then Some (slice_index inputs position)
    else if letter == letter_of_latches then Some (slice_index leaves position)
    else None

-- the node that a name of an input or a latch names; other names are dropped
abbrev pub kept_name : List ℕ → List ℕ → NameLine → Option (ℕ × List ℕ)
kept_name inputs leaves n =
    option_map (λ node. (node, n.name)) (node_at inputs leaves n.letter n.position)

-- the names of nodes
abbrev pub kept_names : List ℕ → List ℕ → List NameLine → FinMap nat_cmp (List ℕ)
kept_names inputs leaves names = from_entries (filter_map (kept_name inputs leaves) names)
