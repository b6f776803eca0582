-- Part of what is promised.
-- What is told of a file beside an answer about it.
use Rattle.std.specs.Prelude.{ℕ, Bool, ◌&&◌, ◌||◌, List, [], ◌∷◌, ◌++◌, Option, Some, None, codes, if◌then◌else◌, nat_lt, slice_get}
use Rattle.aig_lexer.specs.declared.header.Header.{Header}
use Rattle.aig_command_line.specs.Shown.{shown_path}
use Rattle.aig_command_line.specs.declared.notice.Headers.{Headers}
use Rattle.aig_command_line.specs.declared.notice.Regard.{Regard}

-- a file has justice properties or fairness constraints, which are not looked at
abbrev pub leaves_out : Regard → Header → Bool
leaves_out regard h = regard.leaves_out && (nat_lt 0 h.justice || nat_lt 0 h.fairness)

-- a file has constraints, and these say which runs are compared
abbrev pub compares_within : Regard → Header → Bool
compares_within regard h = regard.compares && nat_lt 0 h.constraints

-- a line about a file
abbrev pub line_about : List ℕ → List ℕ → List ℕ → List ℕ
line_about program path text =
    program ++ (codes ": " ++ (shown_path path ++ (codes ": " ++ text)))

-- the line, where it is told
abbrev pub line_if : Bool → List ℕ → List (List ℕ)
line_if told line = if told then line ∷ [] else []

-- the lines that are told of the file at the path, which has this header
abbrev pub notices_of : List ℕ → List ℕ → Regard → Option Header → List (List ℕ)
notices_of program path regard None = []
notices_of program path regard (Some h) =
    line_if (leaves_out regard h)
    (line_about program path (codes "justice and fairness were not looked at"))
    ++ line_if (compares_within regard h)
    (line_about program path (codes "compared only on runs that its constraints allow"))

-- those of the file at the path, if there is one
abbrev pub notices_at : List ℕ → Option (List ℕ) → Regard → Option Header → List (List ℕ)
notices_at program None regard header = []
notices_at program (Some path) regard header = notices_of program path regard header

-- the lines that are told of the files at the first two paths
abbrev pub lines_of : List ℕ → List (List ℕ) → Regard → Headers → List (List ℕ)
lines_of program paths regard headers =
    notices_at program (slice_get paths 0) regard headers.first
    ++ notices_at program (slice_get paths 1) regard headers.second

-- this line is told
abbrev pub tells_line : {T : Type 0} → (T → Option (List ℕ) → T → Type 0) → T → List ℕ → T → Type 0
tells_line tells old line new = tells old (Some line) new
