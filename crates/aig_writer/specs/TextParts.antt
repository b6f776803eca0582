-- Serves private clauses alone.
-- The parts of a text.
use Rattle.std.specs.Prelude.{ℕ, List, [], map, Option, Some, None, Vec}
use Rattle.std.specs.declared.alloc.Global.{Global}
use Rattle.aig_circuit.specs.declared.edge.AigEdge.{AigEdge}
use Rattle.aig_format.specs.Written.{name_text}

-- the edges of each set
abbrev pub edges_of_sets : List (Vec AigEdge Global) → List (List AigEdge)
edges_of_sets sets = map (λ set. set.items) sets

-- the line of a name, where there is one
abbrev pub text_of_name : ℕ → ℕ → Option (List ℕ) → List ℕ
text_of_name letter position None = []
text_of_name letter position (Some name) =
    name_text (record { letter = letter; position = position; name = name })
