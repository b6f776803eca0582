-- Part of what is promised.
-- The names of leaves that are added. (AIGER format 20071012, "Symbol table": any text without a
-- line feed; a name may have blanks, and stand more than once.)
use Rattle.std.specs.Prelude.{ℕ, zero, suc, ◌+◌, codes, decimal, Option, Some, List, [], ◌∷◌, ◌++◌, map, option_map}
use Rattle.std.specs.FinMap.{FinMap, get}
use Rattle.std.specs.Ordering.{nat_cmp}
use Rattle.aig_circuit.specs.Circuit.{Circuit}
use Rattle.aig_join.specs.Names.{with_name}

-- the names with those of nodes in a row, from n on, of which some have none
abbrev pub with_row : FinMap nat_cmp (List ℕ) → ℕ → List (Option (List ℕ))
    → FinMap nat_cmp (List ℕ)
with_row names n [] = names
with_row names n (o ∷ os) = with_row (with_name names n o) (n + 1) os

-- so many names, each a word and a number, from i on
abbrev pub numbered : List ℕ → ℕ → ℕ → List (Option (List ℕ))
numbered word i zero = []
numbered word i (suc count) = Some (word ++ decimal i) ∷ numbered word (i + 1) count

-- the name of a copy: that of its latch behind a word, if it has one
abbrev pub copy_name : Option (List ℕ) → Option (List ℕ)
copy_name = option_map (λ name. codes "saved " ++ name)

-- the names of the copies of a circuit's latches
abbrev pub copy_names : Circuit → List (Option (List ℕ))
copy_names c = map (λ latch. copy_name (get c.names latch.input)) c.latchs

-- the names of what a live circuit has more: the input that saves, the latch that says whether a
-- state was saved, the copies, and for each edge, from 0 on, the latch that says that it was seen
abbrev pub live_names : Circuit → ℕ → List (Option (List ℕ))
live_names c edges =
    Some (codes "save") ∷ Some (codes "saved") ∷ copy_names c ++ numbered (codes "seen ") 0 edges

-- the names of what a circuit that counts rounds has more: for each edge, from 0 on, the latch that
-- says that it was met in this round, and for each number, from 1 on, the one that says that so
-- many rounds ended
abbrev pub rounds_names : ℕ → ℕ → List (Option (List ℕ))
rounds_names edges count = numbered (codes "met ") 0 edges ++ numbered (codes "round ") 1 count
