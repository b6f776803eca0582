-- Serves private clauses alone.
-- A search for the levels of a file's variables.
use Rattle.std.specs.Prelude.{◌≡◌, ℕ, ◌+◌, ◌*◌, ◌<◌, ◌⊎◌, max, true, false, not, List, [], ◌∷◌, ◌++◌, length, All, Contains, filter, slice_index_or, slice_set, Option, Some, None}
use Rattle.aig_circuit.specs.declared.node.AigNodeType.{AigNodeType}
use Rattle.aig_circuit.specs.declared.node.AigNodeType.TheVariants.{False, Leaf, And}
use Rattle.aig_format.specs.File.{File}
use Rattle.aig_format.specs.Levels.{level_of}
use Rattle.aig_ordering.specs.Tables.{level_at}
use Rattle.aig_ordering.specs.declared.levels.Search.{Search}
use Rattle.aig_ordering.specs.declared.levels.Task.{Task}
use Rattle.aig_ordering.specs.declared.levels.Task.TheVariants.{Operand, Level}

-- one more than the greater of two levels
abbrev pub IsAbove : Option ℕ → Option ℕ → ℕ → Type 0
IsAbove first second level =
    (a b : ℕ) × (first ≡ Some a) × (second ≡ Some b) × (level ≡ max a b + 1)

-- the level of what is no gate is 0, and that of a gate is above those of its operands
abbrev pub IsLevelBy : List ℕ → AigNodeType → ℕ → Type 0
IsLevelBy levels (And a b) level =
    IsAbove (level_at levels a.node_id) (level_at levels b.node_id) level
IsLevelBy levels False level = level ≡ 0
IsLevelBy levels Leaf level = level ≡ 0

-- an operand of a gate
abbrev pub IsOperandOf : AigNodeType → ℕ → Type 0
IsOperandOf (And a b) v = (v ≡ a.node_id) ⊎ (v ≡ b.node_id)
IsOperandOf False v = ⊥
IsOperandOf Leaf v = ⊥

-- an operand whose level isn't known, or else the level
abbrev pub IsTask : List ℕ → AigNodeType → Task → Type 0
IsTask levels kind (Operand v) = IsOperandOf kind v × (level_at levels v ≡ None)
IsTask levels kind (Level level) = IsLevelBy levels kind level

-- where the first variable has a level, the second has a smaller one
abbrev pub Descends : File → ℕ → ℕ → Type 0
Descends f v u = (k : ℕ) → level_of f v ≡ Some k → (j : ℕ) × (level_of f u ≡ Some j) × (j < k)

-- each variable stands above the next
abbrev pub IsPath : File → List ℕ → Type 0
IsPath f [] = Unit {0}
IsPath f (v ∷ []) = Unit {0}
IsPath f (v ∷ u ∷ rest) = Descends f v u × IsPath f (u ∷ rest)

-- what is left to do: variables to open, and those that wait
abbrev pub work_of : Search → ℕ
work_of s = 2 * length (filter not s.opened.items) + length s.path.items

-- a level is known
abbrev pub IsFound : Search → ℕ → Type 0
IsFound s v = (k : ℕ) × (level_at s.levels.items v ≡ Some k)

-- the search has a place for each variable, and the levels that it knows are right
pub record IsSearch (f : File) (s : Search) : Type 0 where
  pub levels : length s.levels.items ≡ f.greatest + 1
  pub opened : length s.opened.items ≡ f.greatest + 1
  pub right : (v k : ℕ) → level_at s.levels.items v ≡ Some k → level_of f v ≡ Some k

-- the search is at this variable: what was opened has its level or is on the path to it
pub record IsAt (f : File) (s : Search) (v : ℕ) : Type 0 where
  pub search : IsSearch f s
  pub within : All (λ u. u < f.greatest + 1) (s.path.items ++ v ∷ [])
  pub path : IsPath f (s.path.items ++ v ∷ [])
  pub opened : (u : ℕ) → slice_index_or s.opened.items u false ≡ true
      → IsFound s u ⊎ Contains (s.path.items ++ v ∷ []) u

-- nothing waits, and what was opened has its level
pub record IsAtRest (f : File) (s : Search) : Type 0 where
  pub search : IsSearch f s
  pub path : s.path.items ≡ []
  pub opened : (u : ℕ) → slice_index_or s.opened.items u false ≡ true → IsFound s u

-- at a variable, or at rest
abbrev pub IsAtSome : File → Search → Option ℕ → Type 0
IsAtSome f s (Some v) = IsAt f s v
IsAtSome f s None = IsAtRest f s

-- what was opened stays so
abbrev pub StaysOpen : Search → Search → Type 0
StaysOpen old new =
    (u : ℕ) → slice_index_or old.opened.items u false ≡ true
    → slice_index_or new.opened.items u false ≡ true

-- the operand is opened, which it was not, and the variable waits for it
pub record Opens (old new : Search) (variable operand : ℕ) : Type 0 where
  pub closed : slice_index_or old.opened.items operand false ≡ false
  pub opened : new.opened.items ≡ slice_set old.opened.items operand true
  pub path : new.path.items ≡ old.path.items ++ variable ∷ []
  pub levels : new.levels.items ≡ old.levels.items
