-- Serves private clauses alone.
-- Lists that stand one after another in one list, and where each ends.
use Rattle.std.specs.Prelude.{◌≡◌, ℕ, zero, suc, ◌≤◌, List, [], ◌∷◌, length, take, slice_range, slice_index}

-- the lists that a list is cut into: the first begins at `from`, and each other where the one
-- before it ends
abbrev pub cut_at : {X : Type 0} → ℕ → List ℕ → List X → List (List X)
cut_at from [] items = []
cut_at from (end ∷ ends) items = slice_range items from end ∷ cut_at end ends items

-- where the list of this place begins
abbrev pub start_of : ℕ → List ℕ → ℕ → ℕ
start_of from ends zero = from
start_of from ends (suc i) = slice_index ends i

-- the ends rise from `from`, and the last of all is `last`
abbrev pub AreEnds : ℕ → List ℕ → ℕ → Type 0
AreEnds from [] last = from ≡ last
AreEnds from (end ∷ ends) last = (from ≤ end) × AreEnds end ends last

-- the first so many ends cut the first so many items
pub record IsCut {X : Type 0} (ends : List ℕ) (items : List X) (clauses used : ℕ) : Type 0 where
  pub are_ends : AreEnds 0 (take clauses ends) used
  pub clauses_few : clauses ≤ length ends
  pub used_few : used ≤ length items
