-- Part of what laws say, and of no promise of a call.
-- A state that is saved once, and what was true since then. (Liveness to safety.)
use Rattle.std.specs.Prelude.{ℕ, zero, suc, ◌≤◌, ◌&&◌, ◌||◌, ◌↔◌, ◌≡◌, if◌then◌else◌, Bool, false, IsTrue}
use Rattle.aig_live.specs.Met.{IsMet}

-- `save` was true at one of the first so many steps
abbrev pub is_saved : (ℕ → Bool) → ℕ → Bool
is_saved save zero = false
is_saved save (suc t) = is_saved save t || save t

-- it was or is, at step t
abbrev pub is_active : (ℕ → Bool) → ℕ → Bool
is_active save t = is_saved save t || save t

-- the copy of a value at a step: it is what the value was, one step later, until that is saved
abbrev pub copied : (ℕ → Bool) → (ℕ → Bool) → ℕ → Bool
copied save x zero = false
copied save x (suc t) = if is_saved save t then copied save x t else x t

-- the value where it is or was saved
abbrev pub start_value : (ℕ → Bool) → (ℕ → Bool) → ℕ → Bool
start_value save x t = if is_saved save t then copied save x t else x t

-- x was true before step t, at or after the save
abbrev pub seen_before : (ℕ → Bool) → (ℕ → Bool) → ℕ → Bool
seen_before save x zero = false
seen_before save x (suc t) = seen_before save x t || (is_active save t && x t)

-- it was or is, at step t
abbrev pub seen : (ℕ → Bool) → (ℕ → Bool) → ℕ → Bool
seen save x t = seen_before save x t || (is_active save t && x t)

-- The save was at step l, and t is that step or a later one: what is saved are the values of step
-- l, and what is seen is what was true since then.
pub record IsSince (save : ℕ → Bool) (l t : ℕ) : Type 0 where
  pub saved : IsTrue (save l)
  pub order : l ≤ t
  pub start : (x : ℕ → Bool) → start_value save x t ≡ x l
  pub met : (x : ℕ → Bool) → IsTrue (seen save x t) ↔ IsMet x l t
