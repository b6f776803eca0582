-- Part of what is promised.
-- Rounds, in each of which some values were all true. (k-liveness.)
use Rattle.std.specs.Prelude.{ℕ, zero, suc, ◌<◌, ◌≤◌, ◌&&◌, ◌||◌, if◌then◌else◌, not, Bool, true, IsTrue}

-- a test holds of all numbers below m
abbrev pub all_below : ℕ → (ℕ → Bool) → Bool
all_below zero p = true
all_below (suc m) p = all_below m p && p m

-- whether value e was true in this round, before step t or at it; a round ends with the step at
-- which all of the values 0 to m - 1 were
abbrev pub now_of : ℕ → (ℕ → ℕ → Bool) → ℕ → ℕ → Bool
now_of m v zero e = v e 0
now_of m v (suc t) e = (now_of m v t e && not (all_below m (now_of m v t))) || v e (suc t)

-- a round ends at step t
abbrev pub ends : ℕ → (ℕ → ℕ → Bool) → ℕ → Bool
ends m v t = all_below m (now_of m v t)

-- how many rounds ended before step t
abbrev pub rounds : ℕ → (ℕ → ℕ → Bool) → ℕ → ℕ
rounds m v zero = 0
rounds m v (suc t) = if ends m v t then suc (rounds m v t) else rounds m v t

-- each of the values is true again and again
abbrev pub AreMetAgain : ℕ → (ℕ → ℕ → Bool) → Type 0
AreMetAgain m v = (e t : ℕ) → e < m → (u : ℕ) × (t ≤ u) × IsTrue (v e u)
