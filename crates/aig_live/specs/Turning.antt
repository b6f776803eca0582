-- Part of what laws say, and of no promise of a call.
-- The steps of a lasso, taken without end.
use Rattle.std.specs.Prelude.{ℕ, zero, suc, ◌==◌, if◌then◌else◌}

-- which of the steps 0 to k is taken at t, where step l comes again after step k
abbrev pub turn : ℕ → ℕ → ℕ → ℕ
turn l k zero = 0
turn l k (suc t) = if turn l k t == k then l else suc (turn l k t)
