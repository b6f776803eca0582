-- Part of what is promised.
-- What is true at one of some steps.
use Rattle.std.specs.Prelude.{ℕ, ◌≤◌, Bool, IsTrue}

-- x is true at one of the steps l to k
abbrev pub IsMet : (ℕ → Bool) → ℕ → ℕ → Type 0
IsMet x l k = (t : ℕ) × (l ≤ t) × (t ≤ k) × IsTrue (x t)
