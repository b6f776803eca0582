-- Part of what laws say, and of no promise of a call.
-- The order of variables that files which aren't compact have.
use Rattle.std.specs.Prelude.{◌≡◌, ℕ, ◌<◌, ◌⊎◌, Some}
use Rattle.aig_format.specs.File.{File}
use Rattle.aig_format.specs.Levels.{level_of}

-- the first variable has a lesser level than the second, or the same level and is smaller
pub record ComesFirst (f : File) (u v : ℕ) : Type 0 where
  pub first : ℕ
  pub second : ℕ
  pub first_is : level_of f u ≡ Some first
  pub second_is : level_of f v ≡ Some second
  pub before : (first < second) ⊎ ((first ≡ second) × (u < v))
