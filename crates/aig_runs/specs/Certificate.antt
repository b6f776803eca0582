-- Part of what laws say, and of no promise of a call.
-- A file that shows the safety of another. (Certificates of model checking: an inductive invariant
-- is handed over as a file of the same machine with more gates, one of which says the invariant,
-- and whose inverse is a bad literal beside the others.)
use Rattle.std.specs.Prelude.{ℕ, Bool, All, Contains}
use Rattle.aig_format.specs.File.{File}
use Rattle.aig_format.specs.Machine.{IsStep}
use Rattle.aig_runs.specs.Safety.{IsConstrained, IsGood}

-- g has each input, latch and gate of f, and may have others
pub record Extends (g f : File) : Type 0 where
  pub inputs : All (Contains g.inputs) f.inputs
  pub latches : All (Contains g.latches) f.latches
  pub gates : All (Contains g.gates) f.gates

-- g is a certificate of f
pub record IsCertificateOf (g f : File) : Type 0 where
  pub extends : Extends g f
  -- g allows what f allows
  pub constraints : (values : ℕ → Bool) → IsStep g values
      → IsConstrained f values → IsConstrained g values
  -- and where nothing is bad for g, nothing is for f
  pub good : (values : ℕ → Bool) → IsStep g values
      → IsConstrained f values → IsGood g values → IsGood f values
