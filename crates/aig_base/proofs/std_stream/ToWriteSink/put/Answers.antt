use Rattle.std.proofs.Common.{◌≡◌, ℕ, Bool, true, nat_eq, arith}
use Rattle.aig_base.proofs.Words.{nat_tests}
use Rattle.aig_base.proofs.std_stream.ToWriteSink.put.Goals as goal
use Rattle.aig_base.proofs.std_stream.ToWriteSink.put.Goals.{then-n-gt0, else-n-gt0}

-- a piece that is known to be empty is
is_none : (n : ℕ) (empty value : Bool) → empty ≡ nat_eq n 0 → value ≡ empty → value ≡ true → n ≡ 0
is_none n empty value is same known = grind (arith, nat_tests)

pub returns-in-Ok-clause-some : goal.returns-in-Ok-clause-some
returns-in-Ok-clause-some g c = λ none. elim c.if-n-gt0.branch [
  | then-n-gt0 w ↦ omega (arith, none, w.if-n-gt0.true)
  | else-n-gt0 w ↦ is_none _ _ _ w.is_empty.ensures w.value-is c.if-is_empty.true
]
