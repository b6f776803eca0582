use Rattle.std.proofs.Common.{◌≡◌, ℕ, Bool, false, not, nat_eq, arith}
use Rattle.aig_base.proofs.Words.{nat_tests}
use Rattle.aig_base.proofs.test_streams.TakerSink.put.Goals as goal
use Rattle.aig_base.proofs.test_streams.TakerSink.put.Goals.{then-self-eq0, else-self-eq0}

-- a piece that does not stop it where it is full is empty
no_piece : (n : ℕ) (empty stops : Bool) → empty ≡ nat_eq n 0 → stops ≡ not empty → stops ≡ false
    → n ≡ 0
no_piece n empty stops is stops_at goes_on = grind (arith, nat_tests)

pub returns-clause-some : goal.returns-clause-some
returns-clause-some c = λ none. elim c.if-self-eq0.branch [
  | then-self-eq0 w ↦ no_piece _ _ _ w.is_empty.ensures w.value-is c.if-not-is_empty.false
  | else-self-eq0 w ↦ omega (arith, w.if-self-eq0.false)
]

pub returns-clause-full : goal.returns-clause-full
returns-clause-full c = λ some full.
    let never : ⊥ = elim c.if-self-eq0.branch [
      | then-self-eq0 w ↦ (let none = no_piece _ _ _ w.is_empty.ensures w.value-is c.if-not-is_empty.false in omega (arith, none))
      | else-self-eq0 w ↦ omega (arith, w.if-self-eq0.false)
    ] in
    absurd never
