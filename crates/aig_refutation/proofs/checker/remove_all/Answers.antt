use Rattle.aig_base.proofs.Words.{◌≡◌, ℕ, zero, suc, ◌+◌, ◌≤◌, List, [], ◌∷◌, length, drop, get_or, Err, refl, ap, ◌∙◌, arith, err_from_is_err_and}
use Rattle.std.proofs.lemmas.List.{at_drop_more}
use Rattle.aig_refutation.specs.Checking.{deleted}
use Rattle.aig_refutation.proofs.Adding.{deleted_first, deleted_none, deleted_wrong}
use Rattle.aig_refutation.proofs.Known.{tells_on}
use Rattle.aig_refutation.proofs.checker.remove_all.Goals as goal

pub returns-in_err-remove-clause-moves : goal.returns-in_err-remove-clause-moves
returns-in_err-remove-clause-moves c live h =
    let numbers = c.args.numbers.now in
    let i = c.loop-number.number-index in
    let n = get_or numbers i 0 in
    let so_far = c.loop-number.invariant.moves live h in
    let e = c.in_err-remove.field-0.0 in
    let p = err_from_is_err_and c.from_residual.result c.from_residual.ensures.1 in
    rw (p.1, p.2)
    (tells_on e _ (deleted live numbers ≡ Err e) (λ wrong. so_far.2 ∙ at_drop_more (deleted
    so_far.0) numbers i 0 c.loop-number-test.true ∙ deleted_wrong so_far.0 n e (drop (i + 1)
    numbers) wrong)
    (c.in_err-remove.ensures.moves so_far.0 so_far.1))

pub loop-number-preserved : goal.loop-number-preserved
loop-number-preserved c = record {
  same = c.in_ok-remove.ensures.same ∙ c.loop-number.invariant.same;
  moves = λ live h.
      let numbers = c.args.numbers.now in
      let i = c.loop-number.number-index in
      let n = get_or numbers i 0 in
      let so_far = c.loop-number.invariant.moves live h in
      let then = c.in_ok-remove.ensures.moves so_far.0 so_far.1 in (
        then.0,
        then.2,
        so_far.2 ∙ at_drop_more (deleted so_far.0) numbers i 0
            c.loop-number-test.true ∙ deleted_first so_far.0 n then.0 (drop (i + 1) numbers) then.1,
      );
}

pub returns-clause-moves : goal.returns-clause-moves
returns-clause-moves c live h =
    let numbers = c.args.numbers.now in
    let so_far = c.loop-number.invariant.moves live h in
    let none : drop c.loop-number.number-index numbers ≡ [] = drop_all c.loop-number.number-index
    numbers (omega arith) in
    (so_far.0, so_far.2 ∙ ap (deleted so_far.0) none ∙ deleted_none so_far.0 0, so_far.1)
  where
    drop_all : (i : ℕ) (xs : List ℕ) → length xs ≤ i → drop i xs ≡ []
    drop_all zero [] h = refl
    drop_all (suc i) [] h = refl
    drop_all zero (x ∷ xs) h = absurd (omega (arith, h))
    drop_all (suc i) (x ∷ xs) h = drop_all i xs (omega (arith, h))
