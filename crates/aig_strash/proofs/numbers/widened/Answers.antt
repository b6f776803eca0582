use Rattle.aig_base.proofs.Words.{◌≡◌, ℕ, ◌+◌, ◌<◌, ◌∙◌, List, ◌++◌, ◌∷◌, [], length, take, ap, sym, get_or, arith, length-take, take_more}
use Rattle.aig_strash.proofs.numbers.widened.Goals as goal

-- one entry more
taken_more : {X : Type 0} (xs : List X) (i : ℕ) (d : X) (before after : List X) → i < length xs
    → before ≡ take i xs → after ≡ before ++ get_or xs i d ∷ [] → after ≡ take (i + 1) xs
taken_more xs i d before after h so_far pushed =
    pushed ∙ ap (λ ys. ys ++ get_or xs i d ∷ []) so_far ∙ sym (take_more xs i d h)

pub push_reserved-requires : goal.push_reserved-requires
push_reserved-requires c =
    let wide = c.loop-number.wide in
    let numbers = c.args.numbers.now in
    omega (arith, wide.ok.0, ap length c.loop-number.invariant.made, length-take c.loop-number.number-index numbers, c.loop-number.invariant.room)

pub loop-number-preserved : goal.loop-number-preserved
loop-number-preserved c = record {
  made = taken_more c.args.numbers.now c.loop-number.number-index _ c.loop-number.wide.items c.push_reserved.new.self.items c.loop-number-test.true c.loop-number.invariant.made c.push_reserved.ensures.items;
  room = omega (arith, c.push_reserved.ensures.capacity, c.loop-number.invariant.room);
}
