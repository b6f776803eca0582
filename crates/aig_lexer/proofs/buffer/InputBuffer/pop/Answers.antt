use Rattle.aig_base.proofs.Words.{◌≡◌, ℕ, suc, ◌+◌, ◌-◌, ◌<◌, ◌≤◌, List, ◌∷◌, length, take, drop, get_or, refl, sym, ◌∙◌, arith, drop_more}
use Rattle.aig_lexer.proofs.buffer.InputBuffer.pop.Goals as goal

-- the part of a list from `at` up to `end` begins with the element at `at`
front_of : (xs : List ℕ) (at end : ℕ) → at < end → end ≤ length xs → take (end - at) (drop at xs) ≡ get_or xs at 0 ∷ take (end - (at + 1)) (drop (at + 1) xs)
front_of xs at end lt le =
    let k : end - at ≡ suc (end - (at + 1)) = omega arith in
    let inside : at < length xs = omega arith in
    rw (k, drop_more xs at 0 inside) refl

pub returns : goal.returns
returns c =
    let b = c.self.inside in
    sym c.self.view_is ∙ front_of b.bytes b.at b.end (omega arith) (omega arith)
