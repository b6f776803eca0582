use Rattle.aig_base.proofs.Words.{◌≡◌, ℕ, zero, suc, ◌+◌, ◌-◌, ◌≤◌, List, [], ◌∷◌, ◌++◌, length, take, subst, sym, ap, ◌∙◌, length-append, arith, Consumes, Consumes-trans, length-take-le, take-take}
use Rattle.std.proofs.lemmas.Slice.{take-put_mid}
use borrow.Rule.Slice.PartMut.{post_of, put_mid}
use Rattle.aig_lexer.proofs.buffer.pull_front.Goals as goal

-- a list, and then the first of others
part_front : (xs ys : List ℕ) (m n : ℕ) → m ≡ length xs + n → take m (xs ++ ys) ≡ xs ++ take n ys
part_front [] ys m n is = let e : m ≡ n = omega arith in ap (λ (k : ℕ). take k ys) e
part_front (x ∷ xs) ys zero n is = absurd (omega (arith, is))
part_front (x ∷ xs) ys (suc m) n is =
    ap (λ (l : List ℕ). x ∷ l) (part_front xs ys m n (omega (arith, is)))

-- some bytes after those at the front
part_written : (at k n : ℕ) (xs ys : List ℕ) → at ≤ length xs → n ≤ length ys
    → take (at + n) (put_mid at k xs ys) ≡ take at xs ++ take n ys
part_written at k n xs ys room few =
    sym (take-take (at + n) (at + length ys) (put_mid at k xs ys) (omega arith))
    ∙ ap (take (at + n)) (take-put_mid at k xs ys (at + length ys) (omega arith) room)
    ∙ part_front (take at xs) ys (at + n) n (omega (arith, length-take-le at xs room))

room_written : (at k n : ℕ) (xs ys : List ℕ) → at ≤ length xs → n ≤ length ys
    → at + n ≤ length (put_mid at k xs ys)
room_written at k n xs ys room few =
    omega (
      arith,
      length-append (take at xs) (ys ++ post_of at k xs),
      length-append ys (post_of at k xs),
      length-take-le at xs room,
    )

pub loop-end-preserved : goal.loop-end-preserved
loop-end-preserved g c =
    let at = c.loop-end.end in
    let bytes = c.loop-end.bytes in
    let count = c.args.count in
    let room = count - at in
    let inside : at ≤ length bytes = omega (arith, c.loop-end.invariant.bound, c.loop-end.invariant.room) in
    let n = c.in_ok-pulled.pulled in
    let new = c.pull.new.buf in
    let left = g.R.Source.left in
    let front = part_written at room n bytes new inside c.in_ok-pulled.ensures.bound in
    record {
      bound = omega (arith, c.in_ok-pulled.ensures.bound);
      room = omega (arith, room_written at room (length new) bytes new inside (omega arith));
      moved = subst (Consumes (left c.args.r.now) (left c.pull.new.self)) (sym front)
          (Consumes-trans (left c.args.r.now) (left c.loop-end.r) (left c.pull.new.self)
          (take at bytes) (take n new) c.loop-end.invariant.moved c.in_ok-pulled.ensures.moved);
    }
