-- The first bytes of a piece, where more of it was copied.
use Rattle.aig_base.proofs.Words.{◌≡◌, ℕ, ◌+◌, ◌-◌, ◌≤◌, List, [], ◌∷◌, ◌++◌, length, take, sym, ap, ◌∙◌, arith, length-take-le, take-append-le}
use Rattle.std.proofs.Math.Seq.{take-append-add}
use borrow.Rule.Slice.PartMut.{post_of, put_mid}

-- after `len` bytes a piece was put, of which `count` bytes count
pub take-put_front : (bytes piece : List ℕ) (len k count : ℕ)
    → len + length piece ≤ length bytes → count ≤ length piece
    → take (len + count) (put_mid len k bytes piece) ≡ take len bytes ++ take count piece
take-put_front bytes piece len k count fits few =
    let front = take len bytes in
    let after = post_of len k bytes in
    let before : length front ≡ len = length-take-le len bytes (omega arith) in
    ap (λ n. take (n + count) (put_mid len k bytes piece)) (sym before)
    ∙ take-append-add front (piece ++ after) count ∙ ap (λ l. front ++ l) (take-append-le count piece after few)

-- a number with the byte after it, at the end of 20 digits
pub take-number : (text digits after : List ℕ) (start end : ℕ) → start + length digits ≡ 20 → text ≡ digits ++ after → take 1 after ≡ end ∷ []
    → take (20 + 1 - start) text ≡ digits ++ end ∷ []
take-number text digits after start end place whole one =
    let k : 20 + 1 - start ≡ length digits + 1 = omega arith in
    rw (k, whole) (take-append-add digits after 1 ∙ ap (λ l. digits ++ l) one)
