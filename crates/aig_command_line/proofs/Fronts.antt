-- The first bytes of a file, where a piece comes after them.
use Rattle.aig_base.proofs.Words.{◌≡◌, ℕ, ◌+◌, ◌-◌, ◌≤◌, List, ◌++◌, length, take, Option, Some, sym, ap, subst, ◌∙◌, arith, length-take-le, Consumes}
use Rattle.std.specs.Prelude.{IfSome}
use Rattle.std.proofs.Math.Seq.{take-append-add}
use Rattle.std.proofs.lemmas.Slice.{take-put_mid}
use borrow.Rule.Slice.PartMut.{put_mid}
use Rattle.aig_format.specs.declared.FileKind.{FileKind}
use Rattle.aig_format.specs.File.{HeaderNumbers}
use Rattle.aig_format.specs.Parse.{parse_header}
use Rattle.aig_lexer.proofs.Going.{known_after}

pub kept : (bytes piece shown : List ℕ) (len k : ℕ) → length bytes ≡ 256 → len ≤ 256
    → shown ≡ take (256 - len) piece
    → take (len + length shown) (put_mid len k bytes shown) ≡ take 256 (take len bytes ++ piece)
kept bytes piece shown len k size few is =
    let front = take len bytes in
    let long : length front ≡ len = length-take-le len bytes (omega arith) in
    let whole : length front + (256 - len) ≡ 256 = omega (arith, long) in
    take-put_mid len k bytes shown _ (omega arith) (omega arith)
    ∙ ap (λ l. front ++ l) is ∙ sym (take-append-add front piece (256 - len))
    ∙ ap (λ n. take n (front ++ piece)) whole

-- known bytes that begin with what was read
pub header_in : (bytes : List ℕ) (before now : Option (List ℕ)) (taken : List ℕ)
    (y : FileKind × HeaderNumbers) → before ≡ Some bytes → Consumes before now taken
    → ((rest : List ℕ) → parse_header (taken ++ rest) ≡ Some (y, rest))
    → (rest : List ℕ) × (parse_header bytes ≡ Some (y, rest))
header_in bytes before now taken y are came reads =
    let Reads = λ (l : List ℕ). (rest : List ℕ) × (parse_header l ≡ Some (y, rest)) in
    subst (λ (o : Option (List ℕ)). IfSome o Reads) are
    (known_after before now taken Reads came (λ rest. (rest, reads rest)))
