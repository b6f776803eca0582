-- A line of numbers, built from its last number on.
use Rattle.aig_base.proofs.Words.{◌≡◌, ℕ, ◌+◌, ◌-◌, ◌<◌, ◌≤◌, List, [], ◌∷◌, ◌++◌, length, take, drop, replicate, set, get_or, refl, sym, ap, ◌∙◌, append_assoc, length-append, arith, decimal, take-append_seam}
use Rattle.std.proofs.lemmas.Grind.{drop-set_at}
use Rattle.std.proofs.lemmas.List.{drop_all, drop_more, get_or-replicate, get_or-take, length-drop, take-replicate, take-set-le, take-take}
use Rattle.aig_format.specs.Written.{line_text}

-- what stands after a number of a line
abbrev pub following : List ℕ → List ℕ
following [] = 10 ∷ []
following (n ∷ ns) = 32 ∷ line_text (n ∷ ns)

line_text-cons : (n : ℕ) (ns : List ℕ) → line_text (n ∷ ns) ≡ decimal n ++ following ns
unfolding line_text
line_text-cons n [] = refl
line_text-cons n (m ∷ ns) = refl

-- from the place before `start` on, the text is what stands after a number, and 32 bytes more; blanks are before that
pub record Built (text : List ℕ) (start : ℕ) (ns : List ℕ) : Type 0 where
  pub more : List ℕ
  pub many : length more ≡ 32
  pub written : drop (start - 1) text ≡ following ns ++ more
  pub blank : take (start - 1) text ≡ replicate (start - 1) 32

-- nothing but the line feed
pub Built-start : (text ns : List ℕ) (start left : ℕ) → length ns ≤ left
    → drop (start - 1) text ≡ 10 ∷ replicate 32 32
    → take (start - 1) text ≡ replicate (start - 1) 32 → Built text start (drop left ns)
Built-start text ns start left all written blank =
    let none : Built text start [] = record
    { more = replicate 32 32; many = refl; written = written; blank = blank } in
    rw (drop_all left ns all) none

-- one more number, which begins at `at`
pub Built-turn : (text new : List ℕ) (start at n : ℕ) (ns : List ℕ) → Built text start ns → 0 < at
    → at ≤ length new → at + length (decimal n) ≡ start - 1
    → drop at new ≡ decimal n ++ drop (start - 1) text → take at new ≡ take at text → Built new at (n ∷ ns)
Built-turn text new start at n ns built some within before written same =
    let blanks : take at new ≡ replicate at 32 =
    same ∙ sym (take-take at (start - 1) text (omega arith)) ∙ ap (take at) built.blank ∙ take-replicate at (start - 1) 32 (omega arith) in
    let blank : get_or new (at - 1) 0 ≡ 32 =
    sym (get_or-take at new (at - 1) 0 (omega arith)) ∙ ap (λ l. get_or l (at - 1) 0) blanks ∙ get_or-replicate at (at - 1) 32 0 (omega arith) in
    let next : at - 1 + 1 ≡ at = omega arith in
    let number : drop at new ≡ line_text (n ∷ ns) ++ built.more =
    written ∙ ap (λ l. decimal n ++ l) built.written ∙ sym (append_assoc (decimal n) (following ns) built.more)
    ∙ ap (λ l. l ++ built.more) (sym (line_text-cons n ns)) in
    record {
      more = built.more;
      many = built.many;
      written = drop_more new (at - 1) 0 (omega arith) ∙ ap (λ b. b ∷ drop (at - 1 + 1) new) blank ∙ ap (λ k. 32 ∷ drop k new) next ∙ ap (λ l. 32 ∷ l) number;
      blank = sym (take-take (at - 1) at new (omega arith)) ∙ ap (take (at - 1)) blanks ∙ take-replicate (at - 1) at 32 (omega arith);
    }

-- a line that is built, up to `end`
pub Built-line : (text : List ℕ) (start end : ℕ) (ns : List ℕ) → Built text start ns → 0 < length ns
    → 0 < start → start ≤ end → length text ≡ end + 32
    → take (end - start) (drop start text) ≡ line_text ns
Built-line text start end [] built some at within size = absurd (omega arith)
Built-line text start end (n ∷ ns) built some at within size =
    let line = line_text (n ∷ ns) in
    let next : start - 1 + 1 ≡ start = omega arith in
    let whole : get_or text (start - 1) 0 ∷ drop (start - 1 + 1) text ≡ 32 ∷ line ++ built.more = sym (drop_more text (start - 1) 0 (omega arith)) ∙ built.written in
    let rest : drop start text ≡ line ++ built.more = ap (λ k. drop k text) (sym next) ∙ ap (drop 1) whole in
    let long : end - start ≡ length line =
    omega (arith, built.many, ap length rest, length-drop start text, length-append line built.more) in
    rw (long, rest) (take-append_seam line built.more)

-- blanks with a line feed for the last of those up to `end`
pub feed_after : (text : List ℕ) (end : ℕ) → 0 < end → end ≤ length text
    → drop end text ≡ replicate 32 32
    → drop (end - 1) (set text (end - 1) 10) ≡ 10 ∷ replicate 32 32
feed_after text end some within after =
    let next : end - 1 + 1 ≡ end = omega arith in
    drop-set_at text (end - 1) (end - 1) 10 refl (omega arith) ∙ ap (λ k. 10 ∷ drop k text) next ∙ ap (λ l. 10 ∷ l) after

pub feed_before : (text : List ℕ) (end : ℕ) → take end text ≡ replicate end 32
    → take (end - 1) (set text (end - 1) 10) ≡ replicate (end - 1) 32
feed_before text end blank =
    take-set-le (end - 1) text (end - 1) 10 (omega arith) ∙ sym (take-take (end - 1) end text (omega arith)) ∙ ap (take (end - 1)) blank ∙ take-replicate (end - 1) end 32 (omega arith)
