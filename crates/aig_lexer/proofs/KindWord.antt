-- The kind's word.
use Rattle.aig_base.proofs.Words.{◌≡◌, ◌≢◌, ℕ, ◌<◌, List, [], ◌∷◌, ◌++◌, length, take, Option, Some, None, refl, sym, ap, ◌∙◌, length-append, arith, take-append_seam}
use Rattle.aig_format.specs.declared.FileKind.{FileKind}
use Rattle.aig_format.specs.declared.FileKind.TheVariants.{Text, Binary}
use Rattle.aig_format.proofs.Words.{magic}
use Rattle.aig_format.specs.Parse.{parse_byte, parse_kind}
use Rattle.aig_format.proofs.Sections.{Reads-kind}
use Rattle.aig_lexer.specs.Takes.{Feed, Advances, Takes, Misses}
use Rattle.aig_lexer.proofs.Going.{known_after, known_rest}

word_length : (kind : FileKind) → length (magic kind) ≡ 4
word_length Text = refl
word_length Binary = refl

-- bytes that begin with neither word have no kind
no_kind : (bytes : List ℕ) → ((kind : FileKind) (rest : List ℕ) → bytes ≡ magic kind ++ rest → ⊥)
    → parse_kind bytes ≡ None
no_kind bytes neither = go (parse_kind bytes) refl
  where
    go : (o : Option (FileKind × List ℕ)) → parse_kind bytes ≡ o → o ≡ None
    go None is = refl
    go (Some x) is =
        let s = Reads-kind.sound bytes x is in
        absurd (neither x.0 x.1 (s.1 ∙ ap (λ (front : List ℕ). front ++ x.1) s.2))

-- lists of one length, with which two lists begin that are the same
same_front : (xs ys more rest : List ℕ) → length xs ≡ length ys → xs ++ more ≡ ys ++ rest
    → xs ≡ ys
same_front xs ys more rest long is =
    sym (take-append_seam xs more) ∙ ap (take (length xs)) is ∙ ap (λ (n : ℕ). take n (ys ++ rest)) long
    ∙ take-append_seam ys rest

module _ (before now : Feed) (word : List ℕ) (came : Advances before now word) where
  pub takes_word : (kind : FileKind) → word ≡ magic kind → Takes parse_kind before now kind
  takes_word kind is = record {
    taken = word;
    reads = λ rest. Reads-kind.complete kind word rest is;
    advances = came;
  }

  -- four other bytes
  pub misses_word : length word ≡ 4 → word ≢ magic Text → word ≢ magic Binary
      → Misses parse_kind before
  misses_word long text binary =
      known_after before.coming now.coming word (λ bytes. parse_kind bytes ≡ None) came.consumed
      (λ rest. no_kind (word ++ rest) (λ kind more is. other kind (same_front word (magic kind) rest more (long ∙ sym (word_length kind)) is)))
    where
      other : (kind : FileKind) → word ≢ magic kind
      other Text = text
      other Binary = binary

  -- fewer bytes, and then the end
  pub misses_short : length word < 4 → Misses parse_byte now → Misses parse_kind before
  misses_short short none =
      known_rest before.coming now.coming word (λ bytes. parse_kind bytes ≡ None) (λ bytes. parse_byte bytes ≡ None) came.consumed none
      (λ rest e. no_kind (word ++ rest) (λ kind more is. too_short rest kind more e is))
    where
      too_short : (rest : List ℕ) (kind : FileKind) (more : List ℕ) → parse_byte rest ≡ None
          → word ++ rest ≡ magic kind ++ more → ⊥
      too_short [] kind more e is = omega (arith, ap length is, length-append word [], length-append (magic kind) more, word_length kind)
      too_short (b ∷ bs) kind more e is = cc
