-- The first bytes of a proof, which tell whether it is binary.
use Rattle.aig_base.proofs.Words.{◌≡◌, ◌⊎◌, inl, inr, ℕ, ◌<◌, ◌≤◌, Bool, true, false, not, ◌&&◌, ◌||◌, drop, List, [], ◌∷◌, ◌++◌, length, take, Option, Some, refl, sym, ap, ◌∙◌, append-nil, arith, take-append-le, list_any, ◌==◌, nat_lt, Consumes, IsAtEnd, prepend_known}
use borrow.Author.Tests.{ltb-true, ltb-false}
use Rattle.std.proofs.lemmas.List.{drop-append-le}
use Rattle.aig_refutation.specs.Binary.{groups_in}
use Rattle.aig_refutation.specs.Forms.{Letter, are_steps, has_word, is_binary, is_numbered, telling}
use Rattle.aig_refutation.specs.Text.{begins}
use Rattle.aig_refutation.proofs.Known.{at_end, consumed}

below_or_not : (n m : ℕ) → (n < m) ⊎ (m ≤ n)
below_or_not n m = by (nat_lt n m) refl
  where
    by : (b : Bool) → nat_lt n m ≡ b → (n < m) ⊎ (m ≤ n)
    by true e = inl (ltb-true n m e)
    by false e = inr (ltb-false n m e)

begins_alike : (letter : ℕ) (held rest : List ℕ) → 0 < length held
    → begins letter (held ++ rest) ≡ begins letter held
begins_alike letter [] rest some = absurd (omega (arith, some))
begins_alike letter (b ∷ bs) rest some = refl

abbrev has_zero : List ℕ → Bool
has_zero bytes = list_any (λ b. b == 0) (take telling bytes)

binary_alike : (held rest : List ℕ) → telling ≤ length held
    → is_binary (held ++ rest) ≡ is_binary held
binary_alike held rest enough =
    let some : 0 < length held = omega (arith, enough) in
    let front : take 1024 (held ++ rest) ≡ take 1024 held = take-append-le 1024 held rest enough in
    let all = held ++ rest in
    ap (λ (b : Bool). b || (begins 100 all && has_zero all)) (begins_alike 97 held rest some)
    ∙ ap (λ (b : Bool). begins 97 held || (b && has_zero all)) (begins_alike 100 held rest some)
    ∙ ap (λ (l : List ℕ). begins 97 held || (begins 100 held && list_any (λ c. c == 0) l)) front

numbered_alike : (held rest : List ℕ) → telling ≤ length held
    → is_numbered (held ++ rest) ≡ is_numbered held
numbered_alike held rest enough =
    ap (λ (l : List ℕ). not (are_steps false Letter (groups_in l))
    && are_steps true Letter (groups_in l)) (take-append-le 1024 held rest enough)

-- four bytes tell the word
word_front : (bytes : List ℕ) → has_word bytes ≡ has_word (take 4 bytes)
word_front [] = refl
word_front (a ∷ []) = refl
word_front (a ∷ b ∷ []) = refl
word_front (a ∷ b ∷ c ∷ []) = refl
word_front (a ∷ b ∷ c ∷ d ∷ bytes) = refl

word_alike : (held rest : List ℕ) → telling ≤ length held
    → has_word (held ++ rest) ≡ has_word held
word_alike held rest enough =
    word_front (held ++ rest)
    ∙ ap has_word (take-append-le 4 held rest (omega (arith, enough))) ∙ sym (word_front held)

module _ (left after : Option (List ℕ)) (held : List ℕ) (moved : Consumes left after held) where
  -- nothing was taken
  pub front_coming : (bytes : List ℕ) → left ≡ Some bytes → prepend_known held after ≡ Some bytes
  front_coming bytes known =
      let c = consumed left after held bytes moved known in
      ap (prepend_known held) c.1 ∙ ap (λ (l : List ℕ). Some l) (sym c.2)

  -- the word was taken
  pub word_coming : 4 ≤ length held → (bytes : List ℕ) → left ≡ Some bytes
      → prepend_known (drop 4 held) after ≡ Some (drop 4 bytes)
  word_coming long bytes known =
      let c = consumed left after held bytes moved known in
      ap (prepend_known (drop 4 held)) c.1
      ∙ ap (λ (l : List ℕ). Some l) (sym (ap (drop 4) c.2 ∙ drop-append-le 4 held c.0 long))

  module _ (enough : length held < telling → IsAtEnd after) where
    -- the first bytes tell
    told : (test : List ℕ → Bool) → ((held rest : List ℕ) → telling ≤ length held
        → test (held ++ rest) ≡ test held) → (bytes : List ℕ) → left ≡ Some bytes
        → test bytes ≡ test held
    told test alike bytes known =
        let c = consumed left after held bytes moved known in
        elim (below_or_not (length held) telling) as (λ _. test bytes ≡ test held) [
          | inl few ↦
              let none = at_end after c.0 (enough few) c.1 in
              ap test (c.2 ∙ ap (λ (l : List ℕ). held ++ l) none ∙ append-nil held)
          | inr many ↦ ap test c.2 ∙ alike held c.0 many
        ]

    pub front_binary : (bytes : List ℕ) → left ≡ Some bytes → is_binary bytes ≡ is_binary held
    front_binary = told is_binary binary_alike

    pub front_numbered : (bytes : List ℕ) → left ≡ Some bytes
        → is_numbered bytes ≡ is_numbered held
    front_numbered = told is_numbered numbered_alike

    pub front_word : (bytes : List ℕ) → left ≡ Some bytes → has_word bytes ≡ has_word held
    front_word = told has_word word_alike
