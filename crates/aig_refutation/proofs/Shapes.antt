-- The shape of binary steps, byte by byte.
use Rattle.aig_base.proofs.Words.{◌≡◌, ℕ, ◌+◌, ◌<◌, ◌≤◌, Bool, true, false, cond, List, [], ◌∷◌, Option, Some, None, refl, sym, ap, ◌∙◌, drop, nat_lt, nat_le, length, slice_index_or, drop_all, drop_more, arith, take, zero, suc, ◌&&◌, ◌==◌, ◌||◌, subst, ne_eqb, eq-eqb, false≢true, list_any}
use Rattle.aig_refutation.specs.Binary.{groups_in, with_byte}
use Rattle.aig_refutation.specs.Text.{begins}
use Rattle.aig_refutation.specs.Forms.{Last, Letter, Literals, Number, Part, are_steps, goes_on, has_word, is_binary, part_after}

-- the words that are left at a byte, in a word or between two
abbrev pub left_words : Bool → List ℕ → List (List ℕ)
left_words inside bytes = cond inside (drop 1 (groups_in bytes)) (groups_in bytes)

-- what comes after a word is told by its first byte
by_first : (numbered : Bool) (part : Part) (b : ℕ) (more : List ℕ)
    → part_after numbered part (b ∷ more) ≡ part_after numbered part (b ∷ [])
by_first numbered Letter b more = refl
by_first numbered Number b more = refl
by_first numbered Literals b more = refl
by_first numbered Last b more = refl

-- the words behind the first one
words_behind : (b : ℕ) (bytes : List ℕ) → (more : List ℕ) × (groups_in (b ∷ bytes)
    ≡ (b ∷ more) ∷ left_words (nat_le 128 b) bytes)
unfolding groups_in
words_behind b bytes = by (nat_lt b 128) (nat_le 128 b) other
  where
    other : nat_le 128 b ≡ cond (nat_lt b 128) false true
    other = by_lt (nat_lt b 128) refl
      where
        by_lt : (c : Bool) → nat_lt b 128 ≡ c → nat_le 128 b ≡ cond c false true
        by_lt true e = grind (arith, e)
        by_lt false e = grind (arith, e)

    behind : (words : List (List ℕ)) → (more : List ℕ)
        × (with_byte b words ≡ (b ∷ more) ∷ drop 1 words)
    behind [] = ([], refl)
    behind (word ∷ words) = (word, refl)

    by : (c d : Bool) → d ≡ cond c false true → (more : List ℕ)
        × (cond c ((b ∷ []) ∷ groups_in bytes) (with_byte b (groups_in bytes))
        ≡ (b ∷ more) ∷ cond d (drop 1 (groups_in bytes)) (groups_in bytes))
    by true true e = absurd cc
    by true false e = ([], refl)
    by false true e = behind (groups_in bytes)
    by false false e = absurd cc

module _ (numbered : Bool) (part : Part) where
  -- no byte is left
  pub shape_ends : (inside : Bool) → are_steps numbered part (left_words inside []) ≡ true
  unfolding groups_in are_steps
  shape_ends true = refl
  shape_ends false = refl

  -- a byte in a word
  pub shape_inside : (b : ℕ) (bytes : List ℕ)
      → are_steps numbered part (left_words true (b ∷ bytes))
      ≡ are_steps numbered part (left_words (nat_le 128 b) bytes)
  shape_inside b bytes =
      ap (λ words. are_steps numbered part (drop 1 words)) (words_behind b bytes).1

  -- the first byte of a word
  pub shape_begins : (b : ℕ) (bytes : List ℕ)
      → are_steps numbered part (left_words false (b ∷ bytes))
      ≡ goes_on (part_after numbered part (b ∷ []))
      (λ next. are_steps numbered next (left_words (nat_le 128 b) bytes))
  unfolding are_steps
  shape_begins b bytes =
      let w = words_behind b bytes in
      ap (are_steps numbered part) w.1
      ∙ ap (λ o. goes_on o (λ next. are_steps numbered next (left_words (nat_le 128 b) bytes)))
      (by_first numbered part b w.0)

-- ---- a loop over bytes

module _ (numbered : Bool) (bytes : List ℕ) (i : ℕ) (part : Part) (inside : Bool)
    (goes : are_steps numbered part (left_words inside (drop i bytes))
    ≡ are_steps numbered Letter (groups_in bytes)) where
  pub shape_all : length bytes ≤ i → true ≡ are_steps numbered Letter (groups_in bytes)
  shape_all end =
      sym (shape_ends numbered part inside)
      ∙ ap (λ l. are_steps numbered part (left_words inside l)) (sym (drop_all i bytes end)) ∙ goes

  module _ (more : i < length bytes) where
    abbrev byte : ℕ
    byte = slice_index_or bytes i 0

    pub shape_stays : inside ≡ true
        → are_steps numbered part (left_words (nat_le 128 byte) (drop (i + 1) bytes))
        ≡ are_steps numbered Letter (groups_in bytes)
    shape_stays is =
        sym (shape_inside numbered part byte (drop (i + 1) bytes))
        ∙ ap (λ l. are_steps numbered part (left_words true l)) (sym (drop_more bytes i 0 more))
        ∙ ap (λ b. are_steps numbered part (left_words b (drop i bytes))) (sym is) ∙ goes

    begun : inside ≡ false → goes_on (part_after numbered part (byte ∷ []))
        (λ next. are_steps numbered next (left_words (nat_le 128 byte) (drop (i + 1) bytes)))
        ≡ are_steps numbered Letter (groups_in bytes)
    begun is =
        sym (shape_begins numbered part byte (drop (i + 1) bytes))
        ∙ ap (λ l. are_steps numbered part (left_words false l)) (sym (drop_more bytes i 0 more))
        ∙ ap (λ b. are_steps numbered part (left_words b (drop i bytes))) (sym is) ∙ goes

    pub shape_refused : inside ≡ false → part_after numbered part (byte ∷ []) ≡ None
        → false ≡ are_steps numbered Letter (groups_in bytes)
    shape_refused is none =
        ap (λ o. goes_on o (λ next. are_steps numbered next (left_words (nat_le 128 byte)
        (drop (i + 1) bytes)))) (sym none) ∙ begun is

    pub shape_more : inside ≡ false → (next : Part)
        → part_after numbered part (byte ∷ []) ≡ Some next
        → are_steps numbered next (left_words (nat_le 128 byte) (drop (i + 1) bytes))
        ≡ are_steps numbered Letter (groups_in bytes)
    shape_more is next some =
        ap (λ o. goes_on o (λ next. are_steps numbered next (left_words (nat_le 128 byte)
        (drop (i + 1) bytes)))) (sym some) ∙ begun is

-- ---- the first bytes of steps

module _ (numbered : Bool) where
  -- the first bytes of steps are those of steps
  pub shape_cut : (n : ℕ) (bytes : List ℕ) (part : Part) (inside : Bool)
      → are_steps numbered part (left_words inside bytes) ≡ true
      → are_steps numbered part (left_words inside (take n bytes)) ≡ true
  shape_cut zero bytes part inside is = shape_ends numbered part inside
  shape_cut (suc n) [] part inside is = shape_ends numbered part inside
  shape_cut (suc n) (b ∷ bytes) part true is =
      shape_inside numbered part b (take n bytes)
      ∙ shape_cut n bytes part (nat_le 128 b) (sym (shape_inside numbered part b bytes) ∙ is)
  shape_cut (suc n) (b ∷ bytes) part false is =
      shape_begins numbered part b (take n bytes)
      ∙ by (part_after numbered part (b ∷ [])) (λ next. shape_cut n bytes next (nat_le 128 b))
      (sym (shape_begins numbered part b bytes) ∙ is)
    where
      by : (o : Option Part) → ((next : Part)
          → are_steps numbered next (left_words (nat_le 128 b) bytes) ≡ true
          → are_steps numbered next (left_words (nat_le 128 b) (take n bytes)) ≡ true)
          → goes_on o (λ next. are_steps numbered next (left_words (nat_le 128 b) bytes)) ≡ true
          → goes_on o (λ next. are_steps numbered next (left_words (nat_le 128 b) (take n bytes)))
          ≡ true
      by None later e = absurd cc
      by (Some next) later e = later next e

-- ---- the word

-- bytes that begin otherwise don't begin with the word
pub unworded : (bytes : List ℕ) → begins 108 bytes ≡ false → has_word bytes ≡ false
unworded [] none = refl
unworded (b ∷ bytes) none =
    let other : (108 == b) ≡ false =
    ne_eqb 108 b (λ is. false≢true (sym none ∙ eq-eqb b 108 (sym is))) in
    rw other refl

-- nor do binary ones
pub binary_unworded : (bytes : List ℕ) → is_binary bytes ≡ true → has_word bytes ≡ false
binary_unworded [] is = refl
binary_unworded (b ∷ bytes) is =
    unworded (b ∷ bytes) (ne_eqb b 108 (λ same. by b same (list_any (λ c. c == 0)
    (take 1024 (b ∷ bytes))) is))
  where
    by : (b : ℕ) → b ≡ 108 → (zero_there : Bool)
        → ((b == 97) || (b == 100) && zero_there) ≡ true → ⊥
    by b same zero_there is = let wrong = subst (λ (n : ℕ). ((n == 97) || (n == 100) && zero_there)
        ≡ true) same is in false≢true wrong
