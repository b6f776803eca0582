-- Numbers that lie among the bytes that are held.
use Rattle.aig_base.proofs.Words.{◌≡◌, ◌≢◌, ℕ, ◌-◌, Bool, true, false, List, [], ◌∷◌, ◌++◌, take, drop, Option, Some, None, Result, Ok, Err, refl, sym, ap, subst, ◌∙◌, append_assoc, take-append-drop, arith, false≢true}
use Rattle.aig_format.specs.Parse.{is_digit}
use Rattle.aig_lexer.specs.Digits.{TakesDigits, number_after}
use Rattle.aig_lexer.specs.SignedNumbers.{IsSigned, signed_by}
use Rattle.aig_lexer.specs.Takes.{Advances, Feed, feed}
use Rattle.aig_lexer.proofs.Feeds.{advances_held, advances_popped}
use Rattle.aig_refutation.specs.declared.error.RefutationError.{RefutationError}
use Rattle.aig_refutation.specs.declared.words.End.{End}
use Rattle.aig_refutation.specs.declared.words.Word as code
use Rattle.aig_refutation.specs.declared.words.Word.TheVariants as words
use Rattle.aig_refutation.specs.Text.{is_blank, lines_of, number_in, signed, word_in}
use Rattle.aig_refutation.specs.Tokens.{GivesValue, GivesWord, end_after, front, next_in}
use Rattle.aig_refutation.proofs.Known.{leaves_same, step_leaves}
use Rattle.aig_refutation.proofs.Lines.{at, next_some}
use Rattle.aig_refutation.proofs.ReadWords.{minus_word, number_ends, number_stops, plain_word}
use Rattle.aig_refutation.proofs.Texts.{digit_no_blank}

module _ {S : Type 0} (left : S → Option (List ℕ)) (failed : S → Bool) (pulls : S → ℕ) (s : S)
    (positive : Bool) (n e : ℕ) (now : Option End) (r : Result code.Word RefutationError) where
  abbrev to_come : List ℕ → Feed
  to_come held = feed left failed pulls held s

  popped : (b : ℕ) (bs : List ℕ) → Advances (to_come (b ∷ bs)) (to_come bs) (b ∷ [])
  popped b bs = advances_popped left failed pulls (b ∷ bs) bs b s refl

  -- a word is next
  begins : (b : ℕ) (bs rest : List ℕ) → b ≢ 10 → is_blank b ≡ false
      → GivesWord (λ bytes. word_in (b ∷ bytes)) (to_come bs) (to_come rest) now r
      → GivesValue (λ w. w) next_in (at (to_come (b ∷ bs)) None) (at (to_come rest) now) r
  begins b bs rest no_line no_blank given =
      next_some (to_come (b ∷ bs)) (to_come bs) b no_line no_blank
      (leaves_same (to_come (b ∷ bs)) (to_come bs)
      (λ bytes more. (bytes ≡ front (Some b) more) × (Some b ≡ None → more ≡ []))
      (step_leaves (to_come (b ∷ bs)) (to_come bs) (Some b) (popped b bs))
      (λ bytes more. lines_of bytes ≡ lines_of (b ∷ more))
      (λ bytes more is. ap (λ (l : List ℕ). lines_of l) is.0))
      (to_come rest) now r given

  -- the rest of a number after its first digit, which was taken
  abbrev GivesRest : Type 0
  GivesRest = (first : ℕ) (before after : Feed) → is_digit first ≡ true
      → TakesDigits (first - 48) before after n (Some e)
      → GivesWord (λ bytes. signed positive (number_in (first ∷ bytes))) before after now r

  module _ (first : ℕ) (digits rest : List ℕ) (digit : is_digit first ≡ true)
      (is : number_after (first - 48) digits ≡ Some n) (other : is_digit e ≡ false) where
    apart : (k : ℕ) → is_digit k ≡ false → first ≢ k
    apart k none same = false≢true (sym none ∙ ap (λ (b : ℕ). is_digit b) (sym same) ∙ digit)

    came : TakesDigits (first - 48) (to_come (digits ++ e ∷ rest)) (to_come rest) n (Some e)
    came = record {
      digits = digits;
      is = is;
      other = other;
      came =
          subst (λ (l : List ℕ). Advances (to_come l) (to_come rest) (digits ++ e ∷ []))
          (append_assoc digits (e ∷ []) rest)
          (advances_held left failed pulls (digits ++ e ∷ []) rest s);
    }

    signed_next : (sign : Bool)
        → GivesWord (λ bytes. signed sign (number_in (first ∷ bytes)))
        (to_come (digits ++ e ∷ rest)) (to_come rest) now r
        → GivesValue (λ w. w) next_in (at (to_come (signed_by sign (first ∷ digits ++ e ∷ rest)))
        None)
        (at (to_come rest) now) r
    signed_next true given =
        begins first (digits ++ e ∷ rest) rest (apart 10 refl) (digit_no_blank first digit)
        (plain_word (to_come (digits ++ e ∷ rest)) (to_come rest) first now r (apart 100 refl)
        (apart 45 refl) given)
    signed_next false given =
        begins 45 (first ∷ digits ++ e ∷ rest) rest (λ k. omega (arith, k)) refl
        (minus_word (to_come (first ∷ digits ++ e ∷ rest)) (to_come (digits ++ e ∷ rest))
        (to_come rest) 45 first (Some first) now r refl (popped first (digits ++ e ∷ rest)) refl
        given)

  signed_append : (sign : Bool) (xs ys : List ℕ) → signed_by sign xs ++ ys ≡ signed_by sign (xs ++ ys)
  signed_append true xs ys = refl
  signed_append false xs ys = refl

  near : (held : List ℕ) (count : ℕ) → IsSigned (take count held) positive n e → GivesRest
      → GivesValue (λ w. w) next_in (at (to_come held) None) (at (to_come (drop count held)) now) r
  near held count h given =
      let rest = drop count held in
      let whole : signed_by positive (h.first ∷ h.digits ++ e ∷ rest) ≡ held =
      ap (signed_by positive)
      (ap (λ (l : List ℕ). h.first ∷ l) (sym (append_assoc h.digits (e ∷ []) rest)))
      ∙ sym (signed_append positive (h.first ∷ h.digits ++ e ∷ []) rest)
      ∙ ap (λ (l : List ℕ). l ++ rest) (sym h.whole) ∙ take-append-drop count held in
      subst
      (λ (l : List ℕ). GivesValue (λ w. w) next_in (at (to_come l) None) (at (to_come rest) now) r)
      whole
      (signed_next h.first h.digits rest h.digit h.is h.other positive
      (given h.first (to_come (h.digits ++ e ∷ rest)) (to_come rest) h.digit
      (came h.first h.digits rest h.digit h.is h.other)))

-- the word is given, or the byte after it is refused
module _ {S : Type 0} (left : S → Option (List ℕ)) (failed : S → Bool) (pulls : S → ℕ) (s : S)
    (positive : Bool) (n e : ℕ) (held : List ℕ) (count : ℕ)
    (h : IsSigned (take count held) positive n e) (now : Option End) where
  pub near_ends : end_after None (Some e) ≡ Ok now
      → GivesValue (λ w. w) next_in (at (feed left failed pulls held s) None)
      (at (feed left failed pulls (drop count held) s) now)
      (Ok (words.Number (record { value = n; positive = positive })))
  near_ends is =
      near left failed pulls s positive n e now
      (Ok (words.Number (record { value = n; positive = positive }))) held count h
      (λ first before after digit t.
      number_ends before after first n positive (Some e) None now refl digit t is)

  pub near_stops : (fault : RefutationError) → end_after None (Some e) ≡ Err fault
      → GivesValue (λ w. w) next_in (at (feed left failed pulls held s) None)
      (at (feed left failed pulls (drop count held) s) now) (Err fault)
  near_stops fault is =
      near left failed pulls s positive n e now (Err fault) held count h
      (λ first before after digit t.
      number_stops before after first n positive (Some e) None now fault digit t is)
