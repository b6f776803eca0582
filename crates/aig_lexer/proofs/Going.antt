-- How reading goes on: reading what was taken and whatever follows, by one reader, is reading what follows by another.
use Rattle.std.proofs.Common.{◌≡◌, ℕ, List, [], ◌∷◌, ◌++◌, Option, Some, None, IfSome, refl, sym, ap, subst, ◌∙◌, append_assoc}
use Rattle.aig_base.proofs.Words.{Consumes}
use Rattle.std.proofs.KnownBytes.{Consumes-nil, Consumes-whole}
use Rattle.aig_lexer.specs.Takes.{Feed, Advances, Steps, Takes, Misses}
use Rattle.aig_lexer.proofs.Feeds.{advances_none, advances_on, ends_on, steps_byte, steps_end}

-- reading the bytes that were taken, and whatever follows, by p is reading what follows by q
pub record GoesOn {Y : Type 0} (p : List ℕ → Option (Y × List ℕ)) (before : Feed) (q : List ℕ → Option (Y × List ℕ)) (now : Feed) : Type 0 where
  pub taken : List ℕ
  pub goes : (rest : List ℕ) → p (taken ++ rest) ≡ q rest
  pub advances : Advances before now taken

-- bytes that are known, of which some were taken
pub known_after : (before now : Option (List ℕ)) (taken : List ℕ) (P : List ℕ → Type 0) → Consumes before now taken → ((rest : List ℕ) → P (taken ++ rest)) → IfSome before P
known_after None now taken P c h = tt
known_after (Some xs) None taken P c h = absurd c
known_after (Some xs) (Some ys) taken P c h = subst P (sym c) (h ys)

-- the same, where a fact is known of what is left
pub known_rest : (before now : Option (List ℕ)) (taken : List ℕ) (P Q : List ℕ → Type 0) → Consumes before now taken → IfSome now Q → ((rest : List ℕ) → Q rest → P (taken ++ rest)) → IfSome before P
known_rest None now taken P Q c known h = tt
known_rest (Some xs) None taken P Q c known h = absurd c
known_rest (Some xs) (Some ys) taken P Q c known h = subst P (sym c) (h ys known)

module _ {Y : Type 0} (p : List ℕ → Option (Y × List ℕ)) where
  -- from no bytes at all
  pub misses_all : (b : Feed) → ((bs : List ℕ) → p bs ≡ None) → Misses p b
  misses_all b none = known_after b.coming b.coming [] (λ bs. p bs ≡ None) (Consumes-nil b.coming) none

  pub goes_start : (before : Feed) → GoesOn p before p before
  goes_start before = record { taken = []; goes = λ rest. refl; advances = advances_none before }

  -- some bytes came
  pub goes_taken : (q r : List ℕ → Option (Y × List ℕ)) (before now after : Feed) (bytes : List ℕ)
      → GoesOn p before q now → Advances now after bytes → ((rest : List ℕ) → q (bytes ++ rest) ≡ r rest) → GoesOn p before r after
  goes_taken q r before now after bytes h c e = record {
    taken = h.taken ++ bytes;
    goes = λ rest.
        ap p (append_assoc h.taken bytes rest) ∙ h.goes (bytes ++ rest) ∙ e rest;
    advances = advances_on before now after h.taken bytes h.advances c;
  }

  -- one byte came
  pub goes_byte : (q r : List ℕ → Option (Y × List ℕ)) (before now after : Feed) (o : Option ℕ) (b : ℕ)
      → GoesOn p before q now → Steps now after o → o ≡ Some b → ((bs : List ℕ) → q (b ∷ bs) ≡ r bs) → GoesOn p before r after
  goes_byte q r before now after o b h c is e = goes_taken q r before now after (b ∷ []) h (steps_byte now after o c b is) e

  -- no byte came
  pub goes_end : (q : List ℕ → Option (Y × List ℕ)) (before now after : Feed) (o : Option ℕ)
      → GoesOn p before q now → Steps now after o → o ≡ None → q [] ≡ None → Misses p before
  goes_end q before now after o h c is f =
      let all = ends_on before now after h.taken [] h.advances (steps_end now after o c is) in
      Consumes-whole before.coming after.coming (h.taken ++ []) (λ bytes. p bytes ≡ None) all.consumed all.at_end (h.goes [] ∙ f)

  -- nothing is left to do but to give the value
  pub goes_done : (y : Y) (before now : Feed) → GoesOn p before (λ bs. Some (y, bs)) now → Takes p before now y
  goes_done y before now h = record { taken = h.taken; reads = h.goes; advances = h.advances }

  -- whatever is left, nothing is read
  pub goes_nowhere : (before now : Feed) → GoesOn p before (λ bs. None) now → Misses p before
  goes_nowhere before now h = known_after before.coming now.coming h.taken (λ bytes. p bytes ≡ None) h.advances.consumed h.goes

  -- a call read a part
  pub goes_call : {X : Type 0} (part : List ℕ → Option (X × List ℕ)) (r next : List ℕ → Option (Y × List ℕ)) (before now after : Feed) (x : X)
      → GoesOn p before r now → Takes part now after x → ((bs rest : List ℕ) → part bs ≡ Some (x, rest) → r bs ≡ next rest) → GoesOn p before next after
  goes_call {X} part r next before now after x h k e =
      goes_taken r next before now after k.taken h k.advances (λ rest. e (k.taken ++ rest) rest (k.reads rest))

  -- what is left can't be read
  pub goes_wrong : (q : List ℕ → Option (Y × List ℕ)) (before now : Feed) → GoesOn p before q now → Misses q now → Misses p before
  goes_wrong q before now h k =
      known_rest before.coming now.coming h.taken (λ bs. p bs ≡ None) (λ bs. q bs ≡ None) h.advances.consumed k (λ rest e. h.goes rest ∙ e)

  -- the same in other words
  pub goes_same : (q r : List ℕ → Option (Y × List ℕ)) (before now : Feed) → GoesOn p before q now → ((bs : List ℕ) → q bs ≡ r bs) → GoesOn p before r now
  goes_same q r before now h e = record { taken = h.taken; goes = λ rest. h.goes rest ∙ e rest; advances = h.advances }
