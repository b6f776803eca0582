-- The words of the format: numbers that a byte ends, and lines of two of them.
use Rattle.aig_base.proofs.Words.{◌≡◌, ℕ, cond, eqb, List, [], ◌∷◌, Option, Some, None, Result, Ok, Err, refl, eq-eqb, ne_eqb}
use Rattle.aig_format.specs.Parse.{◌>>=◌, parse_byte, parse_number, parse_ended, parse_pair}
use Rattle.aig_lexer.specs.declared.error.LexError.{LexError}
use Rattle.aig_lexer.specs.Faults.{word_cause}
use Rattle.aig_lexer.specs.Takes.{Feed, Gives, Takes, Misses}
use Rattle.aig_lexer.proofs.Faults.{tells-weaker}
use Rattle.aig_lexer.proofs.Going.{GoesOn, misses_all, goes_start, goes_taken, goes_call, goes_done, goes_wrong}
use Rattle.aig_lexer.proofs.Taking.{byte_came, takes_same, misses_same, takes_bind, misses_first, misses_next, takes_nothing, takes_both}

-- readers that agree give the same
pub gives_same : {X Y : Type 0} (view : X → Y) (p q : List ℕ → Option (Y × List ℕ)) (before after : Feed) (r : Result X LexError)
    → Gives word_cause view before after r p → ((bs : List ℕ) → p bs ≡ q bs) → Gives word_cause view before after r q
gives_same view p q before after (Ok x) h e = takes_same p q before after (view x) h e
gives_same view p q before after (Err f) h e = tells-weaker (word_cause f) _ _ after.failed (λ m. misses_same p q before m e) h

-- a call after a byte that came
pub gives_following : {X Y : Type 0} (view : X → Y) (p : List ℕ → Option (Y × List ℕ))
    (before mid after : Feed) (b : ℕ) (r : Result X LexError) → Takes parse_byte before mid b
    → Gives word_cause view mid after r (λ bs. p (b ∷ bs))
    → Gives word_cause view before after r p
gives_following {X} view p before mid after b r c h = go r h
  where
    following : GoesOn p before (λ bs. p (b ∷ bs)) mid
    following = goes_taken p p (λ bs. p (b ∷ bs)) before before mid (b ∷ []) (goes_start p before) (byte_came before mid b c) (λ bs. refl)

    go : (r : Result X LexError) → Gives word_cause view mid after r (λ bs. p (b ∷ bs)) → Gives word_cause view before after r p
    go (Ok x) h = goes_done p (view x) before after (goes_call p (λ bs. p (b ∷ bs)) (λ bs. p (b ∷ bs)) (λ bs. Some (view x, bs)) before mid after (view x) following h (λ bs rest e. e))
    go (Err e) h = tells-weaker (word_cause e) _ _ after.failed (goes_wrong p (λ bs. p (b ∷ bs)) before mid following) h

abbrev pub with_end : ℕ → (ℕ × ℕ) × List ℕ → Option (ℕ × List ℕ)
with_end end n = cond (eqb n.0.1 end) (Some (n.0.0, n.1)) None

-- a number that is read in this way, and that this byte ends
module _ (read : List ℕ → Option ((ℕ × ℕ) × List ℕ)) (end : ℕ) where
  pub takes_before : (b a : Feed) (n found : ℕ) → Takes read b a (n, found) → found ≡ end → Takes (λ bs. read bs >>= with_end end) b a n
  takes_before b a n found h is = takes_bind read (with_end end) b a a (n, found) n h (rw (eq-eqb found end is) (takes_nothing a n))

  pub misses_before : (b a : Feed) (n found : ℕ) → Takes read b a (n, found) → (found ≡ end → ⊥) → Misses (λ bs. read bs >>= with_end end) b
  misses_before b a n found h ne = misses_next read (with_end end) b a (n, found) h (misses_all (λ bs. with_end end ((n, found), bs)) a (λ bs. rw (ne_eqb found end ne) refl))

pub takes_ended : (end : ℕ) (b a : Feed) (n found : ℕ) → Takes parse_number b a (n, found) → found ≡ end → Takes (parse_ended end) b a n
unfolding parse_ended
takes_ended end b a n found h is = takes_before parse_number end b a n found h is

pub misses_number : (end : ℕ) (b : Feed) → Misses parse_number b → Misses (parse_ended end) b
unfolding parse_ended
misses_number end b h = misses_first parse_number (with_end end) b h

pub misses_end : (end : ℕ) (b a : Feed) (n found : ℕ) → Takes parse_number b a (n, found) → (found ≡ end → ⊥) → Misses (parse_ended end) b
unfolding parse_ended
misses_end end b a n found h ne = misses_before parse_number end b a n found h ne

pub takes_pair : (b m a : Feed) (x y : ℕ) → Takes (parse_ended 32) b m x → Takes (parse_ended 10) m a y → Takes parse_pair b a (x, y)
takes_pair b m a x y h k = takes_both (parse_ended 32) (λ _. parse_ended 10) b m a x y h k
