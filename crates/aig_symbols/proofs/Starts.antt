-- How what is left starts: as a comment, as the place of a name, or as neither.
use Rattle.std.proofs.Common.{◌≡◌, ◌≢◌, ℕ, ◌<◌, ◌≤◌, Bool, true, false, ltb, List, [], ◌∷◌, ◌++◌, Option, Some, None, IfSome, refl}
use Rattle.aig_base.proofs.Words.{Consumes-whole, ne_eqb, lt-ltb, le-ltb}
use Rattle.aig_format.proofs.Words.{HeaderNumbers, count_of}
use Rattle.aig_format.specs.Parse.{is_comment, parse_ended, parse_if, parse_number}
use Rattle.aig_lexer.specs.Takes.{Feed, Advances, Steps, Takes, Misses}
use Rattle.aig_lexer.specs.WordReaders.{parse_number_from}
use Rattle.aig_lexer.proofs.Feeds.{ends_on, steps_end}
use Rattle.aig_lexer.proofs.Going.{GoesOn, goes_call, goes_done, known_rest}
use Rattle.aig_lexer.proofs.Taking.{misses_first, takes_mapped, misses_mapped, takes_tested, misses_test, misses_tested}
use Rattle.aig_lexer.proofs.Words.{with_end, takes_before, misses_before}
use Rattle.aig_symbols.specs.NameSteps.{IsNoTail, parse_place}

lone_letter : (ns : HeaderNumbers) (l : ℕ) → parse_place ns (l ∷ []) ≡ None
unfolding parse_ended parse_number
lone_letter ns l = refl

-- a byte that is no `c`, and then the end
pub no_tail : (ns : HeaderNumbers) (before now after : Feed) (o : Option ℕ) (l : ℕ)
    → Advances before now (l ∷ []) → Steps now after o → o ≡ None → l ≢ 99
    → IfSome before.coming (IsNoTail ns)
no_tail ns before now after o l c d is ne =
    let all = ends_on before now after (l ∷ []) [] c (steps_end now after o d is) in
    Consumes-whole before.coming after.coming ((l ∷ []) ++ []) (IsNoTail ns) all.consumed all.at_end
    (record { no_comment = ne_eqb l 99 ne; no_place = lone_letter ns l })

-- two bytes that begin a comment, whatever follows
pub comment_comes : (l b : ℕ) (bs : List ℕ) → is_comment (l ∷ b ∷ []) ≡ true
    → is_comment (l ∷ b ∷ bs) ≡ true
comment_comes l b bs is = is

-- a letter and a byte came, which begin no comment
module _ (ns : HeaderNumbers) (before now : Feed) (l b : ℕ) (c : Advances before now (l ∷ b ∷ [])) where
  -- the position from its second byte on
  abbrev position : List ℕ → Option (ℕ × List ℕ)
  position bs = parse_ended 32 (b ∷ bs)

  abbrev fits : ℕ → Bool
  fits n = ltb n (count_of ns l)

  abbrev place : List ℕ → Option ((ℕ × ℕ) × List ℕ)
  place bs = parse_place ns (l ∷ b ∷ bs)

  begun : GoesOn (parse_place ns) before place now
  begun = record { taken = l ∷ b ∷ []; goes = λ rest. refl; advances = c }

  pub place_comes : (after : Feed) (n found : ℕ) → Takes (parse_number_from b) now after (n, found)
      → found ≡ 32 → n < count_of ns l → Takes (parse_place ns) before after (l, n)
  unfolding parse_ended
  place_comes after n found h is lt =
      goes_done (parse_place ns) (l, n) before after
      (goes_call (parse_place ns) place place (λ bs. Some ((l, n), bs)) before now after (l, n) begun
      (takes_mapped (λ (n : ℕ). (l, n)) (parse_if position fits) now after n (takes_tested position fits now after n (takes_before (parse_number_from b) 32 now after n found h is) (lt-ltb _ _ lt))) (λ bs rest e. e))

  module _ (other : is_comment (l ∷ b ∷ []) ≡ false) where
    no_place_comes : Misses place now → IfSome before.coming (IsNoTail ns)
    no_place_comes h = known_rest before.coming now.coming (l ∷ b ∷ []) (IsNoTail ns) (λ bs. place bs ≡ None) c.consumed h (λ rest e. record { no_comment = other; no_place = e })

    no_position : Misses (parse_if position fits) now → IfSome before.coming (IsNoTail ns)
    no_position h = no_place_comes (misses_mapped (λ (n : ℕ). (l, n)) (parse_if position fits) now h)

    pub no_number : Misses (parse_number_from b) now → IfSome before.coming (IsNoTail ns)
    unfolding parse_ended
    no_number h = no_position (misses_tested position fits now (misses_first (parse_number_from b) (with_end 32) now h))

    pub no_space : (after : Feed) (n found : ℕ) → Takes (parse_number_from b) now after (n, found)
        → (found ≡ 32 → ⊥) → IfSome before.coming (IsNoTail ns)
    unfolding parse_ended
    no_space after n found h ne = no_position (misses_tested position fits now (misses_before (parse_number_from b) 32 now after n found h ne))

    pub too_great : (after : Feed) (n found : ℕ) → Takes (parse_number_from b) now after (n, found)
        → found ≡ 32 → count_of ns l ≤ n → IfSome before.coming (IsNoTail ns)
    unfolding parse_ended
    too_great after n found h is le = no_position (misses_test position fits now after n (takes_before (parse_number_from b) 32 now after n found h is) (le-ltb _ _ le))
