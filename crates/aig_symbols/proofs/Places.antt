-- The place of a name, and what is known where it was read.
use Rattle.aig_base.proofs.Words.{◌≡◌, ℕ, ◌<◌, Bool, true, false, not, ◌&&◌, cond, eqb, ltb, List, [], ◌∷◌, Option, Some, None, Ok, refl, ap, subst, ◌∙◌, or_parts, ltb-true, cond_some, same_Some}
use Rattle.aig_base.proofs.Mapping.{turned}
use Rattle.aig_format.proofs.Words.{HeaderNumbers, count_of, is_letter}
use Rattle.aig_format.specs.Parse.{is_comment, is_digit, parse_ended, parse_if, parse_number}
use Rattle.aig_format.proofs.NumberReaders.{bind_some}
use Rattle.aig_lexer.specs.Takes.{Feed, Ends, Takes}
use Rattle.aig_symbols.specs.NameSteps.{PlaceComes, parse_place}

-- a position that is read, with the letter before it
abbrev pub lettered : ℕ → ℕ × List ℕ → Option ((ℕ × ℕ) × List ℕ)
lettered l x = Some ((l, x.0), x.1)

and_false : (x : Bool) → (x && false) ≡ false
and_false true = refl
and_false false = refl

module _ (ns : HeaderNumbers) where
  -- a position within the section of this letter
  abbrev pub within : ℕ → ℕ × List ℕ → Option (ℕ × List ℕ)
  within l p = cond (ltb p.0 (count_of ns l)) (Some p) None

  -- no section has another letter
  pub none_within : (l : ℕ) → is_letter l ≡ false → count_of ns l ≡ 0
  none_within l is =
      let i = or_parts (eqb 105 l) _ is in
      let o = or_parts (eqb 108 l) _ i.1 in
      let b = or_parts (eqb 111 l) _ o.1 in
      let c = or_parts (eqb 98 l) _ b.1 in
      let j = or_parts (eqb 99 l) _ c.1 in
      let f = or_parts (eqb 106 l) _ j.1 in
      let last = or_parts (eqb 102 l) _ f.1 in
      rw (turned l 105, turned l 108, turned l 111, turned l 98, turned l 99, turned l 106, turned l 102, i.0, o.0, b.0, c.0, j.0, f.0, last.0) refl

  -- a place is no comment
  pub place_no_comment : (bytes rest : List ℕ) (place : ℕ × ℕ)
      → parse_place ns bytes ≡ Some (place, rest) → is_comment bytes ≡ false
  unfolding parse_ended parse_number
  place_no_comment [] rest place e = absurd cc
  place_no_comment (l ∷ []) rest place e = absurd cc
  place_no_comment (l ∷ b ∷ bs) rest place e = go (is_digit b) refl
    where
      go : (t : Bool) → is_digit b ≡ t → is_comment (l ∷ b ∷ bs) ≡ false
      go true is = ap (λ t. eqb l 99 && not t) is ∙ and_false (eqb l 99)
      go false is = let none = rw is at e in absurd cc

  place_within : (bytes rest : List ℕ) (place : ℕ × ℕ) → parse_place ns bytes ≡ Some (place, rest)
      → place.1 < count_of ns place.0
  place_within [] rest place e = absurd cc
  place_within (l ∷ bytes) rest place e =
      let d = bind_some (parse_if (parse_ended 32) (λ n. ltb n (count_of ns l)) bytes) (lettered l) (place, rest) e in
      let k = bind_some (parse_ended 32 bytes) (within l) d.0 d.1 in
      let t = cond_some (ltb k.0.0 (count_of ns l)) k.0 d.0 k.2 in
      let small : d.0.0 < count_of ns l = subst (λ n. n < count_of ns l) (ap (λ (x : ℕ × List ℕ). x.0) t.1) (ltb-true _ _ t.0) in
      subst (λ (q : ℕ × ℕ). q.1 < count_of ns q.0) (ap (λ (x : (ℕ × ℕ) × List ℕ). x.0) (same_Some _ _ d.2)) small

  -- a place that was read is within its section
  pub takes_within : (b a : Feed) (place : ℕ × ℕ) → Takes (parse_place ns) b a place
      → place.1 < count_of ns place.0
  takes_within b a place h = place_within _ [] place (h.reads [])

  -- what came, by the answer of a call
  pub came_place : (before after : Feed) (o : Option (ℕ × ℕ)) (place : ℕ × ℕ)
      → PlaceComes ns before after (Ok o) → o ≡ Some place
      → Takes (parse_place ns) before after place
  came_place before after o place h is = subst (λ (o : Option (ℕ × ℕ)). PlaceComes ns before after (Ok o)) is h

  pub came_end : (before after : Feed) (o : Option (ℕ × ℕ)) → PlaceComes ns before after (Ok o)
      → o ≡ None → (taken : List ℕ) × (is_comment taken ≡ true) × Ends before after taken
  came_end before after o h is = subst (λ (o : Option (ℕ × ℕ)). PlaceComes ns before after (Ok o)) is h
