-- A name line in its parts: the place, then the name.
use Rattle.aig_base.proofs.Words.{◌≡◌, ℕ, Bool, true, false, not, ◌&&◌, ◌||◌, cond, ltb, List, [], ◌∷◌, Option, Some, None, refl, ap, ◌∙◌, arith, is_utf8, list_any, le-ltb}
use Rattle.aig_format.proofs.Words.{NameLine, HeaderNumbers, same_place, is_letter, count_of, is_kept, tests_name}
use Rattle.aig_format.specs.Parse.{◌>>=◌, parse_ended, parse_if, parse_text, parse_name, name_from}
use Rattle.aig_lexer.specs.Takes.{Feed, Takes, Misses}
use Rattle.aig_lexer.proofs.Going.{GoesOn, goes_start, goes_same, goes_call, goes_wrong, goes_nowhere, goes_done}
use Rattle.aig_lexer.proofs.Taking.{misses_first}
use Rattle.aig_symbols.specs.NameSteps.{parse_place}
use Rattle.aig_symbols.proofs.Places.{lettered, none_within, within}

-- a name of this place
abbrev pub name_line : ℕ × ℕ → List ℕ → NameLine
name_line place name = record { letter = place.0; position = place.1; name = name }

-- a name for this place is among these
abbrev pub is_taken : List NameLine → ℕ × ℕ → Bool
is_taken names place = list_any (λ m. same_place m (name_line place [])) names

-- a name that is UTF-8 if it is kept
abbrev pub name_text_at : Bool → List ℕ → Option (List ℕ × List ℕ)
name_text_at kept = parse_if parse_text (λ name. not kept || is_utf8 name)

-- the name of a place, with what follows it
abbrev pub with_place : ℕ × ℕ → List ℕ × List ℕ → Option (NameLine × List ℕ)
with_place place t = Some (name_line place t.0, t.1)

-- the name after its place, if no name before it has this place
abbrev pub following_place : List NameLine → (ℕ × ℕ) × List ℕ → Option (NameLine × List ℕ)
following_place names p = cond (is_taken names p.0) None (name_text_at (is_kept p.0.0) p.1 >>= with_place p.0)

-- ---- a name line without its tests

abbrev untested : ℕ → ℕ × List ℕ → Option (NameLine × List ℕ)
untested letter p = parse_text p.1 >>= with_place (letter, p.0)

abbrev paired : ℕ → List ℕ × List ℕ → Option ((ℕ × List ℕ) × List ℕ)
paired n t = Some ((n, t.0), t.1)

abbrev before_both : ℕ → (ℕ × List ℕ) × List ℕ → Option ((ℕ × (ℕ × List ℕ)) × List ℕ)
before_both l y = Some ((l, y.0), y.1)

abbrev named : (ℕ × (ℕ × List ℕ)) × List ℕ → Option (NameLine × List ℕ)
named x = Some (name_from x.0, x.1)

named_text : (l n : ℕ) (t : Option (List ℕ × List ℕ))
    → (t >>= paired n >>= before_both l >>= named) ≡ (t >>= with_place (l, n))
named_text l n None = refl
named_text l n (Some t) = refl

named_place : (l : ℕ) (o : Option (ℕ × List ℕ))
    → ((o >>= λ p. parse_text p.1 >>= paired p.0) >>= before_both l >>= named) ≡ (o >>= untested l)
named_place l None = refl
named_place l (Some p) = named_text l p.0 (parse_text p.1)

with_letter : (l : ℕ) (bs : List ℕ) → is_letter l ≡ true
    → parse_name (l ∷ bs) ≡ (parse_ended 32 bs >>= untested l)
with_letter l bs is = rw is (named_place l (parse_ended 32 bs))

-- ---- with them

module _ (ns : HeaderNumbers) (names : List NameLine) where
  -- a name line that passes its tests
  abbrev pub line_at : List ℕ → Option (NameLine × List ℕ)
  line_at = parse_if parse_name (tests_name ns names)

  abbrev tested : NameLine × List ℕ → Option (NameLine × List ℕ)
  tested x = cond (tests_name ns names x.0) (Some x) None

  three_tests : (within taken utf8 : Bool) (x : NameLine × List ℕ) (p : ℕ × List ℕ)
      → cond ((within && utf8) && not taken) (Some x) None
      ≡ (cond within (Some p) None >>= λ _. cond taken None (cond utf8 (Some x) None))
  three_tests false taken utf8 x p = refl
  three_tests true true true x p = refl
  three_tests true true false x p = refl
  three_tests true false true x p = refl
  three_tests true false false x p = refl

  no_text : (within taken : Bool) (p : ℕ × List ℕ) (o : Option (NameLine × List ℕ)) → o ≡ None
      → o ≡ (cond within (Some p) None >>= λ _. cond taken None o)
  no_text false taken p o e = e
  no_text true true p o e = e
  no_text true false p o e = refl

  moved : (utf8 : Bool) (place : ℕ × ℕ) (t : List ℕ × List ℕ)
      → cond utf8 (with_place place t) None ≡ (cond utf8 (Some t) None >>= with_place place)
  moved true place t = refl
  moved false place t = refl

  -- the tests on a name, one after another
  tests_part : (l : ℕ) (p : ℕ × List ℕ) (t : Option (List ℕ × List ℕ))
      → (t >>= with_place (l, p.0) >>= tested) ≡ (within ns l p >>= λ _. cond (is_taken names (l, p.0)) None (t >>= (λ y. cond (not (is_kept l) || is_utf8 y.0) (Some y) None) >>= with_place (l, p.0)))
  tests_part l p None = no_text (ltb p.0 (count_of ns l)) (is_taken names (l, p.0)) p None refl
  tests_part l p (Some t) =
      let utf8 = not (is_kept l) || is_utf8 t.0 in
      three_tests (ltb p.0 (count_of ns l)) (is_taken names (l, p.0)) utf8 (name_line (l, p.0) t.0, t.1) p
      ∙ ap (λ o. within ns l p >>= λ _. cond (is_taken names (l, p.0)) None o) (moved utf8 (l, p.0) t)

  lettered_within : (w : Bool) (l : ℕ) (p : ℕ × List ℕ)
      (f : (ℕ × ℕ) × List ℕ → Option (NameLine × List ℕ))
      → (cond w (Some p) None >>= λ _. f ((l, p.0), p.1))
      ≡ (cond w (Some p) None >>= lettered l >>= f)
  lettered_within true l p f = refl
  lettered_within false l p f = refl

  tests_place : (l : ℕ) (o : Option (ℕ × List ℕ))
      → (o >>= untested l >>= tested) ≡ (o >>= within ns l >>= lettered l >>= following_place names)
  tests_place l None = refl
  tests_place l (Some p) = tests_part l p (parse_text p.1) ∙ lettered_within (ltb p.0 (count_of ns l)) l p (following_place names)

  no_place : (l : ℕ) → count_of ns l ≡ 0 → (o : Option (ℕ × List ℕ))
      → None ≡ (o >>= within ns l >>= lettered l >>= following_place names)
  no_place l none None = refl
  no_place l none (Some p) = rw (none, le-ltb p.0 0 (omega arith)) refl

  -- a name line is read in its parts
  pub line_parts : (bs : List ℕ) → line_at bs ≡ (parse_place ns bs >>= following_place names)
  line_parts [] = refl
  line_parts (l ∷ bs) = go (is_letter l) refl
    where
      go : (t : Bool) → is_letter l ≡ t
          → line_at (l ∷ bs) ≡ (parse_place ns (l ∷ bs) >>= following_place names)
      go true is = ap (λ o. o >>= tested) (with_letter l bs is) ∙ tests_place l (parse_ended 32 bs)
      go false is = rw is (no_place l (none_within ns l is) (parse_ended 32 bs))

  -- what follows the place, where no name before has it
  new_place : (place : ℕ × ℕ) → is_taken names place ≡ false → (bs : List ℕ)
      → following_place names (place, bs) ≡ (name_text_at (is_kept place.0) bs >>= with_place place)
  new_place place is bs = ap (λ t. cond t None (name_text_at (is_kept place.0) bs >>= with_place place)) is

  -- ---- step by step, after the place

  module _ (now mid : Feed) (place : ℕ × ℕ) (k : Takes (parse_place ns) now mid place) where
    after_place : GoesOn line_at now (λ bs. following_place names (place, bs)) mid
    after_place =
        goes_call line_at (parse_place ns) (λ bs. parse_place ns bs >>= following_place names) (λ bs. following_place names (place, bs)) now now mid place
        (goes_same line_at line_at (λ bs. parse_place ns bs >>= following_place names) now now (goes_start line_at now) line_parts) k (λ bs rest e. ap (λ o. o >>= following_place names) e)

    pub line_of_taken : is_taken names place ≡ true → Misses line_at now
    line_of_taken is =
        goes_nowhere line_at now mid (goes_same line_at (λ bs. following_place names (place, bs)) (λ bs. None) now mid after_place (λ bs. ap (λ t. cond t None (name_text_at (is_kept place.0) bs >>= with_place place)) is))

    module _ (is : is_taken names place ≡ false) where
      before_name : GoesOn line_at now
          (λ bs. name_text_at (is_kept place.0) bs >>= with_place place) mid
      before_name = goes_same line_at (λ bs. following_place names (place, bs)) (λ bs. name_text_at (is_kept place.0) bs >>= with_place place) now mid after_place (new_place place is)

      pub line_without_name : Misses (name_text_at (is_kept place.0)) mid → Misses line_at now
      line_without_name m = goes_wrong line_at (λ bs. name_text_at (is_kept place.0) bs >>= with_place place) now mid before_name (misses_first (name_text_at (is_kept place.0)) (with_place place) mid m)

      pub line_with_name : (after : Feed) (name : List ℕ)
          → Takes (name_text_at (is_kept place.0)) mid after name
          → Takes line_at now after (name_line place name)
      line_with_name after name t =
          goes_done line_at (name_line place name) now after
          (goes_call line_at (name_text_at (is_kept place.0)) (λ bs. name_text_at (is_kept place.0) bs >>= with_place place) (λ bs. Some (name_line place name, bs)) now mid after name before_name t (λ bs rest e. ap (λ o. o >>= with_place place) e))
