-- Parts of a line that are read one after another.
use Rattle.std.proofs.Common.{◌≡◌, ℕ, Bool, List, Result, Ok, Err, refl, sym, ap, ◌∙◌}
use Rattle.aig_refutation.specs.declared.error.RefutationError.{RefutationError}
use Rattle.aig_refutation.specs.Proofs.{is_none}
use Rattle.aig_refutation.specs.Tokens.{GivesValue, IsReadOn, Leaves, Left, Place, Says, left_of}
use Rattle.aig_refutation.proofs.Known.{leaves_on, leaves_same, leaves_start, says_now, says_on, tells, tells_on}

abbrev pub Reader : Type 0 → Type 0
Reader Y = Bool → List (List ℕ) → Result (Y × List (List ℕ)) RefutationError

-- a value was read, and the line goes on
abbrev pub Reads : {Y : Type 0} → Reader Y → Place → Place → Y → Type 0
Reads p before after y = Leaves before.feed after.feed (λ bytes rest. IsReadOn p (left_of before
    bytes) (left_of after rest) y)

-- one reader's words before are another one's after
abbrev pub IsOn : {Y : Type 0} → Reader Y → Reader Y → Left → Left → Type 0
IsOn q s before after = (after.lines ≡ before.lines) × (q (is_none before.lines) before.words ≡ s
    (is_none before.lines) after.words)

abbrev pub GoesOn : {Y : Type 0} → Reader Y → Reader Y → Place → Place → Type 0
GoesOn q s before after = Leaves before.feed after.feed (λ bytes rest. IsOn q s (left_of before
    bytes) (left_of after rest))

-- a reader's error on what is left
abbrev Wrongs : {Y : Type 0} → Reader Y → Place → RefutationError → List ℕ → Type 0
Wrongs q place e bytes = q (is_none (left_of place bytes).lines) (left_of place bytes).words ≡ Err e

module _ {Z : Type 0} (q : Reader Z) where
  pub on_start : (place : Place) → GoesOn q q place place
  on_start place = leaves_start place.feed (λ bytes rest. IsOn q q (left_of place bytes) (left_of
      place rest)) (λ bytes. (refl, refl))

  module _ (s : Reader Z) (before mid after : Place) where
    pub on_on : (t : Reader Z) → GoesOn q s before mid → GoesOn s t mid after → GoesOn q t before
        after
    on_on t first then =
        leaves_on before.feed mid.feed (λ bytes rest. IsOn q s (left_of before bytes) (left_of mid
        rest)) first after.feed
        (λ bytes rest. IsOn s t (left_of mid bytes) (left_of after rest))
        (λ bytes rest. IsOn q t (left_of before bytes) (left_of after rest)) then
        (λ bytes now rest h k.
        let same = λ (r : Reader Z) (ws : List (List ℕ)). ap (λ (lines : List (List (List ℕ))). r
        (is_none lines) ws) h.0 in (
          k.0 ∙ h.0,
          h.1 ∙ sym (same s (left_of mid now).words) ∙ k.1 ∙ same t (left_of after
              rest).words,
        ))

    pub on_read : {Y : Type 0} (p : Reader Y) (y : Y) → Reads p before mid y
        → ((last : Bool) (words more : List (List ℕ)) → p last words ≡ Ok (y, more) → q last words
        ≡ s last more) → GoesOn q s before mid
    on_read p y first same =
        leaves_same before.feed mid.feed (λ bytes rest. IsReadOn p (left_of before bytes) (left_of
        mid rest) y) first
        (λ bytes rest. IsOn q s (left_of before bytes) (left_of mid rest))
        (λ bytes rest h. (
          h.0,
          same (is_none (left_of before bytes).lines) (left_of before
              bytes).words (left_of mid rest).words h.1,
        ))

    module _ {X : Type 0} (view : X → Z) where
      -- what is read then is the rest of what is read
      pub gives_after : (r : Result X RefutationError) → GoesOn q s before mid
          → GivesValue view s mid
          after r → GivesValue view q before after r
      gives_after (Ok x) first then =
          leaves_on before.feed mid.feed (λ bytes rest. IsOn q s (left_of before bytes) (left_of
          mid rest)) first after.feed
          (λ bytes rest. IsReadOn s (left_of mid bytes) (left_of after rest) (view x))
          (λ bytes rest. IsReadOn q (left_of before bytes) (left_of after rest) (view x)) then
          (λ bytes now rest h k. (
            k.0 ∙ h.0,
            h.1 ∙ sym (ap (λ (lines : List (List (List ℕ))). s (is_none lines) (left_of
                mid now).words) h.0) ∙ k.1,
          ))
      gives_after (Err e) first then =
          tells_on e (Says mid.feed (Wrongs s mid e)) (Says before.feed (Wrongs q before e))
          (λ call. says_on before.feed mid.feed (λ bytes rest. IsOn q s (left_of before bytes)
          (left_of mid rest)) first (Wrongs s mid e) (Wrongs q before e) call
          (λ bytes now h k.
          h.1 ∙ sym (ap (λ (lines : List (List (List ℕ))). s (is_none lines) (left_of mid
          now).words) h.0) ∙ k))
          then

      -- no more is read
      pub gives_ok : (x : X) → GoesOn q s before mid → ((last : Bool) (words : List (List ℕ)) → s
          last words ≡ Ok (view x, words)) → GivesValue view q before mid (Ok x)
      gives_ok x first same =
          leaves_same before.feed mid.feed (λ bytes rest. IsOn q s (left_of before bytes) (left_of
          mid rest)) first
          (λ bytes rest. IsReadOn q (left_of before bytes) (left_of mid rest) (view x))
          (λ bytes rest h. (
            h.0,
            h.1 ∙ same (is_none (left_of before bytes).lines) (left_of mid
                rest).words,
          ))

      -- what was read is refused
      pub gives_wrong : (e : RefutationError) → GoesOn q s before mid → ((last : Bool) (words :
          List (List ℕ)) → s last words ≡ Err e) → GivesValue view q before after (Err e)
      gives_wrong e first same =
          tells e (Says before.feed (Wrongs q before e))
          (says_now before.feed mid.feed (λ bytes rest. IsOn q s (left_of before bytes) (left_of
          mid rest)) first (Wrongs q before e)
          (λ bytes rest h. h.1 ∙ same (is_none (left_of before bytes).lines) (left_of mid
          rest).words))

-- what was read is refused, where this is told
pub says_wrong : {Z : Type 0} (q s : Reader Z) (before mid : Place) (e : RefutationError) → GoesOn
    q s before mid → ((last : Bool) (words : List (List ℕ)) → s last words ≡ Err e)
    → Says before.feed (λ bytes. q (is_none (left_of before bytes).lines) (left_of before
    bytes).words ≡ Err e)
says_wrong q s before mid e first same =
    says_now before.feed mid.feed (λ bytes rest. IsOn q s (left_of before bytes) (left_of mid
    rest)) first (Wrongs q before e)
    (λ bytes rest h. h.1 ∙ same (is_none (left_of before bytes).lines) (left_of mid rest).words)

-- a part is refused
pub part_wrong : {W X Y Z : Type 0} (p : Reader Y) (q : Reader Z) (before mid after : Place) (first
    : W → Y) (view : X → Z) (e : RefutationError) → GivesValue first p before mid (Err e)
    → ((last : Bool) (words : List (List ℕ)) → p last words ≡ Err e → q last words ≡ Err e)
    → GivesValue
    view q before after (Err e)
part_wrong p q before mid after first view e wrong same =
    tells_on e (Says before.feed (Wrongs p before e)) (Says before.feed (Wrongs q before e))
    (λ h bytes known. same (is_none (left_of before bytes).lines) (left_of before bytes).words (h
    bytes known)) wrong

-- the same part in other words
pub gives_same : {X Y Z : Type 0} (p : Reader Y) (q : Reader Z) (before after : Place) (first : X →
    Y) (view : X → Z) (r : Result X RefutationError) → GivesValue first p before after r
    → ((last : Bool) (words more : List (List ℕ)) (x : X) → p last words ≡ Ok (first x, more) → q
    last words ≡ Ok (view x, more))
    → ((last : Bool) (words : List (List ℕ)) (e : RefutationError) → p last words ≡ Err e → q last
    words ≡ Err e) → GivesValue view q before after r
gives_same p q before after first view (Ok x) given ok err =
    leaves_same before.feed after.feed (λ bytes rest. IsReadOn p (left_of before bytes) (left_of
    after rest) (first x)) given
    (λ bytes rest. IsReadOn q (left_of before bytes) (left_of after rest) (view x))
    (λ bytes rest h. (
      h.0,
      ok (is_none (left_of before bytes).lines) (left_of before bytes).words
          (left_of after rest).words x h.1,
    ))
gives_same p q before after first view (Err e) given ok err = part_wrong p q before after after
    first view e given (λ last words. err last words e)
