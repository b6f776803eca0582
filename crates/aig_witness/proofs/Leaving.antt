-- Bytes that are known, and those that are left of them.
use Rattle.std.proofs.Common.{◌≡◌, ℕ, List, [], ◌∷◌, ◌++◌, Option, Some, None, IfSome, refl, sym, subst, ◌∙◌}
use Rattle.aig_base.proofs.Words.{Consumes, IsAtEnd, same_Some}
use Rattle.aig_lexer.specs.Takes.{Feed, Steps}
use Rattle.aig_lexer.proofs.Feeds.{steps_byte, steps_end}
use Rattle.aig_witness.specs.Lines.{Leaves, Says}

pub consumed_known : (old new : Option (List ℕ)) (taken xs : List ℕ) → Consumes old new taken
    → old ≡ Some xs → (ys : List ℕ) × (new ≡ Some ys) × (xs ≡ taken ++ ys)
consumed_known None new taken xs c is = absurd cc
consumed_known (Some zs) None taken xs c is = absurd c
consumed_known (Some zs) (Some ys) taken xs c is = (ys, refl, sym (same_Some zs xs is) ∙ c)

pub ended_known : (known : Option (List ℕ)) (xs : List ℕ) → IsAtEnd known → known ≡ Some xs → xs ≡ []
ended_known None xs end is = absurd cc
ended_known (Some zs) xs end is = sym (same_Some zs xs is) ∙ end

-- known bytes of which this is said
pub says_known : (known : Option (List ℕ)) (P : List ℕ → Type 0)
    → ((bytes : List ℕ) → known ≡ Some bytes → P bytes) → IfSome known P
says_known None P h = tt
says_known (Some bytes) P h = h bytes refl

pub leaves_start : (f : Feed) (R : List ℕ → List ℕ → Type 0) → ((bytes : List ℕ) → R bytes bytes)
    → Leaves f f R
leaves_start f R h bytes is = (bytes, is, h bytes)

module _ (before now after : Feed) (R : List ℕ → List ℕ → Type 0) (so_far : Leaves before now R)
  where
    -- one byte came
    pub leaves_byte : (S : List ℕ → List ℕ → Type 0) (o : Option ℕ) (b : ℕ) → Steps now after o
        → o ≡ Some b
        → ((bytes rest : List ℕ) → R bytes (b ∷ rest) → S bytes rest) → Leaves before after S
    leaves_byte S o b step is h bytes known =
        let r = so_far bytes known in
        let c = consumed_known now.coming after.coming (b ∷ []) r.0
        (steps_byte now after o step b is).consumed r.1 in
        (c.0, c.1, h bytes c.0 (subst (R bytes) c.2 r.2))

    pub says_byte : (P : List ℕ → Type 0) (o : Option ℕ) (b : ℕ) → Steps now after o → o ≡ Some b
        → ((bytes rest : List ℕ) → R bytes (b ∷ rest) → P bytes) → Says before P
    says_byte P o b step is h bytes known =
        (leaves_byte (λ bytes rest. P bytes) o b step is h bytes known).2

    -- no byte came
    pub leaves_end : (S : List ℕ → List ℕ → Type 0) (o : Option ℕ) → Steps now after o → o ≡ None
        → ((bytes : List ℕ) → R bytes [] → S bytes []) → Leaves before after S
    leaves_end S o step is h bytes known =
        let r = so_far bytes known in
        let ends = steps_end now after o step is in
        let c = consumed_known now.coming after.coming [] r.0 ends.consumed r.1 in
        let none = ended_known after.coming c.0 ends.at_end c.1 in (
          [],
          subst (λ (xs : List ℕ). after.coming ≡ Some xs) none c.1,
          h bytes
              (subst (R bytes) (c.2 ∙ none) r.2),
        )

    pub says_end : (P : List ℕ → Type 0) (o : Option ℕ) → Steps now after o → o ≡ None
        → ((bytes : List ℕ) → R bytes [] → P bytes) → Says before P
    says_end P o step is h bytes known =
        (leaves_end (λ bytes rest. P bytes) o step is h bytes known).2

    -- a call read on
    pub leaves_call : (S T : List ℕ → List ℕ → Type 0) → Leaves now after S
        → ((bytes mid rest : List ℕ) → R bytes mid → S mid rest → T bytes rest)
        → Leaves before after T
    leaves_call S T call h bytes known =
        let r = so_far bytes known in
        let s = call r.0 r.1 in
        (s.0, s.1, h bytes r.0 s.0 r.2 s.2)

    pub says_call : (P Q : List ℕ → Type 0) → Says now P → ((bytes mid : List ℕ) → R bytes mid → P mid
        → Q bytes) → Says before Q
    says_call P Q call h bytes known = let r = so_far bytes known in h bytes r.0 r.2 (call r.0 r.1)

module _ (before now : Feed) (R : List ℕ → List ℕ → Type 0) (so_far : Leaves before now R) where
  -- the same in other words
  pub leaves_same : (S : List ℕ → List ℕ → Type 0) → ((bytes rest : List ℕ) → R bytes rest
      → S bytes rest) → Leaves before now S
  leaves_same S h bytes known = let r = so_far bytes known in (r.0, r.1, h bytes r.0 r.2)

  pub says_now : (P : List ℕ → Type 0) → ((bytes rest : List ℕ) → R bytes rest → P bytes)
      → Says before P
  says_now P h bytes known = let r = so_far bytes known in h bytes r.0 r.2
