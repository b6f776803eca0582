-- Bytes that are known, and those that are left of them.
use Rattle.aig_base.proofs.Words.{◌≡◌, ℕ, List, [], ◌∷◌, ◌++◌, Option, Some, None, refl, sym, subst, ◌∙◌, Consumes, IsAtEnd, same_Some}
use Rattle.aig_lexer.specs.Takes.{Feed, Steps}
use Rattle.aig_refutation.specs.declared.error.RefutationError.{RefutationError}
use Rattle.aig_refutation.specs.declared.error.RefutationError.TheVariants as errors
use Rattle.aig_refutation.specs.Tokens.{Leaves, Says, TellsOfText, front}

pub consumed : (old new : Option (List ℕ)) (taken xs : List ℕ) → Consumes old new taken
    → old ≡ Some xs → (ys : List ℕ) × (new ≡ Some ys) × (xs ≡ taken ++ ys)
consumed None new taken xs c is = absurd cc
consumed (Some zs) None taken xs c is = absurd c
consumed (Some zs) (Some ys) taken xs c is = (ys, refl, sym (same_Some zs xs is) ∙ c)

pub at_end : (known : Option (List ℕ)) (xs : List ℕ) → IsAtEnd known → known ≡ Some xs → xs ≡ []
at_end None xs end is = absurd cc
at_end (Some zs) xs end is = sym (same_Some zs xs is) ∙ end

-- one byte came, or none
pub step_leaves : (before after : Feed) (o : Option ℕ) → Steps before after o → Leaves before after
    (λ bytes rest. (bytes ≡ front o rest) × (o ≡ None → rest ≡ []))
step_leaves before after (Some b) h bytes known =
    let c = consumed before.coming after.coming (b ∷ []) bytes h.consumed known in (
      c.0,
      c.1,
      (
        c.2,
        λ none. absurd cc,
      ),
    )
step_leaves before after None h bytes known =
    let c = consumed before.coming after.coming [] bytes h.consumed known in
    let none = at_end after.coming c.0 h.at_end c.1 in
    ([], subst (λ (xs : List ℕ). after.coming ≡ Some xs) none c.1, (c.2 ∙ none, λ _. refl))

pub leaves_start : (f : Feed) (R : List ℕ → List ℕ → Type 0) → ((bytes : List ℕ) → R bytes bytes) →
    Leaves f f R
leaves_start f R h bytes known = (bytes, known, h bytes)

module _ (before now : Feed) (R : List ℕ → List ℕ → Type 0) (so_far : Leaves before now R) where
  -- a call reads on
  pub leaves_on : (after : Feed) (S T : List ℕ → List ℕ → Type 0) → Leaves now after S → ((bytes
      mid rest : List ℕ) → R bytes mid → S mid rest → T bytes rest) → Leaves before after T
  leaves_on after S T call h bytes known =
      let r = so_far bytes known in
      let s = call r.0 r.1 in
      (s.0, s.1, h bytes r.0 s.0 r.2 s.2)

  pub says_on : (P Q : List ℕ → Type 0) → Says now P → ((bytes mid : List ℕ) → R bytes mid → P mid
      → Q bytes) → Says before Q
  says_on P Q call h bytes known = let r = so_far bytes known in h bytes r.0 r.2 (call r.0 r.1)

  -- the same in other words
  pub leaves_same : (S : List ℕ → List ℕ → Type 0) → ((bytes rest : List ℕ) → R bytes rest → S
      bytes rest) → Leaves before now S
  leaves_same S h bytes known = let r = so_far bytes known in (r.0, r.1, h bytes r.0 r.2)

  pub says_now : (P : List ℕ → Type 0) → ((bytes rest : List ℕ) → R bytes rest → P bytes) → Says
      before P
  says_now P h bytes known = let r = so_far bytes known in h bytes r.0 r.2

-- what an error tells, in other words
pub tells_on : (e : RefutationError) (P Q : Type 0) → (P → Q) → TellsOfText e P → TellsOfText e Q
tells_on errors.Memory P Q f t = tt
tells_on errors.Stream P Q f t = tt
tells_on errors.Variable P Q f t = f t
tells_on errors.Line P Q f t = f t
tells_on errors.Literal P Q f t = f t
tells_on errors.Unnamed P Q f t = f t
tells_on errors.Twice P Q f t = f t
tells_on errors.Large P Q f t = f t
tells_on errors.Step P Q f t = f t
tells_on errors.Asymmetry P Q f t = f t
tells_on errors.Binary P Q f t = f t
tells_on errors.Unfinished P Q f t = f t

-- what is so is told
pub tells : (e : RefutationError) (P : Type 0) → P → TellsOfText e P
tells e P p = by e
  where
    by : (e : RefutationError) → TellsOfText e P
    by errors.Memory = tt
    by errors.Stream = tt
    by errors.Variable = p
    by errors.Line = p
    by errors.Literal = p
    by errors.Unnamed = p
    by errors.Twice = p
    by errors.Large = p
    by errors.Step = p
    by errors.Asymmetry = p
    by errors.Binary = p
    by errors.Unfinished = p

-- two facts
pub tells_both : (e : RefutationError) (P Q : Type 0) → TellsOfText e P → TellsOfText e Q
    → TellsOfText e (P × Q)
tells_both errors.Memory P Q p q = tt
tells_both errors.Stream P Q p q = tt
tells_both errors.Variable P Q p q = (p, q)
tells_both errors.Line P Q p q = (p, q)
tells_both errors.Literal P Q p q = (p, q)
tells_both errors.Unnamed P Q p q = (p, q)
tells_both errors.Twice P Q p q = (p, q)
tells_both errors.Large P Q p q = (p, q)
tells_both errors.Step P Q p q = (p, q)
tells_both errors.Asymmetry P Q p q = (p, q)
tells_both errors.Binary P Q p q = (p, q)
tells_both errors.Unfinished P Q p q = (p, q)
