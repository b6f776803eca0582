-- A source with a buffer before it at its end: nothing is held, nor left in the source.
use Rattle.aig_base.proofs.Words.{◌≡◌, List, ℕ, [], ◌∷◌, ◌++◌, Option, Some, None, refl, ap, ◌∙◌, Consumes, IsAtEnd, prepend_known}

both_empty : (ws ys : List ℕ) → ws ++ ys ≡ [] → (ws ≡ []) × (ys ≡ [])
both_empty [] ys e = (refl, e)
both_empty (w ∷ ws) ys e = absurd cc

-- nothing is left in the source
pub none_left : (held : List ℕ) (left : Option (List ℕ)) → IsAtEnd (prepend_known held left) → IsAtEnd left
none_left held None h = tt
none_left held (Some ys) h = (both_empty held ys h).1

-- what was taken came of the source
pub took_all : (before : Option (List ℕ)) (held : List ℕ) (left : Option (List ℕ)) (bytes : List ℕ) → Consumes before (prepend_known held left) bytes → IsAtEnd (prepend_known held left) → Consumes before left bytes
took_all None held left bytes c h = tt
took_all (Some xs) held None bytes c h = absurd c
took_all (Some xs) held (Some ys) bytes c h = let both = both_empty held ys h in c ∙ ap (λ (zs : List ℕ). bytes ++ (zs ++ ys)) both.0
