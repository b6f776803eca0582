-- A name's bytes, one by one.
use Rattle.aig_base.proofs.Words.{◌≡◌, ◌≢◌, ℕ, List, [], ◌∷◌, ◌++◌, Option, Some, None, refl, ap, append_assoc, append-nil, sym, ne_eqb}
use Rattle.aig_format.specs.Parse.{◌>>=◌, parse_text}

-- a text after some bytes
abbrev following : List ℕ → List ℕ × List ℕ → Option (List ℕ × List ℕ)
following front x = Some (front ++ x.0, x.1)

-- a text whose first bytes came before
abbrev pub text_from : List ℕ → List ℕ → Option (List ℕ × List ℕ)
text_from front bs = parse_text bs >>= following front

pub text_goes : (front : List ℕ) (b : ℕ) → b ≢ 10 → (bs : List ℕ) → text_from front (b ∷ bs) ≡ text_from (front ++ b ∷ []) bs
unfolding parse_text
text_goes front b ne bs = rw (ne_eqb b 10 ne) (go (parse_text bs))
  where
    go : (o : Option (List ℕ × List ℕ)) → (o >>= following (b ∷ []) >>= following front) ≡ (o >>= following (front ++ b ∷ []))
    go None = refl
    go (Some x) = ap (λ (xs : List ℕ). Some (xs, x.1)) (sym (append_assoc front (b ∷ []) x.0))

pub text_ends : (front : List ℕ) (b : ℕ) → b ≡ 10 → (bs : List ℕ) → text_from front (b ∷ bs) ≡ Some (front, bs)
unfolding parse_text
text_ends front b is bs = rw is (ap (λ (xs : List ℕ). Some (xs, bs)) (append-nil front))

pub text_stops : (front : List ℕ) → text_from front [] ≡ None
unfolding parse_text
text_stops front = refl
