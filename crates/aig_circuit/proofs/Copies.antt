-- Copies of lists and names.
use Rattle.aig_base.proofs.Words.{◌≡◌, ℕ, List, [], ◌∷◌, map, String, Global, refl, ap, ◌∙◌, string_bytes, AllZip, from_entries}
use Rattle.aig_circuit.specs.View.{names_of}

-- entries that a function can't tell apart, one for one, are mapped alike
pub map_from_all_zip : {A B : Type 0} (f : A → B) (R : A → A → Type 0) → ((x y : A) → R x y → f y ≡ f x) → (xs ys : List A) → AllZip R xs ys → map f ys ≡ map f xs
map_from_all_zip f R same [] [] h = refl
map_from_all_zip f R same [] (y ∷ ys) h = elim h [ ]
map_from_all_zip f R same (x ∷ xs) [] h = elim h [ ]
map_from_all_zip f R same (x ∷ xs) (y ∷ ys) h = ap (λ z. z ∷ map f ys) (same x y h.0) ∙ ap (λ zs. f x ∷ zs) (map_from_all_zip f R same xs ys h.1)

-- entries with the same numbers and the same bytes give the same names
pub names_from_all_zip : (es fs : List (ℕ × String Global)) → AllZip (λ (p q : ℕ × String Global). (q.0 ≡ p.0) × (string_bytes q.1 ≡ string_bytes p.1)) es fs → names_of fs ≡ names_of es
names_from_all_zip es fs h =
    let named : ℕ × String Global → ℕ × List ℕ = λ entry. (entry.0, string_bytes entry.1) in
    ap from_entries (map_from_all_zip named (λ (p q : ℕ × String Global). (q.0 ≡ p.0) × (string_bytes q.1 ≡ string_bytes p.1)) (λ p q is. cc) es fs h)
