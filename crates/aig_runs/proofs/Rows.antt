-- Lists in rows, and tests of their entries.
use Rattle.aig_base.proofs.Words.{◌≡◌, ◌↔◌, ℕ, zero, suc, ◌+◌, ◌-◌, ◌*◌, ◌<◌, ◌≤◌, Bool, false, ◌||◌, Some, List, [], ◌∷◌, length, drop, IsTrue, refl, sym, ap, subst, ◌∙◌, arith, inl, inr, slice_get, AllByRecursion, AllZip, list_all, list_any, add-mul, suc-mul, and_from, and_parts, cases_lt, or_parts, same_Some}

-- ---- by place

-- what holds of whatever is at a place holds of each entry
pub rec_from_get : {X : Type 0} (P : X → Type 0) (xs : List X) → ((i : ℕ) (x : X) → slice_get xs i ≡ Some x → P x) → AllByRecursion P xs
rec_from_get P [] h = tt
rec_from_get P (x ∷ xs) h = (h zero x refl, rec_from_get P xs (λ i y is. h (suc i) y is))

pub rec_at : {X : Type 0} (P : X → Type 0) (xs : List X) (i : ℕ) (x : X) → AllByRecursion P xs → slice_get xs i ≡ Some x → P x
rec_at P [] i x all h = cc
rec_at P (y ∷ ys) zero x all h = subst P (same_Some y x h) all.0
rec_at P (y ∷ ys) (suc i) x all h = rec_at P ys i x all.1 h

-- there is an entry at each place below the length
pub get_there : {X : Type 0} (xs : List X) (i : ℕ) → i < length xs → (x : X) × (slice_get xs i ≡ Some x)
get_there [] i h = absurd (omega arith)
get_there (x ∷ xs) zero h = (x, refl)
get_there (x ∷ xs) (suc i) h = get_there xs i (omega arith)

-- the entries after the first n
pub get-drop : {X : Type 0} (n : ℕ) (xs : List X) (i : ℕ) → slice_get (drop n xs) i ≡ slice_get xs (n + i)
get-drop zero xs i = ap (slice_get xs) (omega arith)
get-drop (suc n) [] i = refl
get-drop (suc n) (x ∷ xs) i =
    let e : suc (n + i) ≡ suc n + i = omega arith in
    get-drop n xs i ∙ ap (slice_get (x ∷ xs)) e

-- two lists of one length, related at each place
pub zip_from_get : {A B : Type 0} (R : A → B → Type 0) (xs : List A) (ys : List B) → length ys ≡ length xs → ((i : ℕ) (x : A) → slice_get xs i ≡ Some x → (y : B) × (slice_get ys i ≡ Some y) × R x y) → AllZip R xs ys
zip_from_get R [] [] long h = tt
zip_from_get R [] (y ∷ ys) long h = absurd (omega (arith, long))
zip_from_get R (x ∷ xs) [] long h = absurd (omega (arith, long))
zip_from_get R (x ∷ xs) (y ∷ ys) long h =
    let r = h zero x refl in
    (subst (R x) (sym (same_Some y r.0 r.1)) r.2, zip_from_get R xs ys (omega (arith, long)) (λ i z is. h (suc i) z is))

-- ---- rows

-- one row more
pub next_row : (k p : ℕ) → (k + 1) * p ≡ k * p + p
next_row k p = omega (arith, add-mul k 1 p)

-- each place of k + 1 rows of p entries is in a row
pub row_of : (k p i : ℕ) → i < (k + 1) * p → (t : ℕ) × (j : ℕ) × (t ≤ k) × (j < p) × (t * p + j ≡ i)
row_of zero p i h = let low : i < p = omega (arith, h) in (0, i, omega arith, low, omega arith)
row_of (suc k) p i h = elim (cases_lt i p) [
  | inl low ↦ (0, i, omega arith, low, omega arith)
  | inr high ↦ (
      let r = row_of k p (i - p) (omega (arith, h, high, next_row (suc k) p, next_row k p, suc-mul k p)) in
      let within = r.2 in
      let row : suc r.0 * p ≡ r.0 * p + p = suc-mul r.0 p in
      let is = r.4 in
      (suc r.0, r.1, omega (arith, within), r.3, omega (arith, row, is, high)))
]

-- ---- tests

-- all entries pass a test
pub all_is : {X : Type 0} (p : X → Bool) (xs : List X) → IsTrue (list_all p xs) ↔ AllByRecursion (λ x. IsTrue (p x)) xs
all_is p [] = (λ h. tt, λ h. refl)
all_is p (x ∷ xs) =
    let r = all_is p xs in
    (λ h. let both = and_parts (p x) (list_all p xs) h in (both.0, r.0 both.1), λ h. and_from (p x) (list_all p xs) h.0 (r.1 h.1))

-- some entry passes where tests agree, entry for entry
pub any_zip : {A B : Type 0} (p : A → Bool) (q : B → Bool) (xs : List A) (ys : List B) → AllZip (λ x y. q y ≡ p x) xs ys → list_any q ys ≡ list_any p xs
any_zip p q [] [] h = refl
any_zip p q [] (y ∷ ys) h = absurd h
any_zip p q (x ∷ xs) [] h = absurd h
any_zip p q (x ∷ xs) (y ∷ ys) h = ap (λ b. b || list_any q ys) h.0 ∙ ap (λ b. p x || b) (any_zip p q xs ys h.1)

-- no entry passes
pub any_none : {X : Type 0} (p : X → Bool) (xs : List X) → (list_any p xs ≡ false) ↔ AllByRecursion (λ x. p x ≡ false) xs
any_none p [] = (λ h. tt, λ h. refl)
any_none p (x ∷ xs) =
    let r = any_none p xs in
    (λ h. let both = or_parts (p x) (list_any p xs) h in (both.0, r.0 both.1), λ h. ap (λ b. b || list_any p xs) h.0 ∙ r.1 h.1)
