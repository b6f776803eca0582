-- One list after another.
use Rattle.aig_base.proofs.Words.{◌≡◌, ℕ, zero, suc, ◌+◌, ◌<◌, ◌≤◌, Bool, ◌&&◌, List, [], ◌∷◌, ◌++◌, length, map, take, get_or, refl, sym, ap, ◌∙◌, arith, append_assoc, Vec, Global, map-append, map_more, take_all, All, slice_get, AllZip, list_all}

-- what stands in the first list stands there still
pub get-append_left : {X : Type 0} (xs ys : List X) (n : ℕ) → n < length xs
    → slice_get (xs ++ ys) n ≡ slice_get xs n
get-append_left [] ys n h = absurd (omega arith)
get-append_left (x ∷ xs) ys zero h = refl
get-append_left (x ∷ xs) ys (suc n) h = get-append_left xs ys n (omega arith)

-- what stands in the second list stands as many places on as the first list is long
pub get-append_right : {X : Type 0} (xs ys : List X) (n k : ℕ) → n ≡ length xs + k
    → slice_get (xs ++ ys) n ≡ slice_get ys k
get-append_right [] ys n k e = let same : n ≡ k = omega arith in ap (slice_get ys) same
get-append_right (x ∷ xs) ys zero k e = absurd (omega arith)
get-append_right (x ∷ xs) ys (suc n) k e = get-append_right xs ys n k (omega arith)

-- each entry beside itself
pub AllZip-itself : {X : Type 0} (R : X → X → Type 0) (xs : List X) → All (λ x. R x x) xs
    → AllZip R xs xs
AllZip-itself R [] all = tt
AllZip-itself R (x ∷ xs) all = (all 0 x (omega arith), AllZip-itself R xs (λ k d h. all (suc k) d (omega arith)))

-- tests that agree on every entry answer the same for all
pub list_all-agrees : {X : Type 0} (p q : X → Bool) (xs : List X) → All (λ x. p x ≡ q x) xs
    → list_all p xs ≡ list_all q xs
list_all-agrees p q [] same = refl
list_all-agrees p q (x ∷ xs) same = ap (λ b. b && list_all p xs) (same 0 x (omega arith)) ∙ ap (λ b. q x && b) (list_all-agrees p q xs (λ k d h. same (suc k) d (omega arith)))

-- what is weaker wherever the entries have these properties holds of all pairs
pub AllZip-weaker : {X Y : Type 0} (R S : X → Y → Type 0) (P : X → Type 0) (Q : Y → Type 0)
    → ((x : X) (y : Y) → P x → Q y → R x y → S x y) → (xs : List X) (ys : List Y) → All P xs
    → All Q ys → AllZip R xs ys → AllZip S xs ys
AllZip-weaker R S P Q w [] [] ps qs zip = tt
AllZip-weaker R S P Q w [] (y ∷ ys) ps qs zip = elim zip [ ]
AllZip-weaker R S P Q w (x ∷ xs) [] ps qs zip = elim zip [ ]
AllZip-weaker R S P Q w (x ∷ xs) (y ∷ ys) ps qs zip = (w x y (ps 0 x (omega arith)) (qs 0 y (omega arith)) zip.0, AllZip-weaker R S P Q w xs ys (λ k d h. ps (suc k) d (omega arith)) (λ k d h. qs (suc k) d (omega arith)) zip.1)

-- pairs of the first lists and then of the second
pub AllZip-append : {X Y : Type 0} (R : X → Y → Type 0) (xs : List X) (ys : List Y) (us : List X)
    (vs : List Y) → AllZip R xs ys → AllZip R us vs → AllZip R (xs ++ us) (ys ++ vs)
AllZip-append R [] [] us vs zip more = more
AllZip-append R [] (y ∷ ys) us vs zip more = elim zip [ ]
AllZip-append R (x ∷ xs) [] us vs zip more = elim zip [ ]
AllZip-append R (x ∷ xs) (y ∷ ys) us vs zip more = (zip.0, AllZip-append R xs ys us vs zip.1 more)

-- all entries are pushed under their map
pub mapped_all : {X Y : Type 0} (f : X → Y) (xs : List X) (i : ℕ) (start made : List Y)
    → length xs ≤ i → made ≡ start ++ map f (take i xs) → made ≡ start ++ map f xs
mapped_all f xs i start made h so_far = so_far ∙ ap (λ ys. start ++ map f ys) (take_all i xs h)

-- one set more whose entries are those of the next set under a map
pub pushed_set : {E : Type 0} (f : List E → List E) (sets : List (Vec E Global)) (i : ℕ) (d made : Vec E Global) (start before after : List (Vec E Global)) → i < length sets → map (λ set. set.items) before ≡ map (λ set. set.items) start ++ map f (map (λ set. set.items) (take i sets)) → made.items ≡ f (get_or sets i d).items → after ≡ before ++ made ∷ []
    → map (λ set. set.items) after ≡ map (λ set. set.items) start ++ map f (map (λ set. set.items) (take (i + 1) sets))
pushed_set {E} f sets i d made start before after h so_far made_is pushed =
    let items = λ (set : Vec E Global). set.items in
    let more : map f (map items (take (i + 1) sets)) ≡ map f (map items (take i sets)) ++ f (get_or sets i d).items ∷ [] = ap (map f) (map_more items sets i d h) ∙ map-append f (map items (take i sets)) ((get_or sets i d).items ∷ []) in
    ap (map items) pushed ∙ map-append items before (made ∷ [])
    ∙ ap (λ es. map items before ++ es ∷ []) made_is ∙ ap (λ ys. ys ++ f (get_or sets i d).items ∷ []) so_far
    ∙ append_assoc (map items start) (map f (map items (take i sets))) (f (get_or sets i d).items ∷ []) ∙ ap (λ ys. map items start ++ ys) (sym more)
