-- Facts on the elements of lists.
use Rattle.aig_base.proofs.Words.{◌≡◌, ℕ, ◌+◌, ◌<◌, ◌∙◌, suc, List, [], ◌∷◌, ◌++◌, map, length, take, get_or, ap, refl, sym, subst, append_assoc, length-append, arith, All, Any, AllZip, flat_map, length-map, map_more, get_or-map, get_or_append_left, get_or-append-add, All-append, All-cons, All-head, All-nil, All-tail, Contains-get_or}

-- what no element has, each is without
pub All-from_no_Any : {X : Type 0} (P : X → Type 0) (xs : List X) → ¬ Any P xs → All (λ x. ¬ P x) xs
All-from_no_Any P xs none k d h has =
    let found = Contains-get_or xs k d h in
    none (found.0, get_or xs k d, found.1, found.2, has)

-- what holds of all of both lists holds of all of the first
pub All-first : {X : Type 0} (P : X → Type 0) (xs ys : List X) → All P (xs ++ ys) → All P xs
All-first P xs ys all k d h = subst P (get_or_append_left xs ys d k h) (all k d (omega (arith, length-append xs ys)))

-- and of all of the second
pub All-second : {X : Type 0} (P : X → Type 0) (xs ys : List X) → All P (xs ++ ys) → All P ys
All-second P xs ys all k d h = subst P (get_or-append-add xs ys k d) (all (length xs + k) d (omega (arith, length-append xs ys)))

-- what holds of all elements of each list holds of all of them together
pub All-flat_map : {X Y : Type 0} (P : Y → Type 0) (f : X → List Y) (xs : List X) → All (λ x. All P (f x)) xs → All P (flat_map f xs)
All-flat_map P f [] h = All-nil P
All-flat_map P f (x ∷ xs) h = All-append P (f x) (flat_map f xs) (All-head (λ y. All P (f y)) x xs h) (All-flat_map P f xs (All-tail (λ y. All P (f y)) x xs h))

-- what holds of all of the lists together holds of all of each
pub All-from_flat_map : {X Y : Type 0} (P : Y → Type 0) (f : X → List Y) (xs : List X) → All P (flat_map f xs) → All (λ x. All P (f x)) xs
All-from_flat_map P f [] h = All-nil (λ x. All P (f x))
All-from_flat_map P f (x ∷ xs) h = All-cons (λ y. All P (f y)) x xs (All-first P (f x) (flat_map f xs) h) (All-from_flat_map P f xs (All-second P (f x) (flat_map f xs) h))

-- entries that stand in one relation, one for one, stand in a weaker one
pub AllZip-weaker : {X Y : Type 0} (R S : X → Y → Type 0) → ((x : X) (y : Y) → R x y → S x y) → (xs : List X) (ys : List Y) → AllZip R xs ys → AllZip S xs ys
AllZip-weaker R S weaker [] [] zip = tt
AllZip-weaker R S weaker [] (y ∷ ys) zip = absurd zip
AllZip-weaker R S weaker (x ∷ xs) [] zip = absurd zip
AllZip-weaker R S weaker (x ∷ xs) (y ∷ ys) zip = (weaker x y zip.0, AllZip-weaker R S weaker xs ys zip.1)

module _ {X Y : Type 0} (f : X → Y) where
  -- what holds of what the entries are mapped to
  pub All-from_map : (P : Y → Type 0) (xs : List X) → All P (map f xs) → All (λ x. P (f x)) xs
  All-from_map P xs all k d h = let e : get_or (map f xs) k (f d) ≡ f (get_or xs k d) = get_or-map f xs k d (f d) h in subst P e (all k (f d) (rw length-map h))

  -- an entry and what it is mapped to, one for one
  pub AllZip-map : (R : X → Y → Type 0) (xs : List X) → All (λ x. R x (f x)) xs → AllZip R xs (map f xs)
  AllZip-map R [] all = tt
  AllZip-map R (x ∷ xs) all = (all 0 x (omega arith), AllZip-map R xs (λ k d h. all (suc k) d (omega arith)))

  -- functions that agree on every entry map the list alike
  pub map-agrees : (g : X → Y) (xs : List X) → All (λ x. f x ≡ g x) xs → map f xs ≡ map g xs
  map-agrees g [] all = refl
  map-agrees g (x ∷ xs) all = ap (λ y. y ∷ map f xs) (all 0 x (omega arith)) ∙ ap (λ ys. g x ∷ ys) (map-agrees g xs (λ k d h. all (suc k) d (omega arith)))

-- a function that keeps every entry keeps the list
pub map-same : {X : Type 0} (f : X → X) (xs : List X) → All (λ x. f x ≡ x) xs → map f xs ≡ xs
map-same f [] all = refl
map-same f (x ∷ xs) all = ap (λ y. y ∷ map f xs) (all 0 x (omega arith)) ∙ ap (λ ys. x ∷ ys) (map-same f xs (λ k d h. all (suc k) d (omega arith)))

-- one entry more that is pushed under its map
pub mapped_more : {X Y : Type 0} (f : X → Y) (xs : List X) (i : ℕ) (d : X)
    (start before after : List Y) → i < length xs → before ≡ start ++ map f (take i xs)
    → after ≡ before ++ f (get_or xs i d) ∷ [] → after ≡ start ++ map f (take (i + 1) xs)
mapped_more f xs i d start before after h so_far pushed =
    pushed ∙ ap (λ ys. ys ++ f (get_or xs i d) ∷ []) so_far ∙ append_assoc start (map f (take i xs)) (f (get_or xs i d) ∷ []) ∙ ap (λ ys. start ++ ys) (sym (map_more f xs i d h))
