-- Clauses and numbers that are listed one after another.
use Rattle.aig_giving.proofs.Words.{◌≡◌, ℕ, ◌+◌, ◌<◌, ◌≤◌, Some, List, [], ◌∷◌, ◌++◌, length, get_or, map, take, zero, suc, sym, ap, ◌∙◌, append_assoc, append-nil, subst, arith, All, slice_get, flat_map, map-append, take_more, get_or_from_slice_get, AreBelow}
use Rattle.aig_base.specs.declared.logic.literal.Lit.{Lit}

next_one : {X Y : Type 0} (f : X → List Y) (xs : List X) (i : ℕ) (d : X) → i < length xs
    → flat_map f (take (suc i) xs) ≡ flat_map f (take i xs) ++ f (get_or xs i d)
next_one f [] i d lt = absurd (omega arith)
next_one f (x ∷ xs) zero d lt = append-nil (f x)
next_one f (x ∷ xs) (suc i) d lt = ap (λ l. f x ++ l) (next_one f xs i d (omega arith)) ∙ sym (append_assoc (f x) (flat_map f (take i xs)) (f (get_or xs i d)))

next : {X Y : Type 0} (f : X → List Y) (xs : List X) (i : ℕ) (d : X) → i < length xs
    → flat_map f (take (i + 1) xs) ≡ flat_map f (take i xs) ++ f (get_or xs i d)
next f xs i d lt =
    let one : suc i ≡ i + 1 = omega arith in
    subst (λ (n : ℕ). flat_map f (take n xs) ≡ flat_map f (take i xs) ++ f (get_or xs i d)) one (next_one f xs i d lt)

-- the items of one more entry follow
pub turn : {X Y : Type 0} (f : X → List Y) (xs : List X) (i : ℕ) (x : X) → i < length xs
    → get_or xs i x ≡ x → (a b c : List Y) → b ≡ a ++ flat_map f (take i xs) → c ≡ b ++ f x
    → c ≡ a ++ flat_map f (take (i + 1) xs)
turn f xs i x lt here a b c before more =
    more ∙ ap (λ l. l ++ f x) before ∙ append_assoc a (flat_map f (take i xs)) (f x)
    ∙ ap (λ y. a ++ (flat_map f (take i xs) ++ f y)) (sym here) ∙ ap (λ l. a ++ l) (sym (next f xs i x lt))

-- one more item follows
pub map_turn : {X Y : Type 0} (f : X → Y) (xs : List X) (i : ℕ) (d : X) → i < length xs
    → (a b c : List Y) → b ≡ a ++ map f (take i xs) → c ≡ b ++ f (get_or xs i d) ∷ []
    → c ≡ a ++ map f (take (i + 1) xs)
map_turn f xs i d lt a b c before more =
    let last = f (get_or xs i d) ∷ [] in
    let longer = map-append f (take i xs) (get_or xs i d ∷ []) in
    more ∙ ap (λ l. l ++ last) before ∙ append_assoc a (map f (take i xs)) last
    ∙ ap (λ l. a ++ l) (sym (ap (map f) (take_more xs i d lt) ∙ longer))

-- what holds of each holds of the one at a place
pub at_place : {X : Type 0} (P : X → Type 0) (xs : List X) (i : ℕ) (x : X) → i < length xs
    → slice_get xs i ≡ Some x → All P xs → P x
at_place P xs i x lt here all = subst P (get_or_from_slice_get xs i x x here) (all i x lt)

-- variables that are below one number are below a greater one
pub below_more : (m n : ℕ) → m ≤ n → (clauses : List (List Lit)) → AreBelow m clauses
    → AreBelow n clauses
below_more m n low clauses below i d lt j e less =
    let under = below i d lt j e less in omega (arith, under, low)
