-- Loops that push what is made of the elements of a list, one element more.
use Rattle.aig_base.proofs.Words.{Ok, Err, Result, ◌≡◌, ◌+◌, ◌-◌, ◌<◌, ◌≤◌, ℕ, List, [], ◌∷◌, ◌++◌, length, map, get_or, take, sym, ap, ◌∙◌, append_assoc, arith, IfOk, OnErr, length-take, map-append, take-append-le, take_more}

-- what is made of one element more
pub made_more : {X Y : Type 0} (f : X → Y) (xs : List X) (i : ℕ) (d : X) → i < length xs
    → map f (take (i + 1) xs) ≡ map f (take i xs) ++ (f (get_or xs i d) ∷ [])
made_more f xs i d within = ap (map f) (take_more xs i d within) ∙ map-append f (take i xs) (get_or xs i d ∷ [])

-- and pushed
pub made_pushed : {X Y : Type 0} (f : X → Y) (xs : List X) (i : ℕ) (d : X) (first items : List Y)
    (y : Y) → i < length xs → y ≡ f (get_or xs i d) → items ≡ first ++ map f (take i xs)
    → items ++ (y ∷ []) ≡ first ++ map f (take (i + 1) xs)
made_pushed f xs i d first items y within made so_far =
    ap (λ l. l ++ (y ∷ [])) so_far ∙ append_assoc first (map f (take i xs)) (y ∷ [])
    ∙ ap (λ z. first ++ (map f (take i xs) ++ (z ∷ []))) made
    ∙ ap (λ l. first ++ l) (sym (made_more f xs i d within))

-- the first elements stay
pub first_kept : {X : Type 0} (first items : List X) (x : X) → take (length first) items ≡ first
    → take (length first) (items ++ (x ∷ [])) ≡ first
first_kept first items x kept =
    let shorter : length first ≤ length items = omega (arith, length-take (length first) items, ap length kept) in
    take-append-le (length first) items (x ∷ []) shorter ∙ kept

-- ---- a push where there is room

-- one element fewer is left
pub count_down : (count i : ℕ) → i < count → count - i ≡ (count - (i + 1)) + 1
count_down count i within = omega arith

-- the length and the room after it
pub room_less : (count left later capacity : ℕ) → count + left ≤ capacity → left ≡ later + 1
    → count < capacity
room_less count left later capacity room one = omega arith

pub room_after : (count new left later capacity more : ℕ) → count + left ≤ capacity
    → left ≡ later + 1 → new ≡ count + 1 → capacity ≤ more → new + later ≤ more
room_after count new left later capacity more room one longer grows = omega arith

-- ---- what holds whatever a push answers

pub if_ok : {X E : Type 0} (r : Result X E) (P : X → Type 0) → ((x : X) → P x) → IfOk r P
if_ok (Ok x) P all = all x
if_ok (Err e) P all = tt

pub on_err : {X E P : Type 0} (r : Result X E) → P → OnErr r P
on_err (Ok x) h = tt
on_err (Err e) h = h
