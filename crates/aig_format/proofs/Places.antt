-- Literals in their places: how many there are, and that they may be defined and rise.
use Rattle.aig_base.proofs.Words.{◌≡◌, ℕ, zero, suc, ◌+◌, ◌*◌, ◌≤◌, true, List, [], ◌∷◌, ◌++◌, length, refl, ap, ◌∙◌, arith, nat_lt, AllByRecursion, and_from, and_parts, lt-ltb}
use Rattle.aig_format.proofs.Words.{places, is_increasing, IsDefinable}
use Rattle.aig_format.proofs.Rules.{definable_from}

pub length-places : (n v : ℕ) → length (places n v) ≡ n
length-places zero v = refl
length-places (suc n) v = ap suc (length-places n (v + 1))

pub places-append : (m n v : ℕ) → places (m + n) v ≡ places m v ++ places n (v + m)
places-append zero n v =
    let e : zero + n ≡ n = omega arith in
    let f : v ≡ v + zero = omega arith in
    ap (λ (k : ℕ). places k v) e ∙ ap (places n) f
places-append (suc m) n v =
    let e : suc m + n ≡ suc (m + n) = omega arith in
    let f : v + 1 + m ≡ v + suc m = omega arith in
    ap (λ (k : ℕ). places k v) e ∙ ap (λ (xs : List ℕ). 2 * v ∷ xs) (places-append m n (v + 1) ∙ ap (λ (k : ℕ). places m (v + 1) ++ places n k) f)

pub places_definable : (greatest n v : ℕ) → 1 ≤ v → n + v ≤ greatest + 1 → AllByRecursion (IsDefinable greatest) (places n v)
places_definable greatest zero v low high = tt
places_definable greatest (suc n) v low high = (definable_from greatest (2 * v) (omega arith) (omega arith) (omega arith), places_definable greatest n (v + 1) (omega arith) (omega arith))

pub places_rise : (n v : ℕ) → is_increasing (places n v) ≡ true
places_rise zero v = refl
places_rise (suc zero) v = refl
places_rise (suc (suc n)) v = and_from (nat_lt (2 * v) (2 * (v + 1))) (is_increasing (places (suc n) (v + 1))) (lt-ltb (2 * v) (2 * (v + 1)) (omega arith)) (places_rise (suc n) (v + 1))

-- the end of a row that rises, rises
pub rising_end : (xs ys : List ℕ) → is_increasing (xs ++ ys) ≡ true → is_increasing ys ≡ true
rising_end [] ys h = h
rising_end (x ∷ []) [] h = refl
rising_end (x ∷ []) (y ∷ ys) h = (and_parts (nat_lt x y) (is_increasing (y ∷ ys)) h).1
rising_end (x ∷ y ∷ xs) ys h = rising_end (y ∷ xs) ys (and_parts (nat_lt x y) (is_increasing (y ∷ (xs ++ ys))) h).1
