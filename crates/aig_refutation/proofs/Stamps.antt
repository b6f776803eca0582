-- Literals that are marked by stamps.
use Rattle.aig_base.proofs.Words.{◌≡◌, ℕ, zero, suc, ◌-◌, ◌<◌, ◌≤◌, Bool, false, List, [], ◌∷◌, ◌++◌, length, map, replicate, take, refl, ap, ◌∙◌, arith, ◌==◌, All, ne_eqb, All-tail, length-map}
use Rattle.std.proofs.lemmas.List.{map-append, take_all}

-- no stamp is one that is above all of them
pub none_stamped : (stamps : List ℕ) (stamp : ℕ) → All (λ s. s < stamp) stamps → map (λ s. s == stamp) stamps ≡ replicate (length stamps) false
none_stamped [] stamp below = refl
none_stamped (s ∷ stamps) stamp below =
    let here : s < stamp = below 0 0 (omega arith) in
    let other : (s == stamp) ≡ false = ne_eqb s stamp (λ e. omega arith) in
    rw other (ap (λ (marks : List Bool). false ∷ marks) (none_stamped stamps stamp (All-tail (λ t. t < stamp) s stamps below)))

pub map-replicate : {A B : Type 0} (f : A → B) (n : ℕ) (a : A) → map f (replicate n a) ≡ replicate n (f a)
map-replicate f zero a = refl
map-replicate f (suc n) a = ap (λ marks. f a ∷ marks) (map-replicate f n a)

-- further stamps, which are 0
pub grown_marks : (last : ℕ) → 0 < last → (old new : List ℕ) (count held : ℕ) → held ≡ length old
    → length (map (λ s. s == last) old) ≤ count
    → new ≡ take count old ++ replicate (count - held) 0
    → map (λ s. s == last) new ≡ map (λ s. s == last) old
    ++ replicate (count - length (map (λ s. s == last) old)) false
grown_marks last some old new count held len room is =
    let test : ℕ → Bool = λ s. s == last in
    let same : length (map test old) ≡ length old = length-map old test in
    let whole : take count old ≡ old = take_all count old (omega (arith, room, same)) in
    let none : test 0 ≡ false = ne_eqb 0 last (λ e. omega (arith, e, some)) in
    let rest : count - held ≡ count - length (map test old) = omega (arith, len, same) in
    ap (map test) is
    ∙ map-append test (take count old) (replicate (count - held) 0)
    ∙ ap (λ (l : List ℕ). map test l ++ map test (replicate (count - held) 0)) whole
    ∙ ap (λ (l : List Bool). map test old ++ l) (map-replicate test (count - held) 0
    ∙ ap (λ (b : Bool). replicate (count - held) b) none
    ∙ ap (λ (n : ℕ). replicate n false) rest)
