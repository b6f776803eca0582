-- Values that are put into leaves.
use Rattle.aig_base.proofs.Words.{◌≡◌, ◌≢◌, ℕ, zero, suc, ◌==◌, ◌<◌, Bool, cond, List, [], ◌∷◌, length, map, get_or, refl, sym, ap, subst, ◌∙◌, arith, All, AllPairs, Contains, eq-eqb, ne_eqb, get_or-map, length-map}

-- the values, but for this leaf
abbrev pub put : ℕ → Bool → (ℕ → Bool) → ℕ → Bool
put n b y m = cond (m == n) b (y m)

pub put_same : (n : ℕ) (b : Bool) (y : ℕ → Bool) → put n b y n ≡ b
put_same n b y = ap (λ c. cond c b (y n)) (eq-eqb n n refl)

pub put_other : (n : ℕ) (b : Bool) (y : ℕ → Bool) (m : ℕ) → (m ≡ n → ⊥) → put n b y m ≡ y m
put_other n b y m differ = ap (λ c. cond c b (y m)) (ne_eqb m n differ)

-- the values, but for the leaves of these entries
abbrev pub puts : {X : Type 0} → (X → ℕ) → (X → Bool) → List X → (ℕ → Bool) → ℕ → Bool
puts leaf value [] y = y
puts leaf value (x ∷ xs) y = put (leaf x) (value x) (puts leaf value xs y)

-- ---- of lists

pub Contains-first : (m : ℕ) (ms : List ℕ) (n : ℕ) → n ≡ m → Contains (m ∷ ms) n
Contains-first m ms n e = (0, omega arith, sym e)

pub Contains-later : (m : ℕ) (ms : List ℕ) (n : ℕ) → Contains ms n → Contains (m ∷ ms) n
Contains-later m ms n has = (suc has.0, omega (arith, has.1), has.2)

module _ {X : Type 0} (leaf : X → ℕ) (value : X → Bool) (y : ℕ → Bool) where
  -- leaves that aren't among them keep their values
  pub puts_other : (xs : List X) (n : ℕ) → ¬ Contains (map leaf xs) n → puts leaf value xs y n ≡ y n
  puts_other [] n not = refl
  puts_other (x ∷ xs) n not =
      put_other (leaf x) (value x) (puts leaf value xs y) n
      (λ e. not (Contains-first (leaf x) (map leaf xs) n e))
      ∙ puts_other xs n (λ has. not (Contains-later (leaf x) (map leaf xs) n has))

  -- each of these leaves has the value of its entry, where no two are one
  pub puts_each : (xs : List X) → AllPairs (λ m n. m ≢ n) (map leaf xs)
      → All (λ x. puts leaf value xs y (leaf x) ≡ value x) xs
  puts_each [] distinct k d h = absurd (omega (arith, h))
  puts_each (x ∷ xs) distinct zero d h = put_same (leaf x) (value x) (puts leaf value xs y)
  puts_each (x ∷ xs) distinct (suc k) d h =
      let low : k < length xs = omega (arith, h) in
      let same : length (map leaf xs) ≡ length xs = length-map xs leaf in
      let within : suc k < suc (length (map leaf xs)) = omega (arith, h, same) in
      let apart : leaf x ≢ leaf (get_or xs k d) =
      subst (λ n. leaf x ≢ n) (get_or-map leaf xs k d (leaf d) low)
      (distinct zero (suc k) (leaf d) (omega arith) within) in
      put_other (leaf x) (value x) (puts leaf value xs y) (leaf (get_or xs k d))
      (λ e. apart (sym e))
      ∙ puts_each xs
      (λ i j e lt less. distinct (suc i) (suc j) e (omega (arith, lt)) (omega (arith, less))) k d
      low
