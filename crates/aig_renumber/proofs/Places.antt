-- Lists without repetition, and the places of their entries.
use Rattle.aig_base.proofs.Words.{◌≡◌, ◌≢◌, ℕ, zero, suc, ◌+◌, ◌<◌, ◌≤◌, Bool, true, cond, List, [], ◌∷◌, length, map, get_or, refl, ap, subst, ◌∙◌, arith, inl, inr, ◌==◌, All, AllPairs, Contains, filter, cases_lt, eqb-true, eqb-false, eq-eqb, ne_eqb, get_or-map, length-map, All-contains, All-filter, Contains-get_or, filter_passes}
use Rattle.std.specs.List.{position_or_len}
use Rattle.std.proofs.lemmas.List.Recursion.{is_position_or_len}
use Rattle.std.proofs.lemmas.List.Sums.{fails_before_first, passes_at_first, position_or_len_is}
use Rattle.aig_circuit.specs.Renumber.{position_of}

-- ---- the place of an entry

-- it is that of the first number that is equal
is_place : (ns : List ℕ) (n : ℕ) → position_of ns n ≡ position_or_len (λ m. m == n) ns
is_place ns n = is_position_or_len (λ (ms : List ℕ). position_of ms n) (λ m. m == n) refl (λ m ms. ap (λ k. cond (m == n) 0 k) (omega arith)) ns

pub position_of-within : (ns : List ℕ) (n : ℕ) → Contains ns n → position_of ns n < length ns
position_of-within ns n has = elim (cases_lt has.0 (position_of ns n)) [
  | inl before ↦
      let fails = fails_before_first (λ m. m == n) ns has.0 n (subst (λ k. has.0 < k) (is_place ns n) before) in
      absurd (eqb-false (get_or ns has.0 n) n fails has.2)
  | inr there ↦ let low = has.1 in omega arith
]

pub get_or-position_of : (ns : List ℕ) (n : ℕ) → Contains ns n → get_or ns (position_of ns n) 0 ≡ n
get_or-position_of ns n has =
    let passes = passes_at_first (λ m. m == n) ns 0 (subst (λ k. k < length ns) (is_place ns n) (position_of-within ns n has)) in
    ap (λ k. get_or ns k 0) (is_place ns n) ∙ eqb-true (get_or ns (position_or_len (λ m. m == n) ns) 0) n passes

-- of entries that differ, each has its one place
pub position_of-get_or : (ns : List ℕ) (i : ℕ) → AllPairs (λ m n. m ≢ n) ns → i < length ns → position_of ns (get_or ns i 0) ≡ i
position_of-get_or ns i differ h =
    let n = get_or ns i 0 in
    is_place ns n ∙ position_or_len_is (λ m. m == n) ns i 0 (omega arith) (λ k low. ne_eqb (get_or ns k 0) n (differ k i 0 low h)) (λ _. eq-eqb n n refl)

-- ---- lists in rising order

-- a rising list from v on has at place k at least v + k
pub rising_from : (v : ℕ) (ns : List ℕ) → AllPairs (λ m n. m < n) ns → All (λ n. v ≤ n) ns → (k : ℕ) → k < length ns → v + k ≤ get_or ns k 0
rising_from v [] is_increasing above k h = absurd (omega arith)
rising_from v (m ∷ ms) is_increasing above zero h = omega (arith, above 0 0 h)
rising_from v (m ∷ ms) is_increasing above (suc k) h =
    let rest = rising_from (suc v) ms (λ i j d h l. is_increasing (suc i) (suc j) d (omega arith) (omega arith))
    (λ k d h. omega (arith, above 0 d (omega arith), is_increasing 0 (suc k) d (omega arith) (omega arith))) k (omega arith)
    in
    omega (arith, rest)

-- ---- pairs

pub AllPairs-weaker : {X : Type 0} (R S : X → X → Type 0) (xs : List X) → ((x y : X) → R x y → S x y) → AllPairs R xs → AllPairs S xs
AllPairs-weaker R S xs w p i j d h l = w (get_or xs i d) (get_or xs j d) (p i j d h l)

-- ---- places in rising lists

module _ (ns : List ℕ) (is_increasing : AllPairs (λ m n. m < n) ns) where
  pub rising-distinct : AllPairs (λ m n. m ≢ n) ns
  rising-distinct = AllPairs-weaker (λ m n. m < n) (λ m n. m ≢ n) ns (λ m n lt same. absurd (omega arith)) is_increasing

  -- each number has its one place
  pub rising-place : (i : ℕ) → i < length ns → position_of ns (get_or ns i 0) ≡ i
  rising-place i h = position_of-get_or ns i rising-distinct h

  -- places go as numbers do
  pub places-rise : (m n : ℕ) → Contains ns m → Contains ns n → m < n → position_of ns m < position_of ns n
  places-rise m n s t lt = elim (cases_lt (position_of ns m) (position_of ns n)) [
    | inl low ↦ low
    | inr high ↦ absurd (elim (cases_lt (position_of ns n) (position_of ns m)) [
      | inl less ↦ let turned = is_increasing (position_of ns n) (position_of ns m) 0 less (position_of-within ns m s) in omega (arith, get_or-position_of ns m s, get_or-position_of ns n t)
      | inr more ↦ let same : position_of ns m ≡ position_of ns n = omega arith in omega (arith, get_or-position_of ns m s, get_or-position_of ns n t, ap (λ i. get_or ns i 0) same)
    ])
  ]

-- ---- filters

-- what passes the test was there
pub filter-back : (test : ℕ → Bool) (ns : List ℕ) (n : ℕ) → Contains (filter test ns) n → Contains ns n × (test n ≡ true)
filter-back test ns n has = (
  All-contains (Contains ns) (filter test ns) n (All-filter test (Contains ns) ns (λ k d h. Contains-get_or ns k d h)) has,
  All-contains (λ m. test m ≡ true) (filter test ns) n (filter_passes test ns) has,
)

-- where all pass, nothing is left out
pub filter_all : (test : ℕ → Bool) (ns : List ℕ) → All (λ n. test n ≡ true) ns → filter test ns ≡ ns
filter_all test [] all = refl
filter_all test (n ∷ ns) all =
    ap (λ b. cond b (n ∷ filter test ns) (filter test ns)) (all 0 n (omega arith)) ∙ ap (λ l. n ∷ l) (filter_all test ns (λ k d h. all (suc k) d (omega arith)))

-- ---- maps

module _ {X Y : Type 0} (f : X → Y) where
  -- what is mapped comes from an entry
  pub Contains-map_back : (xs : List X) (y : Y) → Contains (map f xs) y → (x : X) × Contains xs x × (f x ≡ y)
  Contains-map_back [] y has = absurd (omega (arith, has.1))
  Contains-map_back (x ∷ xs) y has = at has.0 has.1 has.2 (Contains-map_back xs y)
    where
      at : (k : ℕ) → k < suc (length (map f xs)) → get_or (f x ∷ map f xs) k y ≡ y → (Contains (map f xs) y → (z : X) × Contains xs z × (f z ≡ y)) → (z : X) × Contains (x ∷ xs) z × (f z ≡ y)
      at zero h e back = (x, (zero, omega arith, refl), e)
      at (suc k) h e back =
          let rest = back (k, omega arith, e) in
          (rest.0, (suc rest.1.0, omega (arith, rest.1.1), rest.1.2), rest.2)

  pub Contains-map : (xs : List X) (x : X) → Contains xs x → Contains (map f xs) (f x)
  Contains-map xs x has = (
    has.0,
    rw length-map has.1,
    get_or-map f xs has.0 x (f x) has.1 ∙ ap f has.2,
  )

-- distinct numbers stay distinct where the function tells those of S apart
pub AllPairs-map_numbers : (S : ℕ → Type 0) (f : ℕ → ℕ) (ns : List ℕ) → ((m n : ℕ) → S m → S n → f m ≡ f n → m ≡ n) → All S ns → AllPairs (λ m n. m ≢ n) ns → AllPairs (λ m n. m ≢ n) (map f ns)
AllPairs-map_numbers S f ns apart all differ i j d h l =
    let second : j < length ns = omega (arith, length-map ns f) in
    let first : i < length ns = omega arith in
    rw (get_or-map f ns i 0 d first, get_or-map f ns j 0 d second)
    (λ e. differ i j 0 h second (apart (get_or ns i 0) (get_or ns j 0) (all i 0 first) (all j 0 second) e))
