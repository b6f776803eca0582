-- Lists of numbers: those that count up by one, and filters.
use Rattle.aig_base.proofs.Words.{◌≡◌, ℕ, zero, suc, ◌+◌, ◌<◌, ◌≤◌, Bool, true, false, cond, eqb, Option, Some, List, [], ◌∷◌, length, get_or, take, refl, sym, ap, ◌∙◌, arith, add-one, inl, inr, AllPairs, Contains, filter, find, cases_lt, eqb-true, false≢true}
use Rattle.aig_circuit.specs.Renumber.{position_of}
use Rattle.aig_renumber.proofs.Places.{rising-place}

-- ---- filters

further : (ns : List ℕ) (m n : ℕ) → Contains ns n → Contains (m ∷ ns) n
further ns m n has = (suc has.0, let h = has.1 in omega arith, has.2)

-- what is there and passes the test is kept
pub filter-has : (test : ℕ → Bool) (ns : List ℕ) (n : ℕ) → Contains ns n → test n ≡ true → Contains (filter test ns) n
filter-has test [] n has pass = absurd (omega (arith, has.1))
filter-has test (m ∷ ns) n has pass = at has.0 has.1 has.2 (filter-has test ns n)
  where
    on_top : (b : Bool) → Contains (filter test ns) n → Contains (cond b (m ∷ filter test ns) (filter test ns)) n
    on_top true rest = further (filter test ns) m n rest
    on_top false rest = rest

    at : (k : ℕ) → k < suc (length ns) → get_or (m ∷ ns) k n ≡ n → (Contains ns n → test n ≡ true → Contains (filter test ns) n) → Contains (cond (test m) (m ∷ filter test ns) (filter test ns)) n
    at zero h is rest = let passes : test m ≡ true = ap test is ∙ pass in rw passes (zero, omega arith, is)
    at (suc k) h is rest = on_top (test m) (rest (k, omega arith, is) pass)

-- before an entry that is kept stand as many that pass a narrower test as before
pub filter-places : (narrow test : ℕ → Bool) → ((n : ℕ) → narrow n ≡ true → test n ≡ true) → (ns : List ℕ) (n : ℕ) → test n ≡ true
    → length (filter narrow (take (position_of (filter test ns) n) (filter test ns))) ≡ length (filter narrow (take (position_of ns n) ns))
filter-places narrow test within [] n pass = refl
filter-places narrow test within (m ∷ ns) n pass = by_tests (eqb m n) refl (test m) refl (filter-places narrow test within ns n pass)
  where
    kept : List ℕ
    kept = filter test ns

    Rest : Type 0
    Rest = length (filter narrow (take (position_of kept n) kept)) ≡ length (filter narrow (take (position_of ns n) ns))

    front : (b : Bool) → Rest → length (cond b (m ∷ filter narrow (take (position_of kept n) kept)) (filter narrow (take (position_of kept n) kept))) ≡ length (cond b (m ∷ filter narrow (take (position_of ns n) ns)) (filter narrow (take (position_of ns n) ns)))
    front true rest = ap suc rest
    front false rest = rest

    dropped : test m ≡ false → narrow m ≡ false
    dropped fails = by_narrow (narrow m) refl
      where
        by_narrow : (b : Bool) → narrow m ≡ b → b ≡ false
        by_narrow true is = absurd (false≢true (sym fails ∙ within m is))
        by_narrow false is = refl

    by_tests : (b : Bool) → eqb m n ≡ b → (d : Bool) → test m ≡ d → Rest
        → length (filter narrow (take (position_of (cond d (m ∷ kept) kept) n) (cond d (m ∷ kept) kept))) ≡ length (filter narrow (take (cond b 0 (position_of ns n + 1)) (m ∷ ns)))
    by_tests true same true passes rest = rw same refl
    by_tests true same false fails rest = absurd (false≢true (sym fails ∙ ap test (eqb-true m n same) ∙ pass))
    by_tests false other true passes rest = rw (other, add-one (position_of kept n), add-one (position_of ns n)) (front (narrow m) rest)
    by_tests false other false fails rest = let fails = dropped fails in rw (add-one, fails) rest

-- ---- lists that count up by one

-- the numbers v, v + 1 and so on
abbrev pub Counts : ℕ → List ℕ → Type 0
Counts v ns = (k d : ℕ) → k < length ns → get_or ns k d ≡ v + k

counts-rest : (v n : ℕ) (ns : List ℕ) → Counts v (n ∷ ns) → Counts (suc v) ns
counts-rest v n ns counts k d h = omega (arith, counts (suc k) d (omega arith))

-- the first number that passes the test
pub find-counting : (test : ℕ → Bool) (v : ℕ) (ns : List ℕ) → Counts v ns → (n : ℕ) → v ≤ n → n < v + length ns → test n ≡ true
    → (m : ℕ) × (find test ns ≡ Some m) × (m ≤ n) × (test m ≡ true) × ((j : ℕ) → v ≤ j → test j ≡ true → m ≤ j)
find-counting test v [] counts n low high pass = absurd (omega arith)
find-counting test v (i ∷ ns) counts n low high pass = by_test (test i) refl (find-counting test (suc v) ns (counts-rest v i ns counts) n)
  where
    here : i ≡ v
    here = omega (arith, counts 0 0 (omega arith))

    Found : Option ℕ → Type 0
    Found o = (m : ℕ) × (o ≡ Some m) × (m ≤ n) × (test m ≡ true) × ((j : ℕ) → v ≤ j → test j ≡ true → m ≤ j)

    Rest : Type 0
    Rest = suc v ≤ n → n < suc v + length ns → test n ≡ true → (m : ℕ) × (find test ns ≡ Some m) × (m ≤ n) × (test m ≡ true) × ((j : ℕ) → suc v ≤ j → test j ≡ true → m ≤ j)

    past : test i ≡ false → (j : ℕ) → v ≤ j → test j ≡ true → suc v ≤ j
    past fails j le passes = elim (cases_lt v j) [
      | inl less ↦ omega arith
      | inr more ↦ (let same : i ≡ j = omega (arith, here) in absurd (false≢true (sym fails ∙ ap test same ∙ passes)))
    ]

    by_test : (b : Bool) → test i ≡ b → Rest → Found (cond b (Some i) (find test ns))
    by_test true passes rest = (i, refl, omega (arith, here), passes, λ j le at. omega (arith, here))
    by_test false fails rest =
        let found = rest (past fails n low pass) (omega arith) pass in
        (found.0, found.1, found.2, found.3, λ j le at. found.4 j (past fails j le at) at)

pub counting-is_increasing : (ns : List ℕ) → Counts 0 ns → AllPairs (λ m n. m < n) ns
counting-is_increasing ns counts i j d h l = omega (arith, counts i d (omega arith), counts j d l)

pub counting-has : (ns : List ℕ) → Counts 0 ns → (n : ℕ) → n < length ns → Contains ns n
counting-has ns counts n h = (n, h, omega (arith, counts n n h))

pub counting-within : (ns : List ℕ) → Counts 0 ns → (n : ℕ) → Contains ns n → n < length ns
counting-within ns counts n has = let h = has.1 in let e = has.2 in omega (arith, counts has.0 n h)

-- each number of a counting list is its own place
pub counting-place : (ns : List ℕ) → Counts 0 ns → (n : ℕ) → n < length ns → position_of ns n ≡ n
counting-place ns counts n h =
    let at : get_or ns n 0 ≡ n = omega (arith, counts n 0 h) in
    ap (position_of ns) (sym at) ∙ rising-place ns (counting-is_increasing ns counts) n h
