-- Numbers in lists: whether they are there, and at which place first.
use Rattle.aig_base.proofs.Words.{◌≡◌, ℕ, zero, suc, ◌+◌, ◌<◌, ◌≤◌, Bool, true, false, cond, eqb, ◌||◌, List, [], ◌∷◌, ◌++◌, length, refl, sym, ap, subst, ◌∙◌, arith, nat_eq, ◌==◌, slice_index, filter, eqb-true, eqb-false, eq-eqb, ne_eqb, false≢true}
use Rattle.std.specs.List.{AllByRecursion, IsDistinct, list_any, flat_map}
use Rattle.aig_circuit.specs.Renumber.{position_of}
use Rattle.aig_format.specs.Numbering.{numbers_from}
use Rattle.aig_format.proofs.Entries.{rec_append, rec_weaker}

-- whether the number is in the list
abbrev pub has : List ℕ → ℕ → Bool
has xs v = list_any (λ m. m == v) xs

-- ---- rows of numbers

pub length-numbers : (n w : ℕ) → length (numbers_from n w) ≡ n
length-numbers zero w = refl
length-numbers (suc n) w = ap suc (length-numbers n (w + 1))

pub has-numbers : (n w v : ℕ) → w ≤ v → v < w + n → has (numbers_from n w) v ≡ true
has-numbers zero w v low high = absurd (omega arith)
has-numbers (suc n) w v low high = by_test (eqb w v) refl (has-numbers n (w + 1) v)
  where
    by_test : (b : Bool) → eqb w v ≡ b → (w + 1 ≤ v → v < w + 1 + n → has (numbers_from n (w + 1)) v ≡ true) → (b || has (numbers_from n (w + 1)) v) ≡ true
    by_test true is rest = refl
    by_test false is rest = let differs = eqb-false w v is in rest (omega (arith, differs)) (omega arith)

pub position_of-numbers : (n w v : ℕ) → w ≤ v → v < w + n → position_of (numbers_from n w) v + w ≡ v
position_of-numbers zero w v low high = absurd (omega arith)
position_of-numbers (suc n) w v low high = by_test (eqb w v) refl (position_of-numbers n (w + 1) v)
  where
    by_test : (b : Bool) → eqb w v ≡ b → (w + 1 ≤ v → v < w + 1 + n → position_of (numbers_from n (w + 1)) v + (w + 1) ≡ v) → cond b 0 (position_of (numbers_from n (w + 1)) v + 1) + w ≡ v
    by_test true is rest = let same = eqb-true w v is in omega arith
    by_test false is rest = let differs = eqb-false w v is in let found = rest (omega (arith, differs)) (omega arith) in omega arith

-- ---- filtered lists

pub has-filter : (p : ℕ → Bool) (xs : List ℕ) (v : ℕ) → p v ≡ true → has xs v ≡ true → has (filter p xs) v ≡ true
has-filter p [] v passes is = is
has-filter p (x ∷ xs) v passes is = by_tests (eqb x v) (p x) refl refl is (has-filter p xs v passes)
  where
    by_tests : (b c : Bool) → eqb x v ≡ b → p x ≡ c → (b || has xs v) ≡ true → (has xs v ≡ true → has (filter p xs) v ≡ true) → has (cond c (x ∷ filter p xs) (filter p xs)) v ≡ true
    by_tests true true same there is rest = ap (λ b. b || has (filter p xs) v) same
    by_tests true false same there is rest = absurd (false≢true (sym there ∙ ap p (eqb-true x v same) ∙ passes))
    by_tests false true same there is rest = ap (λ b. b || has (filter p xs) v) same ∙ rest is
    by_tests false false same there is rest = rest is

pub has_not-filter : (p : ℕ → Bool) (xs : List ℕ) (v : ℕ) → p v ≡ false → has (filter p xs) v ≡ false
has_not-filter p [] v fails = refl
has_not-filter p (x ∷ xs) v fails = by_tests (eqb x v) (p x) refl refl (has_not-filter p xs v fails)
  where
    by_tests : (b c : Bool) → eqb x v ≡ b → p x ≡ c → has (filter p xs) v ≡ false → has (cond c (x ∷ filter p xs) (filter p xs)) v ≡ false
    by_tests b false same there rest = rest
    by_tests true true same there rest = absurd (false≢true (sym fails ∙ sym (ap p (eqb-true x v same)) ∙ there))
    by_tests false true same there rest = ap (λ b. b || has (filter p xs) v) same ∙ rest

-- ---- joined lists

pub has-left : (xs ys : List ℕ) (v : ℕ) → has xs v ≡ true → has (xs ++ ys) v ≡ true
has-left [] ys v is = absurd (false≢true is)
has-left (x ∷ xs) ys v is = by_test (eqb x v) is (has-left xs ys v)
  where
    by_test : (b : Bool) → (b || has xs v) ≡ true → (has xs v ≡ true → has (xs ++ ys) v ≡ true) → (b || has (xs ++ ys) v) ≡ true
    by_test true is rest = refl
    by_test false is rest = rest is

pub has-right : (xs ys : List ℕ) (v : ℕ) → has ys v ≡ true → has (xs ++ ys) v ≡ true
has-right [] ys v is = is
has-right (x ∷ xs) ys v is = by_test (eqb x v) (has-right xs ys v is)
  where
    by_test : (b : Bool) → has (xs ++ ys) v ≡ true → (b || has (xs ++ ys) v) ≡ true
    by_test true rest = refl
    by_test false rest = rest

pub has-flat_map : (h : ℕ → List ℕ) (ks : List ℕ) (k v : ℕ) → has ks k ≡ true → has (h k) v ≡ true → has (flat_map h ks) v ≡ true
has-flat_map h [] k v there is = absurd (false≢true there)
has-flat_map h (j ∷ ks) k v there is = by_test (eqb j k) refl there (λ t. has-flat_map h ks k v t is)
  where
    by_test : (b : Bool) → eqb j k ≡ b → (b || has ks k) ≡ true → (has ks k ≡ true → has (flat_map h ks) v ≡ true) → has (h j ++ flat_map h ks) v ≡ true
    by_test true same there rest = has-left (h j) (flat_map h ks) v (subst (λ m. has (h m) v ≡ true) (sym (eqb-true j k same)) is)
    by_test false differs there rest = has-right (h j) (flat_map h ks) v (rest there)

-- ---- first places

pub position_of-within : (xs : List ℕ) (v : ℕ) → has xs v ≡ true → position_of xs v < length xs
position_of-within [] v is = absurd (false≢true is)
position_of-within (x ∷ xs) v is = by_test (eqb x v) is (position_of-within xs v)
  where
    by_test : (b : Bool) → (b || has xs v) ≡ true → (has xs v ≡ true → position_of xs v < length xs) → cond b 0 (position_of xs v + 1) < suc (length xs)
    by_test true is rest = omega arith
    by_test false is rest = omega (arith, rest is)

-- a number that is there has a place of its own
pub position_of-one : (xs : List ℕ) (u v : ℕ) → has xs u ≡ true → position_of xs u ≡ position_of xs v → u ≡ v
position_of-one [] u v is same = absurd (false≢true is)
position_of-one (x ∷ xs) u v is same = by_tests (eqb x u) (eqb x v) refl refl is same (position_of-one xs u v)
  where
    by_tests : (b c : Bool) → eqb x u ≡ b → eqb x v ≡ c → (b || has xs u) ≡ true → cond b 0 (position_of xs u + 1) ≡ cond c 0 (position_of xs v + 1) → (has xs u ≡ true → position_of xs u ≡ position_of xs v → u ≡ v) → u ≡ v
    by_tests true true first second is same rest = sym (eqb-true x u first) ∙ eqb-true x v second
    by_tests true false first second is same rest = absurd (omega arith)
    by_tests false true first second is same rest = absurd (omega arith)
    by_tests false false first second is same rest = rest is (omega arith)

pub position_of-left : (xs ys : List ℕ) (v : ℕ) → has xs v ≡ true → position_of (xs ++ ys) v < length xs
position_of-left [] ys v is = absurd (false≢true is)
position_of-left (x ∷ xs) ys v is = by_test (eqb x v) is (position_of-left xs ys v)
  where
    by_test : (b : Bool) → (b || has xs v) ≡ true → (has xs v ≡ true → position_of (xs ++ ys) v < length xs) → cond b 0 (position_of (xs ++ ys) v + 1) < suc (length xs)
    by_test true is rest = omega arith
    by_test false is rest = omega (arith, rest is)

pub position_of-right : (xs ys : List ℕ) (v : ℕ) → has xs v ≡ false → position_of (xs ++ ys) v ≡ length xs + position_of ys v
position_of-right [] ys v is = omega arith
position_of-right (x ∷ xs) ys v is = by_test (eqb x v) is (position_of-right xs ys v)
  where
    by_test : (b : Bool) → (b || has xs v) ≡ false → (has xs v ≡ false → position_of (xs ++ ys) v ≡ length xs + position_of ys v) → cond b 0 (position_of (xs ++ ys) v + 1) ≡ suc (length xs) + position_of ys v
    by_test true is rest = absurd (false≢true (sym is))
    by_test false is rest = omega (arith, rest is)

-- a number of the first list has its place there
pub position_of-front : (xs ys : List ℕ) (v : ℕ) → has xs v ≡ true → position_of (xs ++ ys) v ≡ position_of xs v
position_of-front [] ys v is = absurd (false≢true is)
position_of-front (x ∷ xs) ys v is = by_test (eqb x v) is (position_of-front xs ys v)
  where
    by_test : (b : Bool) → (b || has xs v) ≡ true → (has xs v ≡ true → position_of (xs ++ ys) v ≡ position_of xs v) → cond b 0 (position_of (xs ++ ys) v + 1) ≡ cond b 0 (position_of xs v + 1)
    by_test true is rest = refl
    by_test false is rest = ap (λ n. n + 1) (rest is)

-- the number at a number's place is that number
pub index-position_of : (xs : List ℕ) (v : ℕ) → has xs v ≡ true → slice_index xs (position_of xs v) ≡ v
index-position_of [] v is = absurd (false≢true is)
index-position_of (x ∷ xs) v is = by_test (eqb x v) refl is (index-position_of xs v)
  where
    by_test : (b : Bool) → eqb x v ≡ b → (b || has xs v) ≡ true → (has xs v ≡ true → slice_index xs (position_of xs v) ≡ v) → slice_index (x ∷ xs) (cond b 0 (position_of xs v + 1)) ≡ v
    by_test true same there rest = eqb-true x v same
    by_test false differs there rest = let e : position_of xs v + 1 ≡ suc (position_of xs v) = omega arith in ap (slice_index (x ∷ xs)) e ∙ rest there

-- ---- facts on each entry

pub rec_filter : (P : ℕ → Type 0) (p : ℕ → Bool) (xs : List ℕ) → AllByRecursion P xs → AllByRecursion P (filter p xs)
rec_filter P p [] all = tt
rec_filter P p (x ∷ xs) all = by_test (p x) (rec_filter P p xs all.1)
  where
    by_test : (b : Bool) → AllByRecursion P (filter p xs) → AllByRecursion P (cond b (x ∷ filter p xs) (filter p xs))
    by_test true rest = (all.0, rest)
    by_test false rest = rest

-- what is left by a filter passes its test
pub rec_passes : (p : ℕ → Bool) (xs : List ℕ) → AllByRecursion (λ x. p x ≡ true) (filter p xs)
rec_passes p [] = tt
rec_passes p (x ∷ xs) = by_test (p x) refl (rec_passes p xs)
  where
    by_test : (b : Bool) → p x ≡ b → AllByRecursion (λ x. p x ≡ true) (filter p xs) → AllByRecursion (λ x. p x ≡ true) (cond b (x ∷ filter p xs) (filter p xs))
    by_test true is rest = (is, rest)
    by_test false is rest = rest

-- the entry at a place
pub rec_at : (P : ℕ → Type 0) (xs : List ℕ) (i : ℕ) → i < length xs → AllByRecursion P xs → P (slice_index xs i)
rec_at P [] i h all = absurd (omega arith)
rec_at P (x ∷ xs) zero h all = all.0
rec_at P (x ∷ xs) (suc i) h all = rec_at P xs i (omega arith) all.1

-- what is in the list
pub rec_has : (P : ℕ → Type 0) (xs : List ℕ) (v : ℕ) → has xs v ≡ true → AllByRecursion P xs → P v
rec_has P [] v is all = absurd (false≢true is)
rec_has P (x ∷ xs) v is all = by_test (eqb x v) refl is (λ h. rec_has P xs v h all.1)
  where
    by_test : (b : Bool) → eqb x v ≡ b → (b || has xs v) ≡ true → (has xs v ≡ true → P v) → P v
    by_test true same is rest = subst P (eqb-true x v same) all.0
    by_test false differs is rest = rest is

-- numbers in a row are from their first on
pub rec_numbers : (n w m : ℕ) → m ≤ w → AllByRecursion (λ x. m ≤ x) (numbers_from n w)
rec_numbers zero w m h = tt
rec_numbers (suc n) w m h = (h, rec_numbers n (w + 1) m (omega arith))

-- ---- distinct entries

pub distinct-numbers : (n w : ℕ) → IsDistinct nat_eq (numbers_from n w)
unfolding IsDistinct
distinct-numbers zero w = tt
distinct-numbers (suc n) w = (
  rec_weaker (λ x. w + 1 ≤ x) (λ x. nat_eq w x ≡ false) (λ x h. ne_eqb w x (λ e. omega (arith, e))) (numbers_from n (w + 1)) (rec_numbers n (w + 1) (w + 1) (omega arith)),
  distinct-numbers n (w + 1),
)

pub distinct-filter : (p : ℕ → Bool) (xs : List ℕ) → IsDistinct nat_eq xs → IsDistinct nat_eq (filter p xs)
unfolding IsDistinct
distinct-filter p [] d = tt
distinct-filter p (x ∷ xs) d = by_test (p x) (rec_filter (λ y. nat_eq x y ≡ false) p xs d.0) (distinct-filter p xs d.1)
  where
    by_test : (b : Bool) → AllByRecursion (λ y. nat_eq x y ≡ false) (filter p xs) → IsDistinct nat_eq (filter p xs) → IsDistinct nat_eq (cond b (x ∷ filter p xs) (filter p xs))
    by_test true first rest = (first, rest)
    by_test false first rest = rest

-- distinct entries, and others after them that differ from all of them
pub distinct_append : {A : Type 0} (eq : A → A → Bool) (xs ys : List A) → IsDistinct eq xs → IsDistinct eq ys → AllByRecursion (λ x. AllByRecursion (λ y. eq x y ≡ false) ys) xs → IsDistinct eq (xs ++ ys)
unfolding IsDistinct
distinct_append eq [] ys d e apart = e
distinct_append eq (x ∷ xs) ys d e apart = ((rec_append (λ y. eq x y ≡ false) xs ys).1 (d.0, apart.0), distinct_append eq xs ys d.1 e apart.1)

-- the number at a place has this place, where no number is there twice
pub position_of-index : (xs : List ℕ) (n : ℕ) → IsDistinct nat_eq xs → n < length xs → position_of xs (slice_index xs n) ≡ n
unfolding IsDistinct
position_of-index [] n d h = absurd (omega arith)
position_of-index (x ∷ xs) zero d h = ap (λ b. cond b 0 (position_of xs x + 1)) (eq-eqb x x refl)
position_of-index (x ∷ xs) (suc n) d h =
    let differs : eqb x (slice_index xs n) ≡ false = rec_at (λ y. nat_eq x y ≡ false) xs n (omega arith) d.0 in
    let rest = position_of-index xs n d.1 (omega arith) in
    ap (λ b. cond b 0 (position_of xs (slice_index xs n) + 1)) differs ∙ (omega (arith, rest))

pub index-has : (xs : List ℕ) (n : ℕ) → n < length xs → has xs (slice_index xs n) ≡ true
index-has [] n h = absurd (omega arith)
index-has (x ∷ xs) zero h = ap (λ b. b || has xs x) (eq-eqb x x refl)
index-has (x ∷ xs) (suc n) h = either (eqb x (slice_index xs n)) (index-has xs n (omega arith))
  where
    either : (b : Bool) → has xs (slice_index xs n) ≡ true → (b || has xs (slice_index xs n)) ≡ true
    either true there = refl
    either false there = there

-- of two numbers that a filter leaves of numbers in a row the smaller comes first
pub position_of-filtered : (p : ℕ → Bool) (n w u v : ℕ) → has (filter p (numbers_from n w)) u ≡ true → u < v → position_of (filter p (numbers_from n w)) u < position_of (filter p (numbers_from n w)) v
position_of-filtered p zero w u v there less = absurd (false≢true there)
position_of-filtered p (suc n) w u v there less = by_test (p w) there (λ h. position_of-filtered p n (w + 1) u v h less)
  where
    rest : List ℕ
    rest = filter p (numbers_from n (w + 1))

    -- the smaller comes first among the rest
    Before : Type 0
    Before = has rest u ≡ true → position_of rest u < position_of rest v

    by_first : (b : Bool) → eqb w u ≡ b → (b || has rest u) ≡ true → Before → cond b 0 (position_of rest u + 1) < cond (eqb w v) 0 (position_of rest v + 1)
    by_first true same there again =
        let own = eqb-true w u same in let differs = ne_eqb w v (λ e. omega (arith, e)) in
        subst (λ b. 0 < cond b 0 (position_of rest v + 1)) (sym differs) (omega arith)
    by_first false differs there again =
        let low = rec_has (λ x. w + 1 ≤ x) rest u there (rec_filter (λ x. w + 1 ≤ x) p (numbers_from n (w + 1)) (rec_numbers n (w + 1) (w + 1) (omega arith))) in
        let other = ne_eqb w v (λ e. omega (arith, e)) in
        let before = again there in
        subst (λ b. position_of rest u + 1 < cond b 0 (position_of rest v + 1)) (sym other) (omega arith)

    by_test : (b : Bool) → has (cond b (w ∷ rest) rest) u ≡ true → Before → position_of (cond b (w ∷ rest) rest) u < position_of (cond b (w ∷ rest) rest) v
    by_test true there again = by_first (eqb w u) refl there again
    by_test false there again = again there
