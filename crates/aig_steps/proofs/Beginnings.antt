-- Lists of which each begins the next, by rows of one length.
use Rattle.aig_base.proofs.Words.{◌≡◌, ℕ, zero, suc, ◌+◌, ◌*◌, ◌≤◌, List, [], ◌++◌, length, drop, take, sym, ap, subst, ◌∙◌, add-one, arith, append-nil, append_assoc, cases_lt, drop-take, inl, inr, length-append, suc-mul}
use Rattle.std.proofs.Math.Seq.{drop-append_seam, take-append_seam}
use Rattle.aig_runs.proofs.Rows.{next_row}
use Rattle.aig_steps.specs.Ends.{entries_at}
use Rattle.aig_steps.specs.Stepwise.{Begins}

pub begins_itself : {X : Type 0} (xs : List X) → Begins xs xs
begins_itself xs = ([], sym (append-nil xs))

pub begins_then : {X : Type 0} (xs ys zs : List X) → Begins xs ys → Begins ys zs → Begins xs zs
begins_then xs ys zs p q = (p.0 ++ q.0, q.1 ∙ ap (λ l. l ++ q.0) p.1 ∙ append_assoc xs p.0 q.0)

-- what comes behind a beginning
pub drop_begins : {X : Type 0} (xs ys : List X) (begins : Begins xs ys)
    → drop (length xs) ys ≡ begins.0
drop_begins xs ys begins = ap (drop (length xs)) begins.1 ∙ drop-append_seam xs begins.0

-- the beginning
pub take_begins : {X : Type 0} (xs ys : List X) → Begins xs ys → take (length xs) ys ≡ xs
take_begins xs ys begins = ap (take (length xs)) begins.1 ∙ take-append_seam xs begins.0

-- where each list begins the next, it begins all later ones
module _ {X : Type 0} (f : ℕ → List X) (next : (k : ℕ) → Begins (f k) (f (suc k))) where
  pub begins_all : (j k : ℕ) → j ≤ k → Begins (f j) (f k)
  begins_all j zero h = subst (λ n. Begins (f j) (f n)) (here (omega arith)) (begins_itself (f j))
    where
      here : j ≡ zero → j ≡ zero
      here e = e
  begins_all j (suc k) h = elim (cases_lt k j) [
    | inl past ↦ (let here : j ≡ suc k =
        omega arith in subst (λ n. Begins (f j) (f n)) here (begins_itself (f j)))
    | inr low ↦ begins_then (f j) (f k) (f (suc k)) (begins_all j k low) (next k)
  ]

  -- ---- rows

  module _ (before count : ℕ) (first : length (f zero) ≡ before)
      (each : (k : ℕ) → length (next k).0 ≡ count) where
    -- how long they are, where each has one row more
    pub rows_long : (t : ℕ) → length (f t) ≡ before + t * count
    rows_long zero = first ∙ omega arith
    rows_long (suc t) =
        let longer : length (f (suc t)) ≡ length (f t) + length (next t).0 =
        ap length (next t).1 ∙ length-append (f t) (next t).0 in
        omega (arith, longer, rows_long t, each t, suc-mul t count)

  -- the entries of one step, where the first list is a row too
  module _ (count : ℕ) (first : length (f zero) ≡ count)
      (each : (k : ℕ) → length (next k).0 ≡ count) where
    pub long : (t : ℕ) → length (f t) ≡ (t + 1) * count
    long t =
        let rows = rows_long count count first each t in
        let row : suc t * count ≡ t * count + count = suc-mul t count in
        let one : (t + 1) * count ≡ suc t * count = ap (λ n. n * count) (add-one t) in
        omega (arith, rows, row, one)

    pub entries_last : (t k : ℕ) → t ≤ k → entries_at count t (f k) ≡ drop (t * count) (f t)
    entries_last t k h =
        let row : t * count + count ≡ length (f t) = omega (arith, long t, next_row t count) in
        sym (drop-take (t * count) count (f k))
        ∙ ap (λ n. drop (t * count) (take n (f k))) row
        ∙ ap (drop (t * count)) (take_begins (f t) (f k) (begins_all t k h))

    pub entries_first : (k : ℕ) → entries_at count zero (f k) ≡ f zero
    entries_first k =
        let none : zero * count ≡ zero = omega arith in
        entries_last zero k (omega arith) ∙ ap (λ n. drop n (f zero)) none

    pub entries_next : (t k : ℕ) → suc t ≤ k
        → entries_at count (suc t) (f k) ≡ drop (length (f t)) (f (suc t))
    entries_next t k h =
        let same : suc t * count ≡ length (f t) =
        ap (λ n. n * count) (sym (add-one t)) ∙ sym (long t) in
        entries_last (suc t) k h ∙ ap (λ n. drop n (f (suc t))) same
