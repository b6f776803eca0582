-- What the leaves of a circuit that counts rounds are at each step.
use Rattle.aig_base.proofs.Words.{◌≡◌, ◌⊎◌, ℕ, zero, suc, ◌<◌, ◌≤◌, ◌&&◌, ◌||◌, Bool, true, false, cond, leb, not, List, [], ◌∷◌, length, get_or, refl, sym, ap, ◌∙◌, inl, inr, arith, and-true, and_assoc, cases_lt, le-leb, list_all, lt-leb, or-false, or_right}
use Rattle.aig_live.specs.EndedRounds.{all_below, ends, now_of, rounds}

-- value e was true in this round before step t
abbrev pub carried : ℕ → (ℕ → ℕ → Bool) → ℕ → ℕ → Bool
carried m v zero e = false
carried m v (suc t) e = now_of m v t e && not (ends m v t)

pub now_is : (m : ℕ) (v : ℕ → ℕ → Bool) (t e : ℕ) → now_of m v t e ≡ carried m v t e || v e t
now_is m v zero e = refl
now_is m v (suc t) e = refl

-- so many rounds ended by a step: before it, or the last one does at it
pub one_more : (e : Bool) (n r : ℕ)
    → leb (suc r) (cond e (suc n) n) ≡ leb (suc r) n || (e && leb r n)
one_more false n r = sym (or-false (leb (suc r) n))
one_more true n r = by (cases_lt n r)
  where
    by : (n < r) ⊎ (r ≤ n) → leb (suc r) (suc n) ≡ leb (suc r) n || leb r n
    by (inl past) =
        lt-leb (suc r) (suc n) (omega (arith, past))
        ∙ sym (ap (λ b. b || leb r n) (lt-leb (suc r) n (omega (arith, past)))
        ∙ lt-leb r n past)
    by (inr within) =
        le-leb (suc r) (suc n) (omega (arith, within))
        ∙ sym (or_right (leb (suc r) n) (leb r n) (le-leb r n within))

pub ended_more : (m : ℕ) (v : ℕ → ℕ → Bool) (t r : ℕ)
    → leb (suc r) (rounds m v (suc t))
    ≡ leb (suc r) (rounds m v t) || (ends m v t && leb r (rounds m v t))
ended_more m v t r = one_more (ends m v t) (rounds m v t) r

-- a test of all numbers below m looks at these alone
pub all_below-same : (m : ℕ) (p q : ℕ → Bool) → ((i : ℕ) → i < m → p i ≡ q i)
    → all_below m p ≡ all_below m q
all_below-same zero p q same = refl
all_below-same (suc m) p q same =
    ap (λ b. b && p m) (all_below-same m p q (λ i h. same i (omega (arith, h))))
    ∙ ap (λ b. all_below m q && b) (same m (omega arith))

-- the test of the first, and of the others
all_below-first : (m : ℕ) (q : ℕ → Bool)
    → all_below (suc m) q ≡ q 0 && all_below m (λ i. q (suc i))
all_below-first zero q = sym (and-true (q 0))
all_below-first (suc m) q =
    ap (λ b. b && q (suc m)) (all_below-first m q)
    ∙ and_assoc (q 0) (all_below m (λ i. q (suc i))) (q (suc m))

-- a test of all edges of a list is one of their numbers
pub list_all-below : {X : Type 0} (p : X → Bool) (xs : List X) (q : ℕ → Bool)
    → ((i : ℕ) (d : X) → i < length xs → p (get_or xs i d) ≡ q i)
    → list_all p xs ≡ all_below (length xs) q
list_all-below p [] q each = refl
list_all-below p (x ∷ xs) q each =
    ap (λ b. b && list_all p xs) (each 0 x (omega arith))
    ∙ ap (λ b. q 0 && b) (list_all-below p xs (λ i. q (suc i)) (λ i d h. each (suc i) d (omega
    (arith, h))))
    ∙ sym (all_below-first (length xs) q)
