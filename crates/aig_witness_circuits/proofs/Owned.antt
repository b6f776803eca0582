-- Own latches: those that a test keeps.
use Rattle.aig_witness_circuits.proofs.Words.{AigLatch, All, All-cons, All-filter, All-head, All-nil, All-tail, AllOwn, Bool, IsOwn, List, Sharing, [], ap, cond, false, false≢true, filter, filter_passes, get_or, is_in, is_in-back, is_in-there, map, not, own_among, refl, sym, true, ℕ, ◌∙◌, ◌∷◌, ◌≡◌}

-- what holds of what a test keeps holds of each entry that passes
pub filter_each : {X : Type 0} (test : X → Bool) (P : X → Type 0) (xs : List X) → All P (filter
    test xs)
    → All (λ x. test x ≡ true → P x) xs
filter_each test P [] all = All-nil (λ x. test x ≡ true → P x)
filter_each {X} test P (x ∷ xs) all = by (test x) refl all (filter_each test P xs)
  where
    Q : X → Type 0
    Q y = test y ≡ true → P y

    by : (b : Bool) → test x ≡ b → All P (cond b (x ∷ filter test xs) (filter test xs))
        → (All P (filter test xs) → All Q xs) → All Q (x ∷ xs)
    by true is all later =
        All-cons Q x xs (λ h. All-head P x (filter test xs) all)
        (later (All-tail P x (filter test xs) all))
    by false is all later =
        All-cons Q x xs (λ h. absurd (false≢true (sym is ∙ h))) (later all)

module _ (shared : Sharing) where
  abbrev pub is_own : AigLatch → Bool
  is_own latch = not (is_in (map (λ (p : ℕ × ℕ). p.1) shared) latch.input)

  pub owns : (latch : AigLatch) → is_own latch ≡ true → IsOwn shared latch.input
  owns latch passes has =
      false≢true
      (sym (ap not (is_in-there (map (λ (p : ℕ × ℕ). p.1) shared) latch.input has)) ∙ passes)

  pub passes : (latch : AigLatch) → IsOwn shared latch.input → is_own latch ≡ true
  passes latch own = by (is_in (map (λ (p : ℕ × ℕ). p.1) shared) latch.input) refl
    where
      by : (b : Bool) → is_in (map (λ (p : ℕ × ℕ). p.1) shared) latch.input ≡ b
          → is_own latch ≡ true
      by true is =
          absurd (own (is_in-back (map (λ (p : ℕ × ℕ). p.1) shared) latch.input is))
      by false is = ap not is

  -- what holds of each own latch, and of all of them
  pub own_each : (P : AigLatch → Type 0) (latchs : List AigLatch) → All P (own_among shared latchs)
      → AllOwn shared P latchs
  own_each P latchs all k d h own =
      filter_each is_own P latchs all k d h (passes (get_or latchs k d) own)

  pub own_all : (P : AigLatch → Type 0) (latchs : List AigLatch) → AllOwn shared P latchs
      → All P (own_among shared latchs)
  own_all P latchs each k d h =
      All-filter is_own (λ latch. IsOwn shared latch.input → P latch) latchs each k d h
      (owns (get_or (own_among shared latchs) k d) (filter_passes is_own latchs k d h))
