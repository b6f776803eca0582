-- A fair run comes back to a state.
use Rattle.aig_base.proofs.Words.{◌≡◌, ℕ, zero, suc, ◌+◌, ◌*◌, ◌-◌, ◌<◌, ◌≤◌, ◌^◌, ◌/◌, max, Bool, true, false, cond, List, [], ◌∷◌, length, refl, sym, subst, ◌∙◌, arith, AllByRecursion, pow-succ'}
use Rattle.aig_format.specs.File.{File, LatchLine}
use Rattle.aig_format.specs.Machine.{value_of_literal}
use Rattle.aig_live.specs.Met.{IsMet}
use Rattle.aig_edit_laws.specs.Fair.{IsFairLasso, IsFairRun, IsMetAgain}
use Rattle.aig_edit_laws.proofs.Repeats.{Repeats, repeats}

bit : Bool → ℕ
bit b = cond b 1 0

-- the number of a state
number : List LatchLine → (ℕ → Bool) → ℕ
number [] v = 0
number (l ∷ ls) v = bit (v (l.literal / 2)) + 2 * number ls v

number-below : (ls : List LatchLine) (v : ℕ → Bool) → number ls v < 2 ^ length ls
unfolding number bit
number-below [] v = omega arith
number-below (l ∷ ls) v = by (number-below ls v) (v (l.literal / 2))
  where
    by : number ls v < 2 ^ length ls → (b : Bool)
        → cond b 1 0 + 2 * number ls v < 2 ^ suc (length ls)
    by low true = omega (arith, low, pow-succ' 2 (length ls))
    by low false = omega (arith, low, pow-succ' 2 (length ls))

-- states with one number are the same
number-same : (ls : List LatchLine) (v w : ℕ → Bool) → number ls v ≡ number ls w
    → AllByRecursion (λ l. v (l.literal / 2) ≡ w (l.literal / 2)) ls
unfolding number bit
number-same [] v w e = tt
number-same (l ∷ ls) v w e = by (number-same ls v w) (v (l.literal / 2)) (w (l.literal / 2)) e
  where
    by : (number ls v ≡ number ls w
        → AllByRecursion (λ l. v (l.literal / 2) ≡ w (l.literal / 2)) ls)
        → (a b : Bool) → cond a 1 0 + 2 * number ls v ≡ cond b 1 0 + 2 * number ls w
        → (a ≡ b) × AllByRecursion (λ l. v (l.literal / 2) ≡ w (l.literal / 2)) ls
    by rest true true h = (refl, rest (omega (arith, h)))
    by rest true false h = absurd (omega (arith, h))
    by rest false true h = absurd (omega (arith, h))
    by rest false false h = (refl, rest (omega (arith, h)))

-- a state that is the same as the next one is come to as that is
Moves-same : (ls : List LatchLine) (v w x : ℕ → Bool)
    → AllByRecursion (λ l. w (l.literal / 2) ≡ x (l.literal / 2)) ls
    → AllByRecursion (λ l. x (l.literal / 2) ≡ value_of_literal v l.next) ls
    → AllByRecursion (λ l. w (l.literal / 2) ≡ value_of_literal v l.next) ls
Moves-same [] v w x same moves = tt
Moves-same (l ∷ ls) v w x same moves = (same.0 ∙ moves.0, Moves-same ls v w x same.1 moves.1)

module _ (run : ℕ → ℕ → Bool) where
  -- a step, not before t, up to which each literal was true since t
  latest : (es : List ℕ) → AllByRecursion (IsMetAgain run) es → ℕ → ℕ
  latest [] h t = t
  latest (e ∷ es) h t = max (h.0 t).0 (latest es h.1 t)

  latest-after : (es : List ℕ) (h : AllByRecursion (IsMetAgain run) es) (t : ℕ) → t ≤ latest es h t
  unfolding latest
  latest-after [] h t = omega arith
  latest-after (e ∷ es) h t = omega (arith, latest-after es h.1 t)

  -- what is met by a step is met by a later one
  met_longer : (es : List ℕ) (l m k : ℕ) → m ≤ k
      → AllByRecursion (λ e. IsMet (λ t. value_of_literal (run t) e) l m) es
      → AllByRecursion (λ e. IsMet (λ t. value_of_literal (run t) e) l k) es
  met_longer [] l m k h met = tt
  met_longer (e ∷ es) l m k h met =
      ((met.0.0, met.0.1, omega (arith, met.0.2, h), met.0.3), met_longer es l m k h met.1)

  latest-met : (es : List ℕ) (h : AllByRecursion (IsMetAgain run) es) (t : ℕ)
      → AllByRecursion (λ e. IsMet (λ s. value_of_literal (run s) e) t (latest es h t)) es
  unfolding latest
  latest-met [] h t = tt
  latest-met (e ∷ es) h t = (
    ((h.0 t).0, (h.0 t).1, omega arith, (h.0 t).2),
    met_longer es t (latest es h.1 t) (max (h.0 t).0 (latest es h.1 t)) (omega arith)
        (latest-met es h.1 t),
  )

  -- steps between any two of which each literal is true
  mark : (es : List ℕ) → AllByRecursion (IsMetAgain run) es → ℕ → ℕ
  mark es h zero = 0
  mark es h (suc i) = suc (latest es h (mark es h i))

  mark-rises : (es : List ℕ) (h : AllByRecursion (IsMetAgain run) es) (i d : ℕ)
      → latest es h (mark es h i) < mark es h (suc i + d)
  unfolding mark
  mark-rises es h i zero = let same : suc i + 0 ≡ suc i = omega arith in
      subst (λ j. latest es h (mark es h i) < mark es h j) (sym same) (omega arith)
  mark-rises es h i (suc d) =
      let same : suc i + suc d ≡ suc (suc i + d) = omega arith in
      let before = mark-rises es h i d in
      let after = latest-after es h (mark es h (suc i + d)) in
      let goal : latest es h (mark es h i) < mark es h (suc (suc i + d)) = omega
      (arith, before, after) in
      subst (λ j. latest es h (mark es h i) < mark es h j) (sym same) goal

pub IsFairLasso-found : (f : File) (literals : List ℕ) (run : ℕ → ℕ → Bool)
    → IsFairRun f literals run
    → (l : ℕ) × (k : ℕ) × IsFairLasso f literals l k run
IsFairLasso-found f literals run fair =
    let g : ℕ → ℕ = λ i. number f.latches (run (mark run literals fair.fair i)) in
    let r : Repeats g (suc (2 ^ length f.latches)) = repeats g (2 ^ length f.latches)
    (λ i h. number-below f.latches (run (mark run literals fair.fair i))) in
    let start : ℕ = mark run literals fair.fair r.i in
    let end : ℕ = mark run literals fair.fair r.j in
    let place : suc r.i + (r.j - suc r.i) ≡ r.j = omega (arith, r.order) in
    let past : latest run literals fair.fair start < end =
    subst (λ j. latest run literals fair.fair start < mark run literals fair.fair j) place
    (mark-rises run literals fair.fair r.i (r.j - suc r.i)) in
    let last : ℕ = end - 1 in
    let after : last + 1 ≡ end = omega (arith, past) in
    let low = latest-after run literals fair.fair start in (
      start,
      last,
      record {
        allowed = fair.allowed last;
        order = omega (arith, past, low);
        loops = Moves-same f.latches (run last) (run start) (run (last + 1))
            (subst (λ s. AllByRecursion (λ l. run start (l.literal / 2) ≡ run s
            (l.literal / 2)) f.latches) (sym after)
            (number-same f.latches (run start) (run end) r.same))
            ((fair.allowed (last + 1)).is_run.moves last (omega arith));
        fair = met_longer run literals start (latest run literals fair.fair start) last (omega
            (arith, past)) (latest-met run literals fair.fair start);
      },
    )
