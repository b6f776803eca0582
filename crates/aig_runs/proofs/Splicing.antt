-- A run on which a state comes twice, without the steps in between.
use Rattle.aig_base.proofs.Words.{◌≡◌, ◌⊎◌, ℕ, zero, suc, ◌+◌, ◌/◌, ◌<◌, ◌≤◌, Bool, true, false, cond, List, [], ◌∷◌, refl, sym, ap, subst, ◌∙◌, inl, inr, arith, nat_lt, IfSome, AllByRecursion, cases_lt, nat_tests}
use Rattle.aig_format.proofs.Words.{File, LatchLine, IsMachineRun, IsMachineInitial, IsStep, Moves, value_of_literal, initial_value_of}
use Rattle.aig_runs.specs.Induction.{HasDistinctStates, IsSameState}

-- ---- states

-- what each latch has after a step, it has in the same state
moves_alike : (values after other : ℕ → Bool) (ls : List LatchLine) → AllByRecursion (λ (l : LatchLine). after (l.literal / 2) ≡ other (l.literal / 2)) ls
    → AllByRecursion (λ (l : LatchLine). after (l.literal / 2) ≡ value_of_literal values l.next) ls → AllByRecursion (λ (l : LatchLine). other (l.literal / 2) ≡ value_of_literal values l.next) ls
moves_alike values after other [] same moves = tt
moves_alike values after other (l ∷ ls) same moves = (sym same.0 ∙ moves.0, moves_alike values after other ls same.1 moves.1)

starts_alike : (values other : ℕ → Bool) (ls : List LatchLine) → AllByRecursion (λ (l : LatchLine). values (l.literal / 2) ≡ other (l.literal / 2)) ls
    → AllByRecursion (λ (l : LatchLine). IfSome (initial_value_of l) (λ b. values (l.literal / 2) ≡ b)) ls → AllByRecursion (λ (l : LatchLine). IfSome (initial_value_of l) (λ b. other (l.literal / 2) ≡ b)) ls
starts_alike values other [] same start = tt
starts_alike values other (l ∷ ls) same start =
    (subst (λ v. IfSome (initial_value_of l) (λ b. v ≡ b)) same.0 start.0, starts_alike values other ls same.1 start.1)

same_bit : (a b : Bool) → (a ≡ b) ⊎ (¬ (a ≡ b))
same_bit true true = inl refl
same_bit true false = inr (λ is. cc)
same_bit false true = inr (λ is. cc)
same_bit false false = inl refl

same_on : (values other : ℕ → Bool) (ls : List LatchLine)
    → let Same = AllByRecursion (λ (l : LatchLine). values (l.literal / 2) ≡ other (l.literal / 2)) ls in Same ⊎ (¬ Same)
same_on values other [] = inl tt
same_on values other (l ∷ ls) = elim (same_bit (values (l.literal / 2)) (other (l.literal / 2))) [
  | inl same ↦ (elim (same_on values other ls) [ inl all ↦ inl (same, all) | inr not ↦ inr (λ all. not all.1) ])
  | inr not ↦ inr (λ all. not all.0)
]

-- a state that comes twice at the steps 0 to last
abbrev pub Repeats : File → ℕ → (ℕ → ℕ → Bool) → Type 0
Repeats f last run = (s : ℕ) × (t : ℕ) × (s < t) × (t ≤ last) × IsSameState f (run s) (run t)

module _ (f : File) (run : ℕ → ℕ → Bool) where
  -- the state at step t, at a step before n
  earlier : (t n : ℕ) → n ≤ t → ((s : ℕ) × (s < n) × IsSameState f (run s) (run t)) ⊎ ((s : ℕ) → s < n → ¬ IsSameState f (run s) (run t))
  earlier t zero low = inr (λ s h. absurd (omega arith))
  earlier t (suc n) low = elim (earlier t n (omega arith)) [
    | inl found ↦ (let below = found.1 in inl (found.0, omega arith, found.2))
    | inr none ↦ (elim (same_on (run n) (run t) f.latches) [
      | inl same ↦ inl (n, omega arith, same)
      | inr not ↦ inr (λ s h. elim (cases_lt s n) [ inl less ↦ none s less | inr more ↦ (let is : n ≡ s = omega arith in subst (λ m. ¬ IsSameState f (run m) (run t)) is not) ])
    ])
  ]

  -- some state comes twice, or none
  pub repeats_or_not : (last : ℕ) → Repeats f last run ⊎ HasDistinctStates f last run
  repeats_or_not zero = inr (λ s t less low. absurd (omega arith))
  repeats_or_not (suc last) = elim (repeats_or_not last) [
    | inl found ↦ (let within = found.3 in inl (found.0, found.1, found.2, omega arith, found.4))
    | inr none ↦ (elim (earlier (suc last) (suc last) (omega arith)) [
      | inl found ↦ inl (found.0, suc last, found.1, omega arith, found.2)
      | inr not ↦ inr (λ s t less low. elim (cases_lt t (suc last)) [
        | inl below ↦ none s t less (omega arith)
        | inr above ↦ (let is : suc last ≡ t = omega arith in subst (λ m. ¬ IsSameState f (run s) (run m)) is (not s (omega arith)))
      ])
    ])
  ]

-- ---- splicing

-- the run up to step s, and then from step s + gap on
abbrev pub spliced : ℕ → ℕ → (ℕ → ℕ → Bool) → ℕ → ℕ → Bool
spliced s gap run t = cond (nat_lt t s) (run t) (run (t + gap))

module _ (s gap : ℕ) (run : ℕ → ℕ → Bool) where
  pub spliced-before : (t : ℕ) → t < s → spliced s gap run t ≡ run t
  spliced-before t h = let is : nat_lt t s ≡ true = grind (arith, nat_tests) in ap (λ b. cond b (run t) (run (t + gap))) is

  pub spliced-after : (t : ℕ) → s ≤ t → spliced s gap run t ≡ run (t + gap)
  spliced-after t h = let is : nat_lt t s ≡ false = grind (arith, nat_tests) in ap (λ b. cond b (run t) (run (t + gap))) is

  -- what holds of each step of the run holds of each of these
  pub spliced_each : (P : (ℕ → Bool) → Type 0) (last : ℕ) → ((t : ℕ) → t ≤ last + gap → P (run t)) → (t : ℕ) → t ≤ last → P (spliced s gap run t)
  spliced_each P last all t low = elim (cases_lt t s) [
    | inl before ↦ subst P (sym (spliced-before t before)) (all t (omega arith))
    | inr after ↦ subst P (sym (spliced-after t after)) (all (t + gap) (omega arith))
  ]

  module _ (f : File) (last : ℕ) (is : IsMachineRun f (last + gap) run) (same : IsSameState f (run s) (run (s + gap))) where
    spliced_moves : (t : ℕ) → t < last → Moves f (spliced s gap run t) (spliced s gap run (t + 1))
    spliced_moves t h = elim (cases_lt (t + 1) s) [
      | inl before ↦
          subst (λ values. Moves f values (spliced s gap run (t + 1))) (sym (spliced-before t (omega arith)))
          (subst (λ after. Moves f (run t) after) (sym (spliced-before (t + 1) before)) (is.moves t (omega arith)))
      | inr late ↦ (elim (cases_lt t s) [
        | inl before ↦ (
            let next : t + 1 ≡ s = omega arith in
            let moved = subst (λ n. Moves f (run t) (run n)) next (is.moves t (omega arith)) in
            let jumped = moves_alike (run t) (run s) (run (s + gap)) f.latches same moved in
            subst (λ values. Moves f values (spliced s gap run (t + 1))) (sym (spliced-before t before))
            (subst (λ after. Moves f (run t) after) (sym (spliced-after (t + 1) late ∙ ap (λ n. run (n + gap)) next)) jumped))
        | inr after ↦ (
            let next : t + gap + 1 ≡ t + 1 + gap = omega arith in
            let moved = subst (λ n. Moves f (run (t + gap)) (run n)) next (is.moves (t + gap) (omega arith)) in
            subst (λ values. Moves f values (spliced s gap run (t + 1))) (sym (spliced-after t after))
            (subst (λ after. Moves f (run (t + gap)) after) (sym (spliced-after (t + 1) late)) moved))
      ])
    ]

    -- a run, from an initial state where the run is from one
    pub spliced_run : IsMachineRun f last (spliced s gap run)
    spliced_run = record { steps = spliced_each (IsStep f) last is.steps; moves = spliced_moves }

    pub spliced_start : IsMachineInitial f run → IsMachineInitial f (spliced s gap run)
    spliced_start start =
        let Starts = λ (values : ℕ → Bool). AllByRecursion (λ (l : LatchLine). IfSome (initial_value_of l) (λ b. values (l.literal / 2) ≡ b)) f.latches in
        elim (cases_lt 0 s) [
          | inl before ↦ subst Starts (sym (spliced-before 0 before)) start
          | inr after ↦ (
              let first : s ≡ 0 = omega arith in
              let again = subst (λ n. IsSameState f (run n) (run (n + gap))) first same in
              subst Starts (sym (spliced-after 0 after)) (starts_alike (run 0) (run (0 + gap)) f.latches again start))
        ]
