-- Differences of a binary file are read from the front exactly.
use Rattle.aig_base.proofs.Words.{◌≡◌, ℕ, zero, suc, ◌+◌, ◌-◌, ◌*◌, ◌^◌, ◌<◌, ◌≤◌, Bool, ltb, List, [], ◌∷◌, ◌++◌, length, Some, refl, ap, subst, arith, inl, inr, ltb-true, ltb-false, lt-ltb, le-ltb, same_Some}
use Rattle.aig_format.specs.Text.{Groups, IsDelta}
use Rattle.aig_format.specs.Parse.{◌>>=◌, parse_groups, parse_delta}
use Rattle.aig_format.proofs.Entries.{chosen}
use Rattle.aig_format.proofs.NumberReaders.{bind_some}
use Rattle.aig_format.proofs.Joined.{Begins, Reads-same, Reads, Reads-tested}

abbrev pub IsShortGroups : ℕ → ℕ → List ℕ → Type 0
IsShortGroups k d bytes = Groups d bytes × (length bytes ≤ k)

groups_more : (b high : ℕ) (front : List ℕ) → 128 ≤ b → Groups high front → Groups ((b - 128) + 128 * high) (b ∷ front)
groups_more b high [] le h = absurd h
groups_more b high (c ∷ bs) le h = (high, le, omega arith, h)

groups_sound : (k : ℕ) (bytes : List ℕ) (x : ℕ × List ℕ) → parse_groups k bytes ≡ Some x → Begins (IsShortGroups k) bytes x
unfolding parse_groups
groups_sound zero bytes x h = absurd cc
groups_sound (suc k) [] x h = absurd cc
groups_sound (suc k) (b ∷ bs) x h =
    elim (chosen (ltb b 128) (Some (b, bs)) (parse_groups k bs >>= λ x. Some ((b - 128) + 128 * x.0, x.1)) (Some x) h) [
      | inl last ↦ subst (Begins (IsShortGroups (suc k)) (b ∷ bs)) (same_Some _ _ last.1) (b ∷ [], refl, ((ltb-true _ _ last.0, refl), omega arith))
      | inr more ↦
          let c = bind_some (parse_groups k bs) (λ x. Some ((b - 128) + 128 * x.0, x.1)) x more.1 in
          let s = groups_sound k bs c.0 c.1 in
          subst (Begins (IsShortGroups (suc k)) (b ∷ bs)) (same_Some _ _ c.2)
          (b ∷ s.0, ap (λ (xs : List ℕ). b ∷ xs) s.1, (groups_more b c.0.0 s.0 (ltb-false _ _ more.0) s.2.0, omega (arith, s.2.1)))
    ]

groups_complete : (front : List ℕ) (k d : ℕ) (rest : List ℕ) → IsShortGroups k d front → parse_groups k (front ++ rest) ≡ Some (d, rest)
unfolding parse_groups
groups_complete [] k d rest h = absurd h.0
groups_complete (b ∷ bs) zero d rest h = absurd (omega (arith, h.1))
groups_complete (b ∷ []) (suc k) d rest h = rw (lt-ltb _ _ h.0.0, h.0.1) refl
groups_complete (b ∷ c ∷ bs) (suc k) d rest h =
    let g = h.0 in
    let is : (b - 128) + 128 * g.0 ≡ d = let low = g.1 in let e = g.2 in omega arith in
    rw (le-ltb _ _ g.1, groups_complete (c ∷ bs) k g.0 rest (g.3, omega (arith, h.1)), is) refl

abbrev test_small : ℕ → Bool
test_small d = ltb d (2 ^ 32)

pub Reads-delta : Reads IsDelta parse_delta
Reads-delta =
    Reads-same (λ d bytes. (d < 2 ^ 32) × IsShortGroups 5 d bytes) IsDelta parse_delta
    (Reads-tested (IsShortGroups 5) (λ d. d < 2 ^ 32) (parse_groups 5) test_small (record { sound = groups_sound 5; complete = λ d front rest h. groups_complete front 5 d rest h }) (λ d. ltb-true d (2 ^ 32)) (λ d. lt-ltb d (2 ^ 32)))
    (λ d bytes h. record { groups = h.1.0; short = h.1.1; small = h.0 })
    (λ d bytes h. (h.small, (h.groups, h.short)))
