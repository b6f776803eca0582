-- What is saved, and what is seen since.
use Rattle.std.proofs.Common.{◌≡◌, ◌⊎◌, ℕ, zero, suc, ◌<◌, ◌≤◌, ◌&&◌, ◌||◌, Bool, true, false, cond, refl, sym, ap, subst, ◌∙◌, inl, inr, arith, IsTrue}
use Rattle.std.proofs.lemmas.Bool.{and_parts, and_from, cases_lt, or_cases, or_parts, or_right, true≢false, false≢true}
use Rattle.aig_live.specs.Met.{IsMet}
use Rattle.aig_live.specs.Saving.{IsSince, copied, is_active, is_saved, seen, seen_before, start_value}

pub bool_cases : (b : Bool) → (b ≡ true) ⊎ (b ≡ false)
bool_cases true = inl refl
bool_cases false = inr refl

or_left : (a b : Bool) → a ≡ true → (a || b) ≡ true
or_left true b e = refl
or_left false b e = absurd (false≢true e)

or_none : (a b : Bool) → a ≡ false → b ≡ false → (a || b) ≡ false
or_none true b e h = e
or_none false b e h = h

and_left : (a b : Bool) → a ≡ false → (a && b) ≡ false
and_left true b e = absurd (true≢false e)
and_left false b e = refl

-- nothing is seen before the save
unseen : (save x : ℕ → Bool) (t : ℕ) → is_saved save t ≡ false → seen_before save x t ≡ false
unseen save x zero e = refl
unseen save x (suc t) e =
    let parts = or_parts (is_saved save t) (save t) e in
    or_none (seen_before save x t) (is_active save t && x t) (unseen save x t parts.0)
    (and_left (is_active save t) (x t) e)

start_unsaved : (save x : ℕ → Bool) (t : ℕ) → is_saved save t ≡ false → start_value save x t ≡ x t
start_unsaved save x t e = ap (λ b. cond b (copied save x t) (x t)) e

start_saved : (save x : ℕ → Bool) (t : ℕ) → is_saved save t ≡ true
    → start_value save x t ≡ copied save x t
start_saved save x t e = ap (λ b. cond b (copied save x t) (x t)) e

module _ (save : ℕ → Bool) (t : ℕ) where
  -- the save is at this step
  now : is_saved save t ≡ false → save t ≡ true → IsSince save t t
  now none here = record {
    saved = here;
    order = omega arith;
    start = λ x. start_unsaved save x t none;
    met = λ x. (forth x, back x);
  }
    where
      active : is_active save t ≡ true
      active = or_right (is_saved save t) (save t) here

      forth : (x : ℕ → Bool) → IsTrue (seen save x t) → IsMet x t t
      forth x h = by (or_cases (seen_before save x t) (is_active save t && x t) h)
        where
          by : (seen_before save x t ≡ true) ⊎ ((is_active save t && x t) ≡ true) → IsMet x t t
          by (inl before) = absurd (true≢false (sym before ∙ unseen save x t none))
          by (inr at) = (t, omega arith, omega arith, (and_parts (is_active save t) (x t) at).1)

      back : (x : ℕ → Bool) → IsMet x t t → IsTrue (seen save x t)
      back x h =
          let same : h.0 ≡ t = omega (arith, h.1, h.2) in
          or_right (seen_before save x t) (is_active save t && x t)
          (and_from (is_active save t) (x t) active (subst (λ s. x s ≡ true) same h.3))

  -- the save was at an earlier step
  later : (l : ℕ) → is_active save t ≡ true → IsSince save l t → IsSince save l (suc t)
  later l active since = record {
    saved = since.saved;
    order = omega (arith, since.order);
    start = λ x. start_saved save x (suc t) active ∙ since.start x;
    met = λ x. (forth x, back x);
  }
    where
      active_next : is_active save (suc t) ≡ true
      active_next = or_left (is_saved save (suc t)) (save (suc t)) active

      forth : (x : ℕ → Bool) → IsTrue (seen save x (suc t)) → IsMet x l (suc t)
      forth x h = by (or_cases (seen_before save x (suc t)) (is_active save (suc t) && x (suc t)) h)
        where
          by : (seen_before save x (suc t) ≡ true) ⊎ ((is_active save (suc t) && x (suc t)) ≡ true)
              → IsMet x l (suc t)
          by (inl before) =
              let m = (since.met x).0 before in
              (m.0, m.1, omega (arith, m.2), m.3)
          by (inr at) = (
            suc t,
            omega (arith, since.order),
            omega arith,
            (and_parts (is_active save (suc t)) (x (suc t)) at).1,
          )

      back : (x : ℕ → Bool) → IsMet x l (suc t) → IsTrue (seen save x (suc t))
      back x h = by (cases_lt h.0 (suc t))
        where
          by : (h.0 < suc t) ⊎ (suc t ≤ h.0) → IsTrue (seen save x (suc t))
          by (inl low) =
              or_left (seen_before save x (suc t)) (is_active save (suc t) && x (suc t))
              ((since.met x).1 (h.0, h.1, omega (arith, low), h.3))
          by (inr high) =
              let same : h.0 ≡ suc t = omega (arith, h.2, high) in
              or_right (seen_before save x (suc t)) (is_active save (suc t) && x (suc t))
              (and_from (is_active save (suc t)) (x (suc t)) active_next
              (subst (λ s. x s ≡ true) same h.3))

-- where a save was or is, it was at some step
pub since : (save : ℕ → Bool) (t : ℕ) → IsTrue (is_active save t) → (l : ℕ) × IsSince save l t
since save zero h = (0, now save 0 refl h)
since save (suc t) h = by (since save t) (bool_cases (is_active save t))
  where
    here : is_active save t ≡ false → save (suc t) ≡ true
    here e = subst (λ b. (b || save (suc t)) ≡ true) e h

    by : (IsTrue (is_active save t) → (l : ℕ) × IsSince save l t)
        → (is_active save t ≡ true) ⊎ (is_active save t ≡ false) → (l : ℕ) × IsSince save l (suc t)
    by was (inl active) = let before = was active in
        (before.0, later save t before.0 active before.1)
    by was (inr none) = (suc t, now save (suc t) none (here none))
