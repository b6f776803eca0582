-- The two sums say what it is to reach a bad state.
use Rattle.aig_base.proofs.Words.{◌≡◌, ◌⊎◌, ◌↔◌, ℕ, zero, suc, ◌+◌, ◌<◌, ◌≤◌, Bool, true, false, ◌&&◌, ◌||◌, IsTrue, List, [], ◌∷◌, add-one, refl, sym, ap, subst, ◌∙◌, inl, inr, arith, list_all, list_any, cases_lt, false≢true}
use Rattle.std.specs.Prelude.{All}
use Rattle.aig_circuit.specs.declared.edge.AigEdge.{AigEdge}
use Rattle.aig_circuit.proofs.Words.{Circuit, edge_value}
use Rattle.aig_bounded.specs.Steps.{reached_to, within_to}
use Rattle.aig_bounded.specs.Question.{Reaches}

-- ---- truth values

and_first : (a b : Bool) → (a && b) ≡ true → a ≡ true
and_first true b h = refl
and_first false b h = h

and_second : (a b : Bool) → (a && b) ≡ true → b ≡ true
and_second true b h = h
and_second false b h = absurd (false≢true h)

both_true : (a b : Bool) → a ≡ true → b ≡ true → (a && b) ≡ true
both_true true b p q = q
both_true false b p q = p

or_first : (a b : Bool) → a ≡ true → (a || b) ≡ true
or_first true b h = refl
or_first false b h = absurd (false≢true h)

or_second : (a b : Bool) → b ≡ true → (a || b) ≡ true
or_second true b h = refl
or_second false b h = h

all_true : (p : AigEdge → Bool) (es : List AigEdge) → list_all p es ≡ true → All (λ e. IsTrue (p e)) es
all_true p [] h k d l = absurd (omega arith)
all_true p (e ∷ es) h zero d l = and_first (p e) (list_all p es) h
all_true p (e ∷ es) h (suc k) d l = all_true p es (and_second (p e) (list_all p es) h) k d (omega arith)

true_all : (p : AigEdge → Bool) (es : List AigEdge) → All (λ e. IsTrue (p e)) es → list_all p es ≡ true
true_all p [] all = refl
true_all p (e ∷ es) all =
    both_true (p e) (list_all p es) (all 0 e (omega arith)) (true_all p es (λ k d h. all (suc k) d (omega arith)))

-- ---- the sums

module _ (c : Circuit) (run : ℕ → ℕ → Bool) where
  abbrev constrained : ℕ → Bool
  constrained s = list_all (edge_value c.nodes (run s)) c.properties.constraints

  abbrev bad : ℕ → Bool
  bad s = list_any (edge_value c.nodes (run s)) c.properties.bads

  within_all : (t : ℕ) → within_to c run t ≡ true → (s : ℕ) → s < t → constrained s ≡ true
  within_all zero h s l = absurd (omega arith)
  within_all (suc t) h s l =
      by (λ low. within_all t (and_first (within_to c run t) (constrained t) h) s low) (cases_lt s t)
    where
      by : (s < t → constrained s ≡ true) → (s < t) ⊎ (t ≤ s) → constrained s ≡ true
      by early (inl low) = early low
      by early (inr high) =
          let same : t ≡ s = omega arith in
          subst (λ u. constrained u ≡ true) same (and_second (within_to c run t) (constrained t) h)

  all_within : (t : ℕ) → ((s : ℕ) → s < t → constrained s ≡ true) → within_to c run t ≡ true
  all_within zero all = refl
  all_within (suc t) all =
      both_true (within_to c run t) (constrained t) (all_within t (λ s l. all s (omega arith))) (all t (omega arith))

  reached_forth : (n : ℕ) → reached_to c run n ≡ true
      → (t : ℕ) × (t < n) × (within_to c run (suc t) ≡ true) × (bad t ≡ true)
  reached_forth zero h = absurd (false≢true h)
  reached_forth (suc n) h = by (reached_forth n) (reached_to c run n) refl
    where
      by : (reached_to c run n ≡ true
          → (t : ℕ) × (t < n) × (within_to c run (suc t) ≡ true) × (bad t ≡ true)) → (b : Bool)
          → reached_to c run n ≡ b
          → (t : ℕ) × (t < suc n) × (within_to c run (suc t) ≡ true) × (bad t ≡ true)
      by early true is = let r = early is in (r.0, omega (arith, r.1), r.2, r.3)
      by early false is =
          let last : (within_to c run (suc n) && bad n) ≡ true = sym (ap (λ b. b || (within_to c run (suc n) && bad n)) is) ∙ h in
          (n, omega arith, and_first (within_to c run (suc n)) (bad n) last, and_second (within_to c run (suc n)) (bad n) last)

  reached_back : (n t : ℕ) → t < n → within_to c run (suc t) ≡ true → bad t ≡ true
      → reached_to c run n ≡ true
  reached_back zero t l w b = absurd (omega arith)
  reached_back (suc n) t l w b = by (λ low. reached_back n t low w b) (cases_lt t n)
    where
      by : (t < n → reached_to c run n ≡ true) → (t < n) ⊎ (n ≤ t)
          → reached_to c run (suc n) ≡ true
      by early (inl low) = or_first (reached_to c run n) (within_to c run (suc n) && bad n) (early low)
      by early (inr high) =
          let same : t ≡ n = omega arith in
          or_second (reached_to c run n) (within_to c run (suc n) && bad n)
          (both_true (within_to c run (suc n)) (bad n) (subst (λ u. within_to c run (suc u) ≡ true) same w) (subst (λ u. bad u ≡ true) same b))

  -- the second sum is true exactly where a bad state is reached
  pub reached_reaches : (k : ℕ) → IsTrue (reached_to c run (k + 1)) ↔ Reaches c k run
  reached_reaches k = (forth, back)
    where
      forth : IsTrue (reached_to c run (k + 1)) → Reaches c k run
      forth h =
          let r = reached_forth (suc k) (sym (ap (reached_to c run) (add-one k)) ∙ h) in
          record {
            step = r.0;
            within = omega (arith, r.1);
            constraints = λ s l. all_true (edge_value c.nodes (run s)) c.properties.constraints (within_all (suc r.0) r.2 s (omega arith));
            bad = r.3;
          }

      back : Reaches c k run → IsTrue (reached_to c run (k + 1))
      back r =
          let low : r.step < suc k = omega (arith, r.within) in
          ap (reached_to c run) (add-one k)
          ∙ reached_back (suc k) r.step low
          (all_within (suc r.step) (λ s l. true_all (edge_value c.nodes (run s)) c.properties.constraints (r.constraints s (omega arith))))
          r.bad
