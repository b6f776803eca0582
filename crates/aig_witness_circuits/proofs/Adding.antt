-- Pairs that are found by names, one leaf after another.
use Rattle.aig_witness_circuits.proofs.Words.{◌≡◌, ◌≢◌, ℕ, ◌+◌, ◌<◌, ◌==◌, ◌⊎◌, ◌||◌, Bool, true, false, Option, List, [], ◌∷◌, ◌++◌, length, map, set, get_or, refl, sym, ap, subst, ◌∙◌, arith, inl, inr, All, AllPairs, Contains, All-contains, All-push, Contains-append_cases, Contains-append_left, Contains-get_or, Contains-push, Contains-push_cases, all_pairs_push, append_assoc, eq-eqb, eqb-true, false≢true, get_or_default, length-set, get_or-set_other, get_or-set_same, get_or-take, length-take, list_any-append, map-append, or-false, take_more, is_in-back, is_in-there, Contains-map, Contains-map_back, Sharing, AddsNamed, IsRefused, IsMapping, IsFor, IsNamed, Names}
use Rattle.aig_base.proofs.Words.{take}
use Rattle.aig_circuit.specs.Renumber.{is_in}
use Rattle.aig_witness_circuits.specs.declared.sharing.error.SharingError.TheVariants as errors

-- the model's leaves of pairs, and those that stand for them
abbrev firsts : Sharing → List ℕ
firsts pairs = map (λ p. p.0) pairs

abbrev seconds : Sharing → List ℕ
seconds pairs = map (λ p. p.1) pairs

abbrev AreApart : List ℕ → Type 0
AreApart ns = AllPairs (λ m n. m ≢ n) ns

-- a name for a leaf has the form
pub form_of : (node : ℕ → Option ℕ) (names : Names) (m n : ℕ) → IsNamed (IsFor node m) names n
    → IsNamed IsMapping names n
form_of node names m n is = (is.0, is.1, (is.2.0, is.2.1))

-- the first leaves are among the first and one more
more_has : (leaves : List ℕ) (i d n : ℕ) → i < length leaves → Contains (take i leaves) n
    → Contains (take (i + 1) leaves) n
more_has leaves i d n within has =
    subst (λ l. Contains l n) (sym (take_more leaves i d within))
    (Contains-append_left (take i leaves) (get_or leaves i d ∷ []) n has)

new_has : (leaves : List ℕ) (i d : ℕ) → i < length leaves
    → Contains (take (i + 1) leaves) (get_or leaves i d)
new_has leaves i d within =
    subst (λ l. Contains l (get_or leaves i d)) (sym (take_more leaves i d within))
    (Contains-push (take i leaves) (get_or leaves i d))

more_cases : (leaves : List ℕ) (i d n : ℕ) → i < length leaves → Contains (take (i + 1) leaves) n
    → Contains (take i leaves) n ⊎ (get_or leaves i d ≡ n)
more_cases leaves i d n within has =
    Contains-push_cases (take i leaves) (get_or leaves i d) n
    (subst (λ l. Contains l n) (take_more leaves i d within) has)

-- a later leaf isn't among the first
later_is_new : (leaves : List ℕ) (i d : ℕ) → i < length leaves → AreApart leaves
    → ¬ Contains (take i leaves) (get_or leaves i d)
later_is_new leaves i d within apart has =
    let n = get_or leaves i d in
    let k = has.0 in
    let low : k < i = omega (arith, has.1, length-take i leaves) in
    let high : k < length leaves = omega arith in
    let at : get_or leaves k n ≡ n = sym (get_or-take i leaves k n low) ∙ has.2 in
    let same : get_or leaves i n ≡ n = get_or_default leaves i n d within in
    apart k i n low within (at ∙ sym same)

module _ (node : ℕ → Option ℕ) (names : Names) (leaves : List ℕ) (P : ℕ → Type 0)
    (before : Sharing) where
  module _ (after : Sharing) (marks : List Bool) (i d : ℕ) (within : i < length leaves)
      (so_far : AddsNamed node names (take i leaves) P before after marks) where
    abbrev leaf : ℕ
    leaf = get_or leaves i d

    old_each : All
        (λ p. IsNamed (IsFor node p.0) names p.1 × P p.0 × Contains (take (i + 1) leaves) p.1)
        so_far.added
    old_each k e h =
        let p = so_far.named.each k e h in
        (p.0, p.1, more_has leaves i d (get_or so_far.added k e).1 within p.2)

    -- a leaf whose name hasn't the form
    pub adds_skip : ¬ IsNamed IsMapping names leaf
        → AddsNamed node names (take (i + 1) leaves) P before after marks
    adds_skip none = record {
      added = so_far.added;
      pairs = so_far.pairs;
      named = record {
        each = old_each;
        all = λ n has form. elim (more_cases leaves i d n within has) [
          | inl old ↦ so_far.named.all n old form
          | inr same ↦ absurd (none (subst (IsNamed IsMapping names) (sym same) form))
        ];
      };
      taken = so_far.taken;
      once = so_far.once;
      sharing = so_far.sharing;
    }

    -- a leaf in none of the pairs so far
    fresh : AreApart leaves → (¬ Contains (seconds before) leaf) → ¬ Contains (seconds after) leaf
    fresh apart not has =
        let found = Contains-map_back (λ (p : ℕ × ℕ). p.1) after leaf has in
        let cases = Contains-append_cases before so_far.added found.0
        (subst (λ l. Contains l found.0) so_far.pairs found.1) in
        elim cases [
          | inl old ↦
              not (subst (Contains (seconds before)) found.2
              (Contains-map (λ (p : ℕ × ℕ). p.1) before found.0 old))
          | inr new ↦
              later_is_new leaves i d within apart
              (subst (Contains (take i leaves)) found.2
              (All-contains
              (λ (p : ℕ × ℕ). IsNamed (IsFor node p.0) names p.1 × P p.0
              × Contains (take i leaves) p.1)
              so_far.added found.0 so_far.named.each new).2)
        ]

    -- one pair more
    pub adds_pair : (m : ℕ) → AreApart leaves → (¬ Contains (seconds before) leaf)
        → IsNamed (IsFor node m) names leaf → P m → m < length marks → get_or marks m false ≡ false
        → AddsNamed node names (take (i + 1) leaves) P before (after ++ (m, leaf) ∷ [])
        (set marks m true)
    adds_pair m apart not is holds inside free = record {
      added = so_far.added ++ (m, leaf) ∷ [];
      pairs =
          ap (λ l. l ++ (m, leaf) ∷ []) so_far.pairs
          ∙ append_assoc before so_far.added ((m, leaf) ∷ []);
      named = record {
        each = All-push
            (λ p. IsNamed (IsFor node p.0) names p.1 × P p.0 × Contains (take (i + 1) leaves) p.1)
            so_far.added (m, leaf) old_each (is, holds, new_has leaves i d within);
        all = λ n has form.
            subst (λ l. Contains l n) (sym (map-append (λ (p : ℕ × ℕ). p.1) so_far.added ((m, leaf)
            ∷ [])))
            (elim (more_cases leaves i d n within has) [
              | inl old ↦
                  Contains-append_left (seconds so_far.added) (leaf ∷ []) n
                  (so_far.named.all n old form)
              | inr same ↦
                  subst (Contains (seconds so_far.added ++ leaf ∷ [])) same
                  (Contains-push (seconds so_far.added) leaf)
            ]);
      };
      taken = λ n h.
          let low : n < length marks = omega (arith, h, length-set marks m true) in
          now_taken n low
          ∙ ap (λ l. is_in l n) (sym (map-append (λ (p : ℕ × ℕ). p.0) after ((m, leaf) ∷ [])));
      once =
          subst AreApart (sym (map-append (λ (p : ℕ × ℕ). p.0) after ((m, leaf) ∷ [])))
          (all_pairs_push (λ a b. a ≢ b) (firsts after) m so_far.once
          (λ k e h same. free_first (subst (Contains (firsts after)) same (Contains-get_or (firsts
          after) k e h))));
      sharing =
          subst AreApart (sym (map-append (λ (p : ℕ × ℕ). p.1) after ((m, leaf) ∷ [])))
          (all_pairs_push (λ a b. a ≢ b) (seconds after) leaf so_far.sharing
          (λ k e h same. fresh apart not (subst (Contains (seconds after)) same (Contains-get_or
          (seconds after) k e h))));
    }
      where
        free_first : ¬ Contains (firsts after) m
        free_first has =
            false≢true (sym free ∙ so_far.taken m inside ∙ is_in-there (firsts after) m has)

        now_taken : (n : ℕ) → n < length marks
            → get_or (set marks m true) n false ≡ is_in (firsts after ++ m ∷ []) n
        now_taken n h = by (m == n) refl
          where
            by : (b : Bool) → (m == n) ≡ b
                → get_or (set marks m true) n false ≡ is_in (firsts after ++ m ∷ []) n
            by true same =
                let at : m ≡ n = eqb-true m n same in
                subst (λ k. get_or (set marks m true) k false ≡ true) at
                (get_or-set_same marks m true false inside)
                ∙ sym (is_in-there (firsts after ++ m ∷ []) n
                (subst (Contains (firsts after ++ m ∷ [])) at (Contains-push (firsts after) m)))
            by false differs =
                get_or-set_other marks m n true false (λ same. false≢true (sym differs ∙ eq-eqb m n
                (sym same)))
                ∙ so_far.taken n h
                ∙ sym (list_any-append (λ k. k == n) (firsts after) (m ∷ [])
                ∙ ap (λ b. is_in (firsts after) n || (b || false)) differs
                ∙ or-false (is_in (firsts after) n))

    -- a leaf of the model that is taken
    pub twice : (m : ℕ) → AreApart leaves → (¬ Contains (seconds before) leaf)
        → All (λ p. IsNamed (IsFor node p.0) names p.1) before → IsNamed (IsFor node m) names leaf
        → m < length marks → get_or marks m false ≡ true
        → IsRefused node names leaves P before (errors.Twice leaf)
    twice m apart not named is inside full =
        let has = is_in-back (firsts after) m (sym (so_far.taken m inside) ∙ full) in
        let found = Contains-map_back (λ (p : ℕ × ℕ). p.0) after m has in
        let cases = Contains-append_cases before so_far.added found.0
        (subst (λ l. Contains l found.0) so_far.pairs found.1) in
        let here = Contains-get_or leaves i d within in (
          here,
          elim cases [
            | inl old ↦ (
              m,
              found.0.1,
              is,
              subst (λ k. IsNamed (IsFor node k) names found.0.1) found.2
                  (All-contains (λ (p : ℕ × ℕ). IsNamed (IsFor node p.0) names p.1) before found.0
                  named old),
              λ same. not (subst (Contains (seconds before)) same
                  (Contains-map (λ (p : ℕ × ℕ). p.1) before found.0 old)),
              inl (Contains-map (λ (p : ℕ × ℕ). p.1) before found.0 old),
            )
            | inr new ↦ (
                let each = All-contains
                (λ (p : ℕ × ℕ). IsNamed (IsFor node p.0) names p.1 × P p.0
                × Contains (take i leaves) p.1)
                so_far.added found.0 so_far.named.each new in (
                  m,
                  found.0.1,
                  is,
                  subst (λ k. IsNamed (IsFor node k) names found.0.1) found.2 each.0,
                  λ same. later_is_new leaves i d within apart
                      (subst (Contains (take i leaves)) same each.2),
                  inr (taken_has leaves i found.0.1 each.2),
                ))
          ],
        )
      where
        taken_has : (ns : List ℕ) (j n : ℕ) → Contains (take j ns) n → Contains ns n
        taken_has ns j n has =
            let low : has.0 < j = omega (arith, has.1, length-take j ns) in
            let high : has.0 < length ns = omega (arith, has.1, length-take j ns) in
            (has.0, high, sym (get_or-take j ns has.0 n low) ∙ has.2)
