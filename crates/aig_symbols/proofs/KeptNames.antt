-- The names that are kept, and the places that are taken, name by name.
use Rattle.std.proofs.Common.{◌≡◌, ◌≢◌, ℕ, ◌+◌, ◌<◌, ◌⊎◌, inl, inr, Bool, true, false, ◌&&◌, ◌||◌, cond, eqb, List, [], ◌∷◌, ◌++◌, length, get_or, AllPairs, Option, Some, None, nat_cmp, nat_eq, refl, sym, ap, subst, ◌∙◌, append-nil, arith}
use Rattle.aig_base.proofs.Words.{is_some, option_map, filter_map, slice_index, AllByRecursion, cons_option, nat_cmp_total, eqb-true, ne_eqb, or_parts, nat_tests, filter_map-append, list_any-append}
use Rattle.std.specs.declared.cmp.Ordering.{Ordering}
use Rattle.std.specs.Ordering.{is_eq, ordering_then}
use Rattle.std.specs.Cmp.{both_tied}
use Rattle.std.specs.FinMap.{find, from_entries, from_entries_push, nat_cmp-IsAntisymmetric}
use Rattle.std.proofs.lemmas.List.{length-append, get_or_append_left, get_or-append-add}
use Rattle.aig_base.proofs.Mapping.{same_test}
use Rattle.aig_format.proofs.Words.{NameLine, HeaderNumbers, same_place, count_of, is_kept}
use Rattle.aig_symbols.specs.Names.{kept_name, kept_names, node_at}
use Rattle.aig_symbols.specs.NameSteps.{with_name}
use Rattle.aig_symbols.proofs.NameLines.{name_line, is_taken}

-- ---- places

-- whether two places are one
abbrev pub same_spot : ℕ × ℕ → ℕ × ℕ → Bool
same_spot a b = nat_eq a.0 b.0 && nat_eq a.1 b.1

-- their order, by the letter and then by the position, has one place for both
abbrev pub spot_cmp : ℕ × ℕ → ℕ × ℕ → Ordering
spot_cmp a b = ordering_then (nat_cmp a.0 b.0) (nat_cmp a.1 b.1)

pub equal_spots : (a b : ℕ × ℕ) → is_eq (spot_cmp a b) ≡ same_spot a b
equal_spots a b =
    sym (both_tied (nat_eq a.0 b.0) (nat_eq a.1 b.1) (nat_cmp a.0 b.0) (nat_cmp a.1 b.1) (sym (same_test a.0 b.0)) (sym (same_test a.1 b.1)))

or_last : (x y : Bool) → cond x true y ≡ (y || (x || false))
or_last true true = refl
or_last true false = refl
or_last false true = refl
or_last false false = refl

-- one more place is taken
pub taken_more : (names : List NameLine) (place q : ℕ × ℕ) (name : List ℕ)
    → cond (same_spot place q) true (is_taken names q)
    ≡ is_taken (names ++ name_line place name ∷ []) q
taken_more names place q name =
    or_last (same_spot place q) (is_taken names q) ∙ sym (list_any-append (λ m. same_place m (name_line q [])) names (name_line place name ∷ []))

-- ---- positions

-- the name stands within its section
abbrev pub IsWithin : HeaderNumbers → NameLine → Type 0
IsWithin ns n = n.position < count_of ns n.letter

pub within_more : (ns : HeaderNumbers) (names : List NameLine) (n : NameLine)
    → AllByRecursion (IsWithin ns) names → IsWithin ns n
    → AllByRecursion (IsWithin ns) (names ++ n ∷ [])
within_more ns [] n h k = (k, tt)
within_more ns (m ∷ names) n h k = (h.0, within_more ns names n h.1 k)

-- ---- nodes

-- only names of inputs and latches have nodes
pub node_is_kept : (inputs leaves : List ℕ) (l n : ℕ)
    → is_some (node_at inputs leaves l n) ≡ is_kept l
node_is_kept inputs leaves l n = go (eqb l 105) (eqb l 108)
  where
    go : (i j : Bool)
        → is_some (cond i (Some (slice_index inputs n)) (cond j (Some (slice_index leaves n)) None))
        ≡ (i || j)
    go true j = refl
    go false true = refl
    go false false = refl

abbrev entry : List ℕ → ℕ → ℕ × List ℕ
entry name node = (node, name)

module _ (ns : HeaderNumbers) (inputs leaves : List ℕ) (all_inputs : length inputs ≡ ns.inputs) (all_leaves : length leaves ≡ ns.latches) (distinct : AllPairs (λ m n. m ≢ n) (inputs ++ leaves)) where
  -- where the node of a place stands among all nodes of inputs and latches
  record Stands (l n node : ℕ) : Type 0 where
    at : ℕ
    inside : at < length (inputs ++ leaves)
    is : get_or (inputs ++ leaves) at 0 ≡ node
    place : ((l ≡ 105) × (at ≡ n) × (n < length inputs)) ⊎ ((l ≡ 108) × (at ≡ length inputs + n))

  stands : (l n node : ℕ) → node_at inputs leaves l n ≡ Some node → n < count_of ns l
      → Stands l n node
  stands l n node e lt = go (eqb l 105) (eqb l 108) refl refl e
    where
      within : (m : ℕ) → l ≡ m → n < count_of ns m
      within m is = subst (λ k. n < count_of ns k) is lt

      go : (i j : Bool) → eqb l 105 ≡ i → eqb l 108 ≡ j
          → cond i (Some (slice_index inputs n)) (cond j (Some (slice_index leaves n)) None)
          ≡ Some node → Stands l n node
      go true j is _ e =
          let small : n < ns.inputs = within 105 (eqb-true l 105 is) in
          let inside : n < length inputs = omega arith in
          record {
            at = n;
            inside = omega (arith, length-append inputs leaves);
            is = get_or_append_left inputs leaves 0 n inside ∙ cc;
            place = inl (eqb-true l 105 is, refl, inside);
          }
      go false true _ is e =
          let small : n < ns.latches = within 108 (eqb-true l 108 is) in
          record {
            at = length inputs + n;
            inside = omega (arith, length-append inputs leaves);
            is = get_or-append-add inputs leaves n 0 ∙ cc;
            place = inr (eqb-true l 108 is, refl);
          }
      go false false _ _ e = absurd cc

  one_place : (l m i j s t : ℕ) → ((l ≡ 105) × (s ≡ i) × (i < length inputs)) ⊎ ((l ≡ 108) × (s ≡ length inputs + i)) → ((m ≡ 105) × (t ≡ j) × (j < length inputs)) ⊎ ((m ≡ 108) × (t ≡ length inputs + j)) → s ≡ t
      → (l ≡ m) × (i ≡ j)
  one_place l m i j s t (inl p) (inl q) e = (omega arith, omega arith)
  one_place l m i j s t (inl p) (inr q) e = absurd (omega arith)
  one_place l m i j s t (inr p) (inl q) e = absurd (omega arith)
  one_place l m i j s t (inr p) (inr q) e = (omega arith, omega arith)

  differ : (s t : ℕ) → s < length (inputs ++ leaves) → t < length (inputs ++ leaves)
      → get_or (inputs ++ leaves) s 0 ≡ get_or (inputs ++ leaves) t 0 → (s ≡ t → ⊥) → ⊥
  differ s t a b e ne = elim (apart s t ne) [ inl lt ↦ distinct s t 0 lt b e | inr gt ↦ distinct t s 0 gt a (sym e) ]
    where
      apart : (s t : ℕ) → (s ≡ t → ⊥) → (s < t) ⊎ (t < s)
      apart s t ne = grind arith

  same_place_true : (l m i j : ℕ) (name other : List ℕ) → (l ≡ m) × (i ≡ j)
      → same_place (name_line (l, i) name) (name_line (m, j) other) ≡ true
  same_place_true l m i j name other e = grind (arith, nat_tests)

  -- different places have different nodes
  nodes_apart : (l m i j a b : ℕ) → node_at inputs leaves l i ≡ Some a
      → node_at inputs leaves m j ≡ Some b → i < count_of ns l → j < count_of ns m
      → same_place (name_line (l, i) []) (name_line (m, j) []) ≡ false → b ≡ a → ⊥
  nodes_apart l m i j a b e f lt gt ne same =
      let s = stands l i a e lt in
      let t = stands m j b f gt in
      differ s.at t.at s.inside t.inside (s.is ∙ sym same ∙ sym t.is) (λ k. let yes = same_place_true l m i j [] [] (one_place l m i j s.at t.at s.place t.place k) in absurd cc)

  no_entry : (node : ℕ) (o : Option ℕ) (name : List ℕ) (es : List (ℕ × List ℕ))
      → ((k : ℕ) → o ≡ Some k → node ≡ k → ⊥) → find nat_cmp node es ≡ None
      → find nat_cmp node (cons_option (option_map (entry name) o) es) ≡ None
  no_entry node None name es ne h = h
  no_entry node (Some k) name es ne h = ap (λ t. cond t (Some name) (find nat_cmp node es)) (same_test node k ∙ ne_eqb node k (ne k refl)) ∙ h

  -- a node whose place is not taken has no name yet
  fresh : (names : List NameLine) (l n node : ℕ) → AllByRecursion (IsWithin ns) names
      → node_at inputs leaves l n ≡ Some node → n < count_of ns l → is_taken names (l, n) ≡ false
      → find nat_cmp node (filter_map (kept_name inputs leaves) names) ≡ None
  fresh [] l n node all e lt free = refl
  fresh (m ∷ names) l n node all e lt free =
      let parts = or_parts (same_place m (name_line (l, n) [])) (is_taken names (l, n)) free in
      no_entry node (node_at inputs leaves m.letter m.position) m.name (filter_map (kept_name inputs leaves) names)
      (λ k f. nodes_apart m.letter l m.position n k node f e all.0 lt parts.0)
      (fresh names l n node all.1 e lt parts.1)

  pushed : (o : Option ℕ) (name : List ℕ) (es : List (ℕ × List ℕ)) → ((k : ℕ) → o ≡ Some k → find nat_cmp k es ≡ None)
      → with_name o name (from_entries {R = nat_cmp} es) ≡ from_entries (es ++ cons_option (option_map (entry name) o) [])
  pushed None name es h = ap (λ (fs : List (ℕ × List ℕ)). from_entries {R = nat_cmp} fs) (sym (append-nil es))
  pushed (Some k) name es h = sym (from_entries_push nat_cmp_total nat_cmp-IsAntisymmetric es k name (h k refl))

  -- one more name
  pub kept_more : (names : List NameLine) (l n : ℕ) (name : List ℕ) → AllByRecursion (IsWithin ns) names → n < count_of ns l → is_taken names (l, n) ≡ false
      → with_name (node_at inputs leaves l n) name (kept_names inputs leaves names) ≡ kept_names inputs leaves (names ++ name_line (l, n) name ∷ [])
  kept_more names l n name all lt free =
      let es = filter_map (kept_name inputs leaves) names in
      pushed (node_at inputs leaves l n) name es (λ k e. fresh names l n k all e lt free)
      ∙ ap (λ (fs : List (ℕ × List ℕ)). from_entries {R = nat_cmp} fs) (sym (filter_map-append (kept_name inputs leaves) names (name_line (l, n) name ∷ [])))
