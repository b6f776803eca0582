-- The names of leaves, and what stands at places.
use Rattle.aig_answers.proofs.Words.{◌≡◌, ◌≢◌, ℕ, ◌+◌, ◌<◌, ◌⊎◌, eqb, true, false, List, [], ◌∷◌, ◌++◌, length, get_or, set, take, inl, inr, refl, sym, subst, ap, ◌∙◌, arith, AllZip, slice_get-get_or, All-contains, eqb_tells, get_or-map, get_or-set_other, get_or-set_same, get_or_default, take_more, AigLatch, Circuit, IsCircuit, IsClosed, latch_leaves, kind_at-within, Place, Named, HasName, IsNamed, leaf_of}
use Rattle.std.specs.Prelude.{All, Some, ◌≤◌}
use Rattle.std.proofs.lemmas.List.{length-map}
use Rattle.aig_circuit.specs.Circuit.{IsLeaf}

module _ (c : Circuit) (names : List Named) (n : ℕ) (name : Named) (there : n < length names) (is :
    leaf_of c name.is_latch name.number ≡ Some n) where
  -- a name that is written at its leaf
  pub HasName-written : HasName c (set names n name) n
  HasName-written = subst (λ (x : Named). leaf_of c x.is_latch x.number ≡ Some n) (sym
      (get_or-set_same names n name (record { step = 0; is_latch = false; number = 0 }) there)) is

  -- leaves keep their names
  pub HasName-kept : (m : ℕ) → HasName c names m → HasName c (set names n name) m
  HasName-kept m has = by (eqb_tells m n)
    where
      by : ((eqb m n ≡ true) × (m ≡ n)) ⊎ ((eqb m n ≡ false) × (m ≢ n))
          → HasName c (set names n name) m
      by (inl same) = subst (HasName c (set names n name)) (sym same.1) HasName-written
      by (inr other) = subst (λ (x : Named). leaf_of c x.is_latch x.number ≡ Some m) (sym
          (get_or-set_other names n m name (record { step = 0; is_latch = false; number = 0 })
          other.1)) has

-- a pair more of two lists
pub AllZip-more : {A B : Type 0} (R : A → B → Type 0) (xs : List A) (ys : List B) (x : A) (y : B)
    → AllZip R xs ys → R x y → AllZip R (xs ++ x ∷ []) (ys ++ y ∷ [])
AllZip-more R [] [] x y all r = (r, tt)
AllZip-more R [] (z ∷ ys) x y all r = absurd all
AllZip-more R (z ∷ xs) [] x y all r = absurd all
AllZip-more R (z ∷ xs) (w ∷ ys) x y all r = (all.0, AllZip-more R xs ys x y all.1 r)

module _ (c : Circuit) (names : List Named) where
  -- all of these leaves have their names
  pub AreNamed : (xs : List ℕ) (count : ℕ) → length xs ≤ count
      → ((k : ℕ) → k < count → HasName c names (get_or xs k 0)) → All (HasName c names) xs
  AreNamed xs count all each k d h = subst (HasName c names) (get_or_default xs k 0 d h) (each k
      (omega (arith, h, all)))

-- the leaf of latch i
module _ (c : Circuit) (is : IsCircuit c) (latchs : List AigLatch) (same : latchs ≡ c.latchs) (i n
    : ℕ) (d : AigLatch)
    (low : i < length latchs) (leaf : n ≡ (get_or latchs i d).input) where
  there : i < length c.latchs
  there = subst (λ (ls : List AigLatch). i < length ls) same low

  at : n ≡ (get_or c.latchs i d).input
  at = leaf ∙ ap (λ (ls : List AigLatch). (get_or ls i d).input) same

  pub latch_leaf : get_or (latch_leaves c.latchs) i 0 ≡ n
  latch_leaf = get_or-map (λ (latch : AigLatch). latch.input) c.latchs i d 0 there ∙ sym at

  pub latch_named : leaf_of c true i ≡ Some n
  latch_named =
      let long : length (latch_leaves c.latchs) ≡ length c.latchs = length-map c.latchs (λ (latch :
      AigLatch). latch.input) in
      slice_get-get_or (latch_leaves c.latchs) i 0 (omega (arith, long, there)) ∙ ap (λ m. Some m)
      latch_leaf

  pub latch_within : n < length c.nodes
  latch_within = kind_at-within c.nodes n _ (subst (IsLeaf c.nodes) (sym at) (is.latchs i d
      there).leaf)

-- ---- places

module _ (c : Circuit) (closed : IsClosed c) (names : List Named) (count : length names ≡ length
    c.nodes)
    (all : All (HasName c names) (c.inputs ++ latch_leaves c.latchs)) where
  -- a place has the name of its leaf
  named_place : (p : Place) (name d : Named) → IsLeaf c.nodes p.leaf → name ≡ get_or names p.leaf d
      → IsNamed c p (record { step = p.step; is_latch = name.is_latch; number = name.number })
  named_place p name d leaf is =
      let within : p.leaf < length c.nodes = kind_at-within c.nodes p.leaf _ leaf in
      let same = is ∙ get_or_default names p.leaf d (record {
        step = 0;
        is_latch = false;
        number =
            0;
      }) (omega (arith, within, count)) in (
        refl,
        subst (λ (x : Named). leaf_of c x.is_latch x.number ≡ Some p.leaf) (sym same)
            (All-contains (HasName c names) (c.inputs ++ latch_leaves c.latchs) p.leaf all (closed
            p.leaf leaf)),
      )

  -- a place more
  pub named_more : (places : List Place) → All (λ p. IsLeaf c.nodes p.leaf) places → (i : ℕ)
      (d : Place) (old made : List Named) (name e : Named) → i < length places
      → AllZip (IsNamed c) (take i places) old
      → made ≡ old ++ record {
        step = (get_or places i d).step;
        is_latch = name.is_latch;
        number =
            name.number;
      } ∷ []
      → name ≡ get_or names (get_or places i d).leaf e
      → AllZip (IsNamed c) (take (i + 1) places) made
  named_more places leaves i d old made name e low so_far is found =
      let p = get_or places i d in
      let more = AllZip-more (IsNamed c) (take i places) old p (record {
        step = p.step;
        is_latch =
            name.is_latch;
        number = name.number;
      }) so_far (named_place p name e (leaves i d low)
      found) in
      subst (λ ps. AllZip (IsNamed c) ps made) (sym (take_more places i d low)) (subst (AllZip
      (IsNamed c) (take i places ++ p ∷ [])) (sym is) more)
