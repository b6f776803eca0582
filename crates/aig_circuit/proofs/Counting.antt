-- Leaves are counted: inputs and latches have them all exactly if there are as many of them as leaves.
use Rattle.aig_base.proofs.Words.{◌≡◌, ◌≢◌, ℕ, zero, suc, ◌+◌, ◌<◌, ◌≤◌, Bool, true, false, cond, eqb, ◌||◌, Some, List, [], ◌∷◌, ◌++◌, length, refl, sym, ap, subst, ◌∙◌, arith, inl, inr, ◌⊎◌, Contains, count_by, filter, is_member, eqb-true, eq-eqb, ne_eqb, false≢true, or_parts, Decides-eqb, same_Some, All-contains, Contains-append_left, Contains-append_right, length-filter, length-le_from_is_member, is_member-Decides, IsDistinct-from_AllPairs}
use Rattle.std.specs.List.{AllByRecursion, IsDistinct}
use Rattle.std.proofs.Math.Bool.{or-true}
use Rattle.std.specs.Cmp.{nat_eq_equiv}
use Rattle.aig_circuit.specs.declared.node.AigNode.{AigNode}
use Rattle.aig_circuit.specs.declared.node.AigNodeType.{AigNodeType}
use Rattle.aig_circuit.specs.declared.node.AigNodeType.TheVariants.{False, Leaf, And}
use Rattle.aig_circuit.specs.declared.node.AigLatch.{AigLatch}
use Rattle.aig_circuit.specs.Circuit.{AreLeaves, HasFreeLeaf, IsLeaf, latch_leaves}
use Rattle.aig_circuit.proofs.Words.{is_leaf}

-- the places of the leaves, the first node's place being v
abbrev leaves_from : ℕ → List AigNode → List ℕ
leaves_from v [] = []
leaves_from v (x ∷ xs) = cond (is_leaf x.typ) (v ∷ leaves_from (suc v) xs) (leaves_from (suc v) xs)

length-leaves_filter : (v : ℕ) (nodes : List AigNode) → length (leaves_from v nodes) ≡ length (filter (λ node. is_leaf node.typ) nodes)
length-leaves_filter v [] = refl
length-leaves_filter v (x ∷ xs) = by_kind (is_leaf x.typ) (length-leaves_filter (suc v) xs)
  where
    kept : List AigNode
    kept = filter (λ node. is_leaf node.typ) xs

    by_kind : (b : Bool) → length (leaves_from (suc v) xs) ≡ length kept → length (cond b (v ∷ leaves_from (suc v) xs) (leaves_from (suc v) xs)) ≡ length (cond b (x ∷ kept) kept)
    by_kind true rest = ap suc rest
    by_kind false rest = rest

length-leaves_from : (v : ℕ) (nodes : List AigNode) → length (leaves_from v nodes) ≡ count_by (λ node. is_leaf node.typ) nodes
length-leaves_from v nodes = length-leaves_filter v nodes ∙ length-filter (λ node. is_leaf node.typ) nodes

-- what passes for a leaf is one
pub is_leaf-Leaf : (k : AigNodeType) → is_leaf k ≡ true → k ≡ Leaf
is_leaf-Leaf Leaf h = refl
is_leaf-Leaf False h = absurd (false≢true h)
is_leaf-Leaf (And a b) h = absurd (false≢true h)

-- each such place is a leaf's
leaves_from-sound : (v : ℕ) (nodes : List AigNode) (q : ℕ) → is_member eqb (leaves_from v nodes) q ≡ true → (n : ℕ) × (q ≡ v + n) × IsLeaf nodes n
leaves_from-sound v [] q h = absurd (false≢true h)
leaves_from-sound v (x ∷ xs) q h = by_kind (is_leaf x.typ) refl h (leaves_from-sound (suc v) xs q)
  where
    Found : Type 0
    Found = (n : ℕ) × (q ≡ v + n) × IsLeaf (x ∷ xs) n

    further : (m : ℕ) × (q ≡ suc v + m) × IsLeaf xs m → Found
    further r = (suc r.0, omega (arith, r.1), r.2)

    here : (b : Bool) → eqb q v ≡ b → is_leaf x.typ ≡ true → (b || is_member eqb (leaves_from (suc v) xs) q) ≡ true → (is_member eqb (leaves_from (suc v) xs) q ≡ true → (m : ℕ) × (q ≡ suc v + m) × IsLeaf xs m) → Found
    here true e leaf some rest = let same : q ≡ v = eqb-true q v e in (zero, omega arith, ap Some (is_leaf-Leaf x.typ leaf))
    here false e leaf some rest = further (rest some)

    by_kind : (b : Bool) → is_leaf x.typ ≡ b → is_member eqb (cond b (v ∷ leaves_from (suc v) xs) (leaves_from (suc v) xs)) q ≡ true
        → (is_member eqb (leaves_from (suc v) xs) q ≡ true → (m : ℕ) × (q ≡ suc v + m) × IsLeaf xs m) → Found
    by_kind true is some rest = here (eqb q v) refl is some rest
    by_kind false is some rest = further (rest some)

-- and each leaf's place is one of them
leaves_from-complete : (v : ℕ) (nodes : List AigNode) (n : ℕ) → IsLeaf nodes n → is_member eqb (leaves_from v nodes) (v + n) ≡ true
leaves_from-complete v [] n h = cc
leaves_from-complete v (x ∷ xs) zero h =
    let leaf : is_leaf x.typ ≡ true = ap is_leaf (same_Some _ _ h) in
    let here : eqb (v + zero) v ≡ true = eq-eqb (v + zero) v (omega arith) in
    rw (leaf, here) refl
leaves_from-complete v (x ∷ xs) (suc n) h = by_kind (is_leaf x.typ) (leaves_from-complete (suc v) xs n h)
  where
    at : is_member eqb (leaves_from (suc v) xs) (suc v + n) ≡ true → is_member eqb (leaves_from (suc v) xs) (v + suc n) ≡ true
    at h = let e : suc v + n ≡ v + suc n = omega arith in subst (λ m. is_member eqb (leaves_from (suc v) xs) m ≡ true) e h

    by_kind : (b : Bool) → is_member eqb (leaves_from (suc v) xs) (suc v + n) ≡ true → is_member eqb (cond b (v ∷ leaves_from (suc v) xs) (leaves_from (suc v) xs)) (v + suc n) ≡ true
    by_kind true rest = let no : eqb (v + suc n) v ≡ false = ne_eqb (v + suc n) v (λ e. absurd (omega arith)) in rw no (at rest)
    by_kind false rest = at rest

above : (v w : ℕ) (nodes : List AigNode) → v < w → AllByRecursion (λ y. eqb v y ≡ false) (leaves_from w nodes)
above v w [] h = tt
above v w (x ∷ xs) h = by_kind (is_leaf x.typ) (above v (suc w) xs (omega arith))
  where
    by_kind : (b : Bool) → AllByRecursion (λ y. eqb v y ≡ false) (leaves_from (suc w) xs) → AllByRecursion (λ y. eqb v y ≡ false) (cond b (w ∷ leaves_from (suc w) xs) (leaves_from (suc w) xs))
    by_kind true rest = (ne_eqb v w (λ e. absurd (omega arith)), rest)
    by_kind false rest = rest

leaves_from-distinct : (v : ℕ) (nodes : List AigNode) → IsDistinct eqb (leaves_from v nodes)
unfolding IsDistinct
leaves_from-distinct v [] = tt
leaves_from-distinct v (x ∷ xs) = by_kind (is_leaf x.typ) (leaves_from-distinct (suc v) xs)
  where
    by_kind : (b : Bool) → IsDistinct eqb (leaves_from (suc v) xs) → IsDistinct eqb (cond b (v ∷ leaves_from (suc v) xs) (leaves_from (suc v) xs))
    by_kind true rest = (above v (suc v) xs (omega arith), rest)
    by_kind false rest = rest

-- what is no member differs from every entry
not_member : (xs : List ℕ) (n : ℕ) → is_member eqb xs n ≡ false → AllByRecursion (λ y. eqb n y ≡ false) xs
not_member [] n h = tt
not_member (x ∷ xs) n h = let no = or_parts (eqb n x) (is_member eqb xs n) h in (no.0, not_member xs n no.1)

-- either each entry of ys is one of xs, or some entry is not
all_or_some : (xs ys : List ℕ) → ((q : ℕ) → is_member eqb ys q ≡ true → is_member eqb xs q ≡ true) ⊎ ((q : ℕ) × (is_member eqb ys q ≡ true) × (is_member eqb xs q ≡ false))
all_or_some xs [] = inl (λ q h. absurd (false≢true h))
all_or_some xs (y ∷ ys) = by_first (is_member eqb xs y) refl (all_or_some xs ys)
  where
    All_of : List ℕ → Type 0
    All_of zs = (q : ℕ) → is_member eqb zs q ≡ true → is_member eqb xs q ≡ true

    Some_of : List ℕ → Type 0
    Some_of zs = (q : ℕ) × (is_member eqb zs q ≡ true) × (is_member eqb xs q ≡ false)

    by_entry : (q : ℕ) (b : Bool) → eqb q y ≡ b → is_member eqb xs y ≡ true → All_of ys → (b || is_member eqb ys q) ≡ true → is_member eqb xs q ≡ true
    by_entry q true e first rest h = let same : y ≡ q = sym (eqb-true q y e) in subst (λ k. is_member eqb xs k ≡ true) same first
    by_entry q false e first rest h = rest q h

    by_first : (b : Bool) → is_member eqb xs y ≡ b → All_of ys ⊎ Some_of ys → All_of (y ∷ ys) ⊎ Some_of (y ∷ ys)
    by_first true first (inl rest) = inl (λ q h. by_entry q (eqb q y) refl first rest h)
    by_first true first (inr found) = inr (found.0, rw found.1 (or-true (eqb found.0 y)), found.2)
    by_first false first rest = inr (y, let here : eqb y y ≡ true = eq-eqb y y refl in rw here refl, first)

-- ---- as many as leaves

module _ (nodes : List AigNode) (inputs : List ℕ) (latchs : List AigLatch) (are : AreLeaves nodes inputs latchs) where
  abbrev named : List ℕ
  named = inputs ++ latch_leaves latchs

  named_distinct : IsDistinct eqb named
  named_distinct = IsDistinct-from_AllPairs Decides-eqb named are.distinct

  named-Contains : (q : ℕ) → is_member eqb named q ≡ true → Contains named q
  named-Contains q h = (is_member-Decides Decides-eqb named q).0 h

  named-member : (q : ℕ) → Contains named q → is_member eqb named q ≡ true
  named-member q h = (is_member-Decides Decides-eqb named q).1 h

  leaf_member : (q : ℕ) → is_member eqb named q ≡ true → is_member eqb (leaves_from 0 nodes) q ≡ true
  leaf_member q h =
      let m = leaves_from-complete 0 nodes q (All-contains (IsLeaf nodes) named q are.leaves (named-Contains q h)) in
      let e : 0 + q ≡ q = omega arith in
      subst (λ k. is_member eqb (leaves_from 0 nodes) k ≡ true) e m

  -- they are no more than the leaves
  pub named-few : length named ≤ count_by (λ node. is_leaf node.typ) nodes
  named-few = subst (λ k. length named ≤ k) (length-leaves_from 0 nodes) (length-le_from_is_member nat_eq_equiv named (leaves_from 0 nodes) named_distinct leaf_member)

  -- as many as there are leaves where they are all
  pub closed-count : ((n : ℕ) → IsLeaf nodes n → Contains named n) → count_by (λ node. is_leaf node.typ) nodes ≡ length named
  closed-count closed =
      let fewer : length (leaves_from 0 nodes) ≤ length named =
      length-le_from_is_member nat_eq_equiv (leaves_from 0 nodes) named (leaves_from-distinct 0 nodes)
      (λ q h. let leaf = leaves_from-sound 0 nodes q h in named-member q (subst (Contains named) (omega (arith, leaf.1)) (closed leaf.0 leaf.2))) in
      omega (arith, length-leaves_from 0 nodes, named-few)

  -- a leaf that is none of them makes one more
  missed-more : (n : ℕ) → IsLeaf nodes n → is_member eqb named n ≡ false → length named < count_by (λ node. is_leaf node.typ) nodes
  unfolding IsDistinct
  missed-more n leaf missed =
      let all : length (n ∷ named) ≤ length (leaves_from 0 nodes) =
      length-le_from_is_member nat_eq_equiv (n ∷ named) (leaves_from 0 nodes) (longer_distinct missed) (λ q h. member q (eqb q n) refl h) in
      omega (arith, length-leaves_from 0 nodes)
    where
      longer_distinct : is_member eqb named n ≡ false → IsDistinct eqb (n ∷ named)
      longer_distinct none = (not_member named n none, named_distinct)

      member : (q : ℕ) (b : Bool) → eqb q n ≡ b → (b || is_member eqb named q) ≡ true → is_member eqb (leaves_from 0 nodes) q ≡ true
      member q true e h = let same : 0 + n ≡ q = omega (arith, eqb-true q n e) in subst (λ k. is_member eqb (leaves_from 0 nodes) k ≡ true) same (leaves_from-complete 0 nodes n leaf)
      member q false e h = leaf_member q h

  pub count-closed : count_by (λ node. is_leaf node.typ) nodes ≡ length named → (n : ℕ) → IsLeaf nodes n → Contains named n
  count-closed same n leaf = at (is_member eqb named n) refl
    where
      at : (b : Bool) → is_member eqb named n ≡ b → Contains named n
      at true e = named-Contains n e
      at false e = absurd (omega (arith, missed-more n leaf e))

  pub count-open : (count_by (λ node. is_leaf node.typ) nodes ≢ length named) → HasFreeLeaf nodes inputs latchs
  count-open differ = by_cases (all_or_some named (leaves_from 0 nodes))
    where
      by_cases : ((q : ℕ) → is_member eqb (leaves_from 0 nodes) q ≡ true → is_member eqb named q ≡ true) ⊎ ((q : ℕ) × (is_member eqb (leaves_from 0 nodes) q ≡ true) × (is_member eqb named q ≡ false)) → HasFreeLeaf nodes inputs latchs
      by_cases (inl all) = let few = length-le_from_is_member nat_eq_equiv (leaves_from 0 nodes) named (leaves_from-distinct 0 nodes) all in absurd (differ (omega (arith, length-leaves_from 0 nodes, named-few)))
      by_cases (inr found) =
          let leaf = leaves_from-sound 0 nodes found.0 found.1 in
          let place : leaf.0 ≡ found.0 = omega (arith, leaf.1) in
          let no = λ (h : Contains named found.0). false≢true (sym found.2 ∙ named-member found.0 h) in (
            found.0,
            subst (IsLeaf nodes) place leaf.2,
            record {
              no_input = λ h. no (Contains-append_left inputs (latch_leaves latchs) found.0 h);
              no_latch = λ h. no (Contains-append_right inputs (latch_leaves latchs) found.0 h);
            },
          )
