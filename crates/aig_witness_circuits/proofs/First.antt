-- The first entry that a list has for a leaf.
use Rattle.aig_witness_circuits.proofs.Words.{AigEdge, AigLatch, All, AllPairs, Bool, Contains, Contains-map_back, List, None, Option, Sharing, Some, [], ap, arith, cond, eq-eqb, eqb-true, false, false≢true, get_or, get_or-map, get_or-set_other, get_or-set_same, get_or-take, get_or_default, given_at, if◌then◌else◌, is_in, is_in-back, is_none, length, length-map, length-take, map, model_leaf, ne_eqb, next_of, not, not-not, option_map, option_or, or-none, refl, replicate, same_Some, set, subst, suc, sym, take, take_more, true, zero, ℕ, ◌++◌, ◌+◌, ◌<◌, ◌==◌, ◌||◌, ◌∙◌, ◌∷◌, ◌≡◌, ◌≢◌}

-- entries have different leaves where no two of the leaves are one
pub apart_from_map : {X : Type 0} (leaf : X → ℕ) (xs : List X)
    → AllPairs (λ m n. m ≢ n) (map leaf xs) → AllPairs (λ x y. leaf x ≢ leaf y) xs
apart_from_map leaf xs distinct i j d lt less same =
    distinct i j (leaf d) lt (omega (arith, less, length-map xs leaf))
    (get_or-map leaf xs i d (leaf d) (omega (arith, lt, less))
    ∙ same
    ∙ sym (get_or-map leaf xs j d (leaf d) less))

module _ {X V : Type 0} (leaf : X → ℕ) (value : X → V) where
  abbrev AreApart : List X → Type 0
  AreApart xs = AllPairs (λ x y. leaf x ≢ leaf y) xs

  abbrev pub first_of : List X → ℕ → Option V
  first_of [] n = None
  first_of (x ∷ xs) n = if leaf x == n then Some (value x) else first_of xs n

  -- it is there where the list has one
  pub first_of-is_none : (xs : List X) (n : ℕ)
      → is_none (first_of xs n) ≡ not (is_in (map leaf xs) n)
  first_of-is_none [] n = refl
  first_of-is_none (x ∷ xs) n = by (leaf x == n) (first_of-is_none xs n)
    where
      by : (b : Bool) → is_none (first_of xs n) ≡ not (is_in (map leaf xs) n)
          → is_none (cond b (Some (value x)) (first_of xs n)) ≡ not (b || is_in (map leaf xs) n)
      by true later = refl
      by false later = later

  pub first_of-none : (xs : List X) (n : ℕ) → ¬ Contains (map leaf xs) n → first_of xs n ≡ None
  first_of-none xs n not_there = by (first_of xs n) (first_of-is_none xs n)
    where
      by : (o : Option V) → is_none o ≡ not (is_in (map leaf xs) n) → o ≡ None
      by None is = refl
      by (Some v) is =
          absurd (not_there (is_in-back (map leaf xs) n
          (sym (not-not (is_in (map leaf xs) n)) ∙ ap not (sym is))))

  -- it is one of them
  pub first_of-found : (xs : List X) (n : ℕ) (v : V) → first_of xs n ≡ Some v
      → (x : X) × Contains xs x × (leaf x ≡ n) × (value x ≡ v)
  first_of-found [] n v h = cc
  first_of-found (x ∷ xs) n v h = by (first_of-found xs n v) (leaf x == n) refl
    where
      Found : List X → Type 0
      Found all = (y : X) × Contains all y × (leaf y ≡ n) × (value y ≡ v)

      by : (first_of xs n ≡ Some v → Found xs) → (b : Bool) → (leaf x == n) ≡ b → Found (x ∷ xs)
      by later true is = (
        x,
        (0, omega arith, refl),
        eqb-true (leaf x) n is,
        same_Some _ _ (sym (ap (λ b. cond b (Some (value x)) (first_of xs n)) is) ∙ h),
      )
      by later false is =
          let rest = later (sym (ap (λ b. cond b (Some (value x)) (first_of xs n)) is) ∙ h) in (
            rest.0,
            (suc rest.1.0, omega (arith, rest.1.1), rest.1.2),
            rest.2,
            rest.3,
          )

  -- each entry is the first for its leaf, where no two have one
  pub first_of-each : (xs : List X) → AreApart xs
      → All (λ x. first_of xs (leaf x) ≡ Some (value x)) xs
  first_of-each [] apart k d h = absurd (omega (arith, h))
  first_of-each (x ∷ xs) apart zero d h =
      ap (λ b. cond b (Some (value x)) (first_of xs (leaf x))) (eq-eqb (leaf x) (leaf x) refl)
  first_of-each (x ∷ xs) apart (suc k) d h =
      let y = get_or xs k d in
      ap (λ b. cond b (Some (value x)) (first_of xs (leaf y)))
      (ne_eqb (leaf x) (leaf y) (apart zero (suc k) d (omega arith) h))
      ∙ first_of-each xs
      (λ i j e lt less. apart (suc i) (suc j) e (omega (arith, lt)) (omega (arith, less))) k d
      (omega (arith, h))

  -- an entry's leaf is none of the earlier ones
  not_before : (xs : List X) (i : ℕ) (d : X) → i < length xs → AreApart xs
      → ¬ Contains (map leaf (take i xs)) (leaf (get_or xs i d))
  not_before xs i d within apart has =
      let found = Contains-map_back leaf (take i xs) (leaf (get_or xs i d)) has in
      let x = found.0 in
      let k = found.1.0 in
      let short : k < i = omega (arith, found.1.1, length-take i xs) in
      let at : get_or xs k x ≡ x = sym (get_or-take i xs k x short) ∙ found.1.2 in
      apart k i x short within
      (ap leaf at ∙ found.2 ∙ ap leaf (sym (get_or_default xs i x d within)))

  -- one entry more
  first_of-more : (xs : List X) (x : X) (n : ℕ)
      → first_of (xs ++ x ∷ []) n
      ≡ option_or (first_of xs n) (cond (leaf x == n) (Some (value x)) None)
  first_of-more [] x n = refl
  first_of-more (y ∷ xs) x n = by (leaf y == n) (first_of-more xs x n)
    where
      one : Option V
      one = cond (leaf x == n) (Some (value x)) None

      by : (b : Bool) → first_of (xs ++ x ∷ []) n ≡ option_or (first_of xs n) one
          → cond b (Some (value y)) (first_of (xs ++ x ∷ []) n)
          ≡ option_or (cond b (Some (value y)) (first_of xs n)) one
      by true later = refl
      by false later = later

  -- a table in which the first entries are written, with one more
  pub written_more : (look : List X → ℕ → Option V)
      → ((xs : List X) (n : ℕ) → look xs n ≡ first_of xs n) → (image : V → AigEdge)
      (xs : List X) (i : ℕ) (d : X) (before mid : List (Option AigEdge)) → i < length xs
      → AllPairs (λ m n. m ≢ n) (map leaf xs) → leaf (get_or xs i d) < length mid
      → ((n : ℕ) → given_at mid n
      ≡ option_or (option_map image (look (take i xs) n)) (given_at before n))
      → (n : ℕ)
      → given_at (set mid (leaf (get_or xs i d)) (Some (image (value (get_or xs i d))))) n
      ≡ option_or (option_map image (look (take (i + 1) xs) n)) (given_at before n)
  written_more look same image xs i d before mid within distinct inside so_far n =
      by (leaf x == n) refl
      ∙ sym (ap (λ o. option_or (option_map image o) (given_at before n))
      (same (take (i + 1) xs) n
      ∙ ap (λ l. first_of l n) (take_more xs i d within)
      ∙ first_of-more (take i xs) x n))
    where
      x : X
      x = get_or xs i d

      e : Option AigEdge
      e = Some (image (value x))

      -- what stands for n afterwards, where m is the written leaf
      Stands : ℕ → Option V → Type 0
      Stands m o =
          given_at (set mid (leaf x) e) m ≡ option_or (option_map image o) (given_at before m)

      none : first_of (take i xs) (leaf x) ≡ None
      none =
          first_of-none (take i xs) (leaf x)
          (not_before xs i d within (apart_from_map leaf xs distinct))

      by : (b : Bool) → (leaf x == n) ≡ b
          → Stands n (option_or (first_of (take i xs) n) (cond (leaf x == n) (Some (value x)) None))
      by true is =
          subst (λ b. Stands n (option_or (first_of (take i xs) n) (cond b (Some (value x)) None)))
          (sym is)
          (subst (λ m. Stands m (option_or (first_of (take i xs) m) (Some (value x))))
          (eqb-true (leaf x) n is)
          (subst (λ o. Stands (leaf x) (option_or o (Some (value x)))) (sym none)
          (get_or-set_same mid (leaf x) e None inside)))
      by false is =
          subst (λ b. Stands n (option_or (first_of (take i xs) n) (cond b (Some (value x)) None)))
          (sym is)
          (subst (Stands n) (same (take i xs) n ∙ sym (or-none (first_of (take i xs) n)))
          (get_or-set_other mid (leaf x) n e None
          (λ equal. false≢true (sym is ∙ eq-eqb (leaf x) n (sym equal)))
          ∙ so_far n))

-- ---- shared leaves and latches

pub model_leaf-first : (shared : Sharing) (n : ℕ)
    → model_leaf shared n ≡ first_of (λ (p : ℕ × ℕ). p.1) (λ p. p.0) shared n
model_leaf-first [] n = refl
model_leaf-first (p ∷ shared) n =
    ap (λ o. if p.1 == n then Some p.0 else o) (model_leaf-first shared n)

pub next_of-first : (latchs : List AigLatch) (n : ℕ)
    → next_of latchs n ≡ first_of (λ (l : AigLatch). l.input) (λ l. l.next) latchs n
next_of-first [] n = refl
next_of-first (latch ∷ latchs) n =
    ap (λ o. if latch.input == n then Some latch.next else o) (next_of-first latchs n)

-- it stands for one exactly where it is shared
pub stands_where_shared : (shared : Sharing) (n : ℕ)
    → is_none (model_leaf shared n) ≡ not (is_in (map (λ (p : ℕ × ℕ). p.1) shared) n)
stands_where_shared shared n =
    ap is_none (model_leaf-first shared n)
    ∙ first_of-is_none (λ (p : ℕ × ℕ). p.1) (λ p. p.0) shared n

-- ---- tables

-- a table in which nothing is given
pub nothing_given : (count n : ℕ) → given_at (replicate count None) n ≡ None
nothing_given zero n = refl
nothing_given (suc count) zero = refl
nothing_given (suc count) (suc n) = nothing_given count n

-- a clone of none is none
pub none_alone : {X : Type 0} (C : Option X → Type 0) → ((x : X) → ¬ C (Some x)) → (o : Option X)
    → C o → o ≡ None
none_alone C not_some None h = refl
none_alone C not_some (Some x) h = absurd (not_some x h)
