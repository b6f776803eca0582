-- Resets that are filled in, in order.
use Rattle.aig_witness_circuits.proofs.Words.{◌≡◌, ℕ, Bool, false, Option, Some, None, arith, List, [], ◌∷◌, map, get_or, refl, sym, subst, ◌∙◌, IfSome, All, Contains, All-cons, All-contains, Contains-get_or, AigEdge, AigLatch, Circuit, edge_value, latch_leaves, Contains-map, Contains-map_back, AllOwn, CanStart, IsOwn, Sharing, Starts, IsInOrder, IsIndependent, IsStratified}
use Rattle.aig_witness_circuits.proofs.Putting.{Contains-first, Contains-later, put, put_other, put_same}

module _ (c : Circuit) where
  -- the value that an initial edge gives
  abbrev start_of : (ℕ → Bool) → Option AigEdge → Bool
  start_of y (Some e) = edge_value c.nodes y e
  start_of y None = false

  -- the values, where these latches start one after the other
  abbrev pub fill : List AigLatch → (ℕ → Bool) → ℕ → Bool
  fill [] y = y
  fill (latch ∷ later) y = fill later (put latch.input (start_of y latch.init) y)

  -- other leaves keep their values
  pub fill_other : (latchs : List AigLatch) (y : ℕ → Bool) (n : ℕ)
      → ¬ Contains (latch_leaves latchs) n → fill latchs y n ≡ y n
  fill_other [] y n not = refl
  fill_other (latch ∷ later) y n not =
      let leaves = latch_leaves later in
      fill_other later (put latch.input (start_of y latch.init) y) n
      (λ has. not (Contains-later latch.input leaves n has))
      ∙ put_other latch.input (start_of y latch.init) y n
      (λ e. not (Contains-first latch.input leaves n e))

  -- each of them starts
  pub fill_starts : (latchs : List AigLatch) (y : ℕ → Bool) → IsInOrder c latchs
      → All (Starts c (fill latchs y)) latchs
  fill_starts [] y order k d h = absurd (omega (arith, h))
  fill_starts (latch ∷ later) y order k d h =
      All-cons (Starts c z) latch later (by latch.init order.1 same)
      (fill_starts later put_in order.2) k d h
    where
      put_in : ℕ → Bool
      put_in = put latch.input (start_of y latch.init) y

      z : ℕ → Bool
      z = fill later put_in

      same : z latch.input ≡ start_of y latch.init
      same =
          fill_other later put_in latch.input order.0
          ∙ put_same latch.input (start_of y latch.init) y

      by : (init : Option AigEdge)
          → IfSome init (IsIndependent c (latch_leaves (latch ∷ later)))
          → z latch.input ≡ start_of y init
          → IfSome init (λ e. edge_value c.nodes z e ≡ z latch.input)
      by None independent is = tt
      by (Some e) independent is =
          independent z y (λ n not. fill_other (latch ∷ later) y n not) ∙ sym is

-- latches in such an order can start
pub stratified_starts : (shared : Sharing) (c : Circuit) → IsStratified shared c
    → CanStart shared c
stratified_starts shared c is y = (z, kept, started)
  where
    z : ℕ → Bool
    z = fill c is.order y

    shared_leaves : List ℕ
    shared_leaves = map (λ p. p.1) shared

    apart : (n : ℕ) → Contains shared_leaves n → ¬ Contains (latch_leaves is.order) n
    apart n shares has =
        let found = Contains-map_back (λ (l : AigLatch). l.input) is.order n has in
        All-contains (λ (l : AigLatch). IsOwn shared l.input) is.order found.0 is.own found.1
        (subst (Contains shared_leaves) (sym found.2) shares)

    kept : All (λ p. z p.1 ≡ y p.1) shared
    kept k d h =
        let p = get_or shared k d in
        fill_other c is.order y p.1
        (apart p.1 (Contains-map (λ (q : ℕ × ℕ). q.1) shared p (Contains-get_or shared k d h)))

    started : AllOwn shared (Starts c z) c.latchs
    started k d h own =
        All-contains (Starts c z) is.order (get_or c.latchs k d)
        (fill_starts c is.order y is.in_order) (is.all k d h own)
