-- The values of a step that was added after k steps: what is read off it, and runs that go on by it.
use Rattle.aig_base.proofs.Words.{◌≡◌, ℕ, zero, suc, ◌+◌, ◌*◌, ◌<◌, ◌≤◌, ◌⊎◌, Bool, true, false, cond, ltb, List, [], ◌∷◌, ◌++◌, length, get_or, refl, sym, ap, subst, ◌∙◌, arith, add-one, inl, inr, All, Contains, ◌==◌, AllZip, list_any, cases_lt, le-ltb, lt-ltb, false_from_ne_true, get_or-append-add, get_or_append_left, get_or_default, length-map, All-contains, Contains-get_or}
use Rattle.std.proofs.lemmas.Nat.{mul-add-lt}
use Rattle.aig_circuit.specs.declared.edge.AigEdge.{AigEdge}
use Rattle.aig_circuit.specs.declared.node.AigLatch.{AigLatch}
use Rattle.aig_circuit.proofs.Words.{edge_to, edge_value, Circuit, IsCircuit, IsLeaf, latch_leaves, IsRun, next_edges, position_of}
use Rattle.aig_renumber.proofs.Places.{position_of-get_or, position_of-within}
use Rattle.aig_renumber.proofs.Kept.{is_in-back, is_in-there}
use Rattle.aig_unroll.specs.Places.{Reads, leaves_after, other_leaves, place_at}
use Rattle.aig_unroll.specs.Unroll.{ReadsNext, UnrollsOnce, UnrollsTo}
use Rattle.aig_unroll.proofs.Added.{others-distinct}
use Rattle.aig_unroll.proofs.Lists.{all_from_zips, zip_from, zip_mapped, zip_unmapped}
use Rattle.aig_unroll.proofs.Others.{others-are, others-have}

-- ---- values over steps

-- the steps 0 to k of x, and then the values z
abbrev pub then_values : ℕ → (ℕ → ℕ → Bool) → (ℕ → Bool) → ℕ → ℕ → Bool
then_values k x z t = cond (ltb k t) z (x t)

-- up to step k they are x
pub then_values-old : (k : ℕ) (x : ℕ → ℕ → Bool) (z : ℕ → Bool) (t : ℕ) → t ≤ k → then_values k x z t ≡ x t
then_values-old k x z t h = ap (λ b. cond b z (x t)) (le-ltb k t h)

-- and at step k + 1 they are z
pub then_values-new : (k : ℕ) (x : ℕ → ℕ → Bool) (z : ℕ → Bool) → then_values k x z (k + 1) ≡ z
then_values-new k x z = ap (λ b. cond b z (x (k + 1))) (lt-ltb k (k + 1) (omega arith))

-- a leaf is a latch's or another
pub leaf_cases : (c : Circuit) → IsCircuit c → (n : ℕ) → IsLeaf c.nodes n → Contains (latch_leaves c.latchs) n ⊎ Contains (other_leaves c) n
leaf_cases c is n leaf = by_test (list_any (λ m. m == n) (latch_leaves c.latchs)) refl
  where
    by_test : (b : Bool) → list_any (λ m. m == n) (latch_leaves c.latchs) ≡ b → Contains (latch_leaves c.latchs) n ⊎ Contains (other_leaves c) n
    by_test true e = inl (is_in-back (latch_leaves c.latchs) n e)
    by_test false e = inr (others-have c is.nodes n leaf (λ has. differ (sym (is_in-there (latch_leaves c.latchs) n has) ∙ e)))
      where
        differ : true ≡ false → ⊥
        differ e = cc

module _ (c old new : Circuit) (k : ℕ) (is : IsCircuit c) (to : UnrollsTo c k old) (once : UnrollsOnce c old new) where
  -- the leaves that are no latch's
  abbrev others : List ℕ
  others = other_leaves c

  -- the inputs that the step adds
  abbrev added : List ℕ
  added = leaves_after (length old.nodes) new.nodes

  -- the latches' leaves
  abbrev leaves : List ℕ
  leaves = latch_leaves c.latchs

  -- their old next edges
  abbrev nexts : List AigEdge
  nexts = next_edges old.latchs

  -- ---- places

  -- a place of one of the steps 1 to k is among the old inputs
  pub within_old : (t i : ℕ) → t < k → i < length others → length c.inputs + t * length others + i < length old.inputs
  within_old t i h l = omega (arith, to.inputs, mul-add-lt t (length others) i k h l)

  -- places of the steps up to k stay
  pub place_kept : (t n : ℕ) → t ≤ k → Contains others n → place_at c new t n ≡ place_at c old t n
  place_kept zero n h has = refl
  place_kept (suc t) n h has =
      let i = position_of others n in
      let place = length c.inputs + t * length others + i in
      ap (λ l. get_or l place 0) once.keeps.inputs ∙ get_or_append_left old.inputs added 0 place (within_old t i (omega arith) (position_of-within others n has))

  -- the places of step k + 1 are the added inputs
  pub place_new : (n : ℕ) → place_at c new (k + 1) n ≡ get_or added (position_of others n) 0
  place_new n =
      let i = position_of others n in
      let place = length c.inputs + k * length others + i in
      let same : place ≡ length old.inputs + i = omega (arith, to.inputs) in
      ap (λ t. place_at c new t n) (add-one k)
      ∙ ap (λ l. get_or l place 0) once.keeps.inputs
      ∙ ap (λ j. get_or (old.inputs ++ added) j 0) same
      ∙ get_or-append-add old.inputs added i 0

  -- the place of the i-th leaf that is no latch's
  pub place_new-at : (i d : ℕ) → i < length others → place_at c new (k + 1) (get_or others i d) ≡ get_or added i 0
  place_new-at i d h =
      place_new (get_or others i d)
      ∙ ap (λ n. get_or added (position_of others n) 0) (get_or_default others i d 0 h)
      ∙ ap (λ j. get_or added j 0) (position_of-get_or others i (others-distinct c is.nodes) h)

  -- ---- what is read

  -- what reads the steps to k + 1 reads those to k
  pub reads_kept : (y : ℕ → Bool) (x : ℕ → ℕ → Bool) → Reads c new (k + 1) y x → Reads c old k y x
  reads_kept y x reads = record {
    state = reads.state;
    others = λ t h j d l.
        let longer : t ≤ k + 1 = omega arith in
        reads.others t longer j d l ∙ ap y (place_kept t (get_or others j d) h (Contains-get_or others j d l));
  }

  -- and what reads the steps to k and the added inputs reads those to k + 1
  pub reads_more : (y : ℕ → Bool) (x : ℕ → ℕ → Bool) → Reads c old k y x → ((i : ℕ) → i < length others → x (k + 1) (get_or others i 0) ≡ y (get_or added i 0)) → Reads c new (k + 1) y x
  reads_more y x reads last = record { state = reads.state; others = at }
    where
      at : (t : ℕ) → t ≤ k + 1 → All (λ n. x t n ≡ y (place_at c new t n)) others
      at t h j d l = elim (cases_lt k t) [
        | inl past ↦ (
            let e : k + 1 ≡ t = omega arith in
            subst (λ t. x t (get_or others j d) ≡ y (place_at c new t (get_or others j d))) e (ap (x (k + 1)) (get_or_default others j d 0 l) ∙ last j l ∙ ap y (sym (place_new-at j d l))))
        | inr early ↦ reads.others t early j d l ∙ ap y (sym (place_kept t (get_or others j d) early (Contains-get_or others j d l)))
      ]

  -- the added inputs are read at step k + 1
  pub reads_added : (y : ℕ → Bool) (x : ℕ → ℕ → Bool) → Reads c new (k + 1) y x → (i : ℕ) → i < length others → x (k + 1) (get_or others i 0) ≡ y (get_or added i 0)
  reads_added y x reads i h = reads.others (k + 1) (omega arith) i 0 h ∙ ap y (place_new-at i 0 h)

  -- ---- runs

  -- a run of k + 1 steps is one of k
  pub run_kept : (x : ℕ → ℕ → Bool) → IsRun c (k + 1) x → IsRun c k x
  run_kept x run t h = run t (omega arith)

  -- step k + 1 of a run is read off by its latches' old next edges and the added inputs
  pub reads_next : (y : ℕ → Bool) (x : ℕ → ℕ → Bool) → IsRun c (k + 1) x → Reads c new (k + 1) y x → ReadsNext c old added y (x (k + 1))
  reads_next y x run reads = record {
    state = zip_mapped (λ (l : AigLatch). l.input) (λ (l : AigLatch). l.next) (λ n e. x (k + 1) n ≡ edge_value old.nodes y e) c.latchs old.latchs (by_latch c.latchs old.latchs here shown);
    others = zip_from (λ n input. x (k + 1) n ≡ y input) others added 0 0 (sym once.count) (reads_added y x reads);
  }
    where
      here : All (λ (latch : AigLatch). x (k + 1) latch.input ≡ edge_value c.nodes (x k) latch.next) c.latchs
      here = run k (omega arith)

      shown : AllZip (λ (l m : AigLatch). edge_value old.nodes y m.next ≡ edge_value c.nodes (x k) l.next) c.latchs old.latchs
      shown = (to.same y x (run_kept x run) (reads_kept y x reads)).state

      by_latch : (ls ms : List AigLatch) → All (λ (l : AigLatch). x (k + 1) l.input ≡ edge_value c.nodes (x k) l.next) ls → AllZip (λ (l m : AigLatch). edge_value old.nodes y m.next ≡ edge_value c.nodes (x k) l.next) ls ms
          → AllZip (λ (l m : AigLatch). x (k + 1) l.input ≡ edge_value old.nodes y m.next) ls ms
      by_latch [] [] all zip = tt
      by_latch [] (m ∷ ms) all zip = absurd zip
      by_latch (l ∷ ls) [] all zip = absurd zip
      by_latch (l ∷ ls) (m ∷ ms) all zip = (all 0 l (omega arith) ∙ sym zip.0, by_latch ls ms (λ k d h. all (suc k) d (omega arith)) zip.1)

  -- a run goes on by values that are so read off
  pub run_more : (y : ℕ → Bool) (x : ℕ → ℕ → Bool) (z : ℕ → Bool) → IsRun c k x → Reads c old k y x → ReadsNext c old added y z → IsRun c (k + 1) (then_values k x z)
  run_more y x z run reads next t h = elim (cases_lt t k) [
    | inl before ↦ (
        let now = then_values-old k x z t (omega arith) in
        let after = then_values-old k x z (t + 1) (omega arith) in
        λ j d l. ap (λ (w : ℕ → Bool). w (get_or c.latchs j d).input) after ∙ run t before j d l ∙ ap (λ (w : ℕ → Bool). edge_value c.nodes w (get_or c.latchs j d).next) (sym now))
    | inr last ↦ (
        let e : k ≡ t = omega arith in
        subst (λ t. All (λ (latch : AigLatch). then_values k x z (t + 1) latch.input ≡ edge_value c.nodes (then_values k x z t) latch.next) c.latchs) e at_last)
  ]
    where
      moves : All (λ (latch : AigLatch). z latch.input ≡ edge_value c.nodes (x k) latch.next) c.latchs
      moves =
          all_from_zips (λ (l m : AigLatch). z l.input ≡ edge_value old.nodes y m.next) (λ (l m : AigLatch). edge_value old.nodes y m.next ≡ edge_value c.nodes (x k) l.next)
          (λ (latch : AigLatch). z latch.input ≡ edge_value c.nodes (x k) latch.next) c.latchs old.latchs (λ l m r s. r ∙ s)
          (zip_unmapped (λ (l : AigLatch). l.input) (λ (l : AigLatch). l.next) (λ n e. z n ≡ edge_value old.nodes y e) c.latchs old.latchs next.state)
          (to.same y x run reads).state

      at_last : All (λ (latch : AigLatch). then_values k x z (k + 1) latch.input ≡ edge_value c.nodes (then_values k x z k) latch.next) c.latchs
      at_last j d l =
          ap (λ (w : ℕ → Bool). w (get_or c.latchs j d).input) (then_values-new k x z) ∙ moves j d l
          ∙ ap (λ (w : ℕ → Bool). edge_value c.nodes w (get_or c.latchs j d).next) (sym (then_values-old k x z k (omega arith)))

  -- ---- the values that are read

  -- any edge, where a list has no entry
  abbrev no_edge : AigEdge
  no_edge = edge_to 0 false

  -- the values of the new step
  abbrev pub next_values : (ℕ → Bool) → ℕ → Bool
  next_values y n = cond (list_any (λ m. m == n) leaves) (edge_value old.nodes y (get_or nexts (position_of leaves n) no_edge)) (y (get_or added (position_of others n) 0))

  -- each latch's leaf has its next edge
  length-nexts : length leaves ≡ length nexts
  length-nexts = sym (ap length to.keeps.leaves) ∙ length-map old.latchs (λ (l : AigLatch). l.input) ∙ sym (length-map old.latchs (λ (l : AigLatch). l.next))

  -- at the leaves that are no latch's they are those of the added inputs
  pub next_values-other : (y : ℕ → Bool) (i : ℕ) → i < length others → next_values y (get_or others i 0) ≡ y (get_or added i 0)
  next_values-other y i h =
      let n = get_or others i 0 in
      let no_latch = (others-are c is.nodes i 0 h).1 in
      let test : list_any (λ m. m == n) leaves ≡ false = false_from_ne_true (list_any (λ m. m == n) leaves) (λ e. no_latch (is_in-back leaves n e)) in
      ap (λ b. cond b (edge_value old.nodes y (get_or nexts (position_of leaves n) no_edge)) (y (get_or added (position_of others n) 0))) test
      ∙ ap (λ j. y (get_or added j 0)) (position_of-get_or others i (others-distinct c is.nodes) h)

  -- they are read off the old next edges and the added inputs
  pub reads_next_values : (y : ℕ → Bool) → ReadsNext c old added y (next_values y)
  reads_next_values y = record {
    state = zip_from (λ n e. next_values y n ≡ edge_value old.nodes y e) leaves nexts 0 no_edge length-nexts at_latch;
    others = zip_from (λ n input. next_values y n ≡ y input) others added 0 0 (sym once.count) (next_values-other y);
  }
    where
      at_latch : (i : ℕ) → i < length leaves → next_values y (get_or leaves i 0) ≡ edge_value old.nodes y (get_or nexts i no_edge)
      at_latch i h =
          let n = get_or leaves i 0 in
          ap (λ b. cond b (edge_value old.nodes y (get_or nexts (position_of leaves n) no_edge)) (y (get_or added (position_of others n) 0))) (is_in-there leaves n (Contains-get_or leaves i 0 h))
          ∙ ap (λ j. edge_value old.nodes y (get_or nexts j no_edge)) (position_of-get_or leaves i is.latchs_distinct h)

  -- what reads the same values agrees at each leaf
  pub reads_same : (y x z : ℕ → Bool) → ReadsNext c old added y x → ReadsNext c old added y z → (n : ℕ) → IsLeaf c.nodes n → x n ≡ z n
  reads_same y x z reads reads' n leaf = elim (leaf_cases c is n leaf) [
    | inl latch ↦ All-contains (λ n. x n ≡ z n) leaves n (all_from_zips (λ n e. x n ≡ edge_value old.nodes y e) (λ n e. z n ≡ edge_value old.nodes y e) (λ n. x n ≡ z n) leaves nexts (λ n e r s. r ∙ sym s) reads.state reads'.state) latch
    | inr other ↦ All-contains (λ n. x n ≡ z n) others n (all_from_zips (λ n i. x n ≡ y i) (λ n i. z n ≡ y i) (λ n. x n ≡ z n) others added (λ n i r s. r ∙ sym s) reads.others reads'.others) other
  ]
