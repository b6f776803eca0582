-- A circuit unrolled by k steps, with one step more, is unrolled by k + 1: what is claimed of it, one by one.
use Rattle.aig_base.proofs.Words.{◌≡◌, ℕ, zero, suc, add-one, ◌+◌, ◌-◌, ◌*◌, ◌<◌, ◌≤◌, ◌↔◌, Bool, cond, ltb, Option, Some, None, List, [], ◌∷◌, ◌++◌, length, get_or, sym, ap, subst, ◌∙◌, arith, inl, inr, append_assoc, length-append, All, Contains, IfSome, cases_lt, le-ltb, lt-ltb, get_or_default, All-cons, All-contains, All-map, All-tail, Contains-get_or}
use Rattle.aig_circuit.specs.declared.edge.AigEdge.{AigEdge}
use Rattle.aig_circuit.specs.declared.node.AigLatch.{AigLatch}
use Rattle.aig_circuit.specs.declared.node.AigNode.{AigNode}
use Rattle.aig_circuit.specs.declared.node.AigNodeType.TheVariants.{Leaf}
use Rattle.aig_circuit.proofs.Words.{edge_value, position_of, Circuit, IsCircuit, IsInRange, IsLeaf, latch_leaves, AgreeOnLeaves, IsRun, IsInitial}
use Rattle.aig_circuit.proofs.Building.{Grows-kept, Grows-longer, Grows-then, edge_value-Grows}
use Rattle.aig_circuit.proofs.Trees.{kind_at-within}
use Rattle.aig_renumber.proofs.Places.{position_of-get_or, position_of-within}
use Rattle.aig_unroll.specs.Frame.{with_step, with_steps}
use Rattle.aig_unroll.specs.Places.{Reads, leaves_after, other_leaves, place_at, unrolled_size}
use Rattle.aig_unroll.specs.Unroll.{KeepsCircuit, PropertiesStandAtSteps, HasStepValues, UnrollsOnce, UnrollsTo, starts_of}
use Rattle.aig_unroll.proofs.Added.{following-are, following-distinct, following-have, leaves_after-more}
use Rattle.aig_unroll.proofs.Lists.{zip_turned, zip_unmapped}
use Rattle.aig_unroll.proofs.MoreShown.{properties_stand_more}
use Rattle.aig_unroll.proofs.NextStep.{next_values, next_values-other, reads_added, reads_kept, reads_more, reads_next, reads_next_values, reads_same, run_kept, run_more, then_values, then_values-new, then_values-old, within_old}
use Rattle.aig_unroll.proofs.Others.{others-are}

-- what is kept twice is kept
pub KeepsCircuit-then : (c old new : Circuit) → KeepsCircuit c old → KeepsCircuit old new → KeepsCircuit c new
KeepsCircuit-then c old new first then = record {
  nodes = Grows-then c.nodes old.nodes new.nodes first.nodes then.nodes;
  inputs =
      then.inputs ∙ ap (λ l. l ++ leaves_after (length old.nodes) new.nodes) first.inputs
      ∙ append_assoc c.inputs (leaves_after (length c.nodes) old.nodes) (leaves_after (length old.nodes) new.nodes)
      ∙ ap (λ l. c.inputs ++ l) (sym (leaves_after-more (length c.nodes) old.nodes new.nodes (Grows-longer c.nodes old.nodes first.nodes) then.nodes));
  names = then.names ∙ first.names;
  leaves = then.leaves ∙ first.leaves;
  starts = then.starts ∙ first.starts;
}

-- what is said of latches' leaves and initial edges holds of latches with the same
latches_same : (P : ℕ → Option AigEdge → Type 0) (ls ms : List AigLatch) → latch_leaves ms ≡ latch_leaves ls → starts_of ms ≡ starts_of ls → All (λ (l : AigLatch). P l.input l.init) ls → All (λ (l : AigLatch). P l.input l.init) ms
latches_same P ls [] leaves starts all = λ k d h. absurd (omega arith)
latches_same P [] (m ∷ ms) leaves starts all = cc
latches_same P (l ∷ ls) (m ∷ ms) leaves starts all =
    let input : l.input ≡ m.input = cc in
    let init : l.init ≡ m.init = cc in
    let first : P m.input m.init = subst (λ n. P n m.init) input (subst (P l.input) init (all 0 l (omega arith))) in
    All-cons (λ (l : AigLatch). P l.input l.init) m ms first (latches_same P ls ms (cc) (cc) (All-tail (λ (l : AigLatch). P l.input l.init) l ls all))

module _ (c old new : Circuit) (k : ℕ) (is : IsCircuit c) (is_old : IsCircuit old) (to : UnrollsTo c k old) (once : UnrollsOnce c old new) where
  -- the leaves that are no latch's
  abbrev others : List ℕ
  others = other_leaves c

  -- the inputs that the step adds
  abbrev new_inputs : List ℕ
  new_inputs = leaves_after (length old.nodes) new.nodes

  -- ---- inputs

  -- as many more inputs as leaves that are no latch's
  pub inputs_more : length new.inputs ≡ length c.inputs + (k + 1) * length others
  inputs_more = omega (arith, ap length once.keeps.inputs, length-append old.inputs new_inputs, once.count, to.inputs)

  -- ---- each assignment has its run

  -- the run of the old leaf values goes on by the step that the new ones are read as
  pub run_of_more : (y : ℕ → Bool) → (x : ℕ → ℕ → Bool) × IsRun c (k + 1) x × Reads c new (k + 1) y x
  run_of_more y =
      let run = to.run_of y in
      let z = next_values c old new k is to once y in
      let x = then_values k run.0 z in
      let start = then_values-old k run.0 z in
      let early : Reads c old k y x = record {
        state = λ j d h. ap (λ (w : ℕ → Bool). w (get_or (latch_leaves c.latchs) j d)) (start 0 (omega arith)) ∙ run.2.state j d h;
        others = λ t h j d l. ap (λ (w : ℕ → Bool). w (get_or others j d)) (start t h) ∙ run.2.others t h j d l;
      } in
      let last = λ (i : ℕ) (h : i < length others). ap (λ (w : ℕ → Bool). w (get_or others i 0)) (then_values-new k run.0 z) ∙ next_values-other c old new k is to once y i h in (
        x,
        run_more c old new k is to once y run.0 z run.1 run.2 (reads_next_values c old new k is to once y),
        reads_more c old new k is to once y x early last,
      )

  -- ---- each run has its assignment

  -- a leaf of the circuit is an old node
  leaf_low : (n : ℕ) → IsLeaf c.nodes n → n < length old.nodes
  leaf_low n leaf = omega (arith, kind_at-within c.nodes n Leaf leaf, Grows-longer c.nodes old.nodes to.keeps.nodes)

  -- and so is each place of a step up to k
  place_low : (t n : ℕ) → t ≤ k → Contains others n → place_at c old t n < length old.nodes
  place_low zero n h has = leaf_low n (All-contains (λ n. IsLeaf c.nodes n × ¬ Contains (latch_leaves c.latchs) n) others n (others-are c is.nodes) has).0
  place_low (suc t) n h has =
      let place = length c.inputs + t * length others + position_of others n in
      let within = within_old c old new k is to once t (position_of others n) (omega arith) (position_of-within others n has) in
      kind_at-within old.nodes (get_or old.inputs place 0) Leaf (is_old.inputs place 0 within)

  -- old nodes have the values y, and the added inputs those of the leaves at step k + 1
  abbrev then_inputs : (ℕ → Bool) → (ℕ → ℕ → Bool) → ℕ → Bool
  then_inputs y x n = cond (ltb n (length old.nodes)) (y n) (x (k + 1) (get_or others (position_of new_inputs n) 0))

  -- below the old length they are y
  then_inputs-old : (y : ℕ → Bool) (x : ℕ → ℕ → Bool) (n : ℕ) → n < length old.nodes → then_inputs y x n ≡ y n
  then_inputs-old y x n h = ap (λ b. cond b (y n) (x (k + 1) (get_or others (position_of new_inputs n) 0))) (lt-ltb n (length old.nodes) h)

  -- and at the added inputs the leaves at step k + 1
  then_inputs-new : (y : ℕ → Bool) (x : ℕ → ℕ → Bool) (i : ℕ) → i < length others → then_inputs y x (get_or new_inputs i 0) ≡ x (k + 1) (get_or others i 0)
  then_inputs-new y x i h =
      let n = get_or new_inputs i 0 in
      let there : i < length new_inputs = omega (arith, once.count) in
      let past = (following-are new.nodes once.keeps.nodes.sound (length old.nodes) i 0 there).1 in
      ap (λ b. cond b (y n) (x (k + 1) (get_or others (position_of new_inputs n) 0))) (le-ltb n (length old.nodes) past)
      ∙ ap (λ j. x (k + 1) (get_or others j 0)) (position_of-get_or new_inputs i (following-distinct new.nodes once.keeps.nodes.sound (length old.nodes)) there)

  -- the leaf values of the run to step k, and at the added inputs those of step k + 1
  pub values_of_more : (x : ℕ → ℕ → Bool) → IsRun c (k + 1) x → (y : ℕ → Bool) × Reads c new (k + 1) y x
  values_of_more x run =
      let values = to.values_of x (run_kept c old new k is to once x run) in
      let y = then_inputs values.0 x in
      let latch_leaf : All (IsLeaf c.nodes) (latch_leaves c.latchs) = All-map (IsLeaf c.nodes) (λ (l : AigLatch). l.input) c.latchs (λ j d h. (is.latchs j d h).leaf) in
      let early : Reads c old k y x = record {
        state = λ j d h. values.1.state j d h ∙ sym (then_inputs-old values.0 x (get_or (latch_leaves c.latchs) j d) (leaf_low (get_or (latch_leaves c.latchs) j d) (latch_leaf j d h)));
        others = λ t h j d l.
            let n = get_or others j d in
            values.1.others t h j d l ∙ sym (then_inputs-old values.0 x (place_at c old t n) (place_low t n h (Contains-get_or others j d l)));
      } in
      (y, reads_more c old new k is to once y x early (λ i h. sym (then_inputs-new values.0 x i h)))

  -- ---- one run, and one value

  -- two runs that are read off the same values agree, at step k + 1 too
  pub one_run_more : (y : ℕ → Bool) (x z : ℕ → ℕ → Bool) → IsRun c (k + 1) x → IsRun c (k + 1) z → Reads c new (k + 1) y x → Reads c new (k + 1) y z → AgreeOnLeaves c (k + 1) x z
  one_run_more y x z run run' reads reads' t n h leaf = elim (cases_lt k t) [
    | inl past ↦ (
        let e : k + 1 ≡ t = omega arith in
        let same = reads_same c old new k is to once y (x (k + 1)) (z (k + 1)) (reads_next c old new k is to once y x run reads) (reads_next c old new k is to once y z run' reads') n leaf in
        subst (λ t. x t n ≡ z t n) e same)
    | inr early ↦ to.one_run y x z (run_kept c old new k is to once x run) (run_kept c old new k is to once z run') (reads_kept c old new k is to once y x reads) (reads_kept c old new k is to once y z reads') t n early leaf
  ]

  -- two leaf values that have the same run agree, at the added inputs too
  pub one_value_more : (x : ℕ → ℕ → Bool) (y z : ℕ → Bool) → Reads c new (k + 1) y x → Reads c new (k + 1) z x → (n : ℕ) → IsLeaf new.nodes n → y n ≡ z n
  one_value_more x y z reads reads' n leaf = elim (cases_lt n (length old.nodes)) [
    | inl low ↦ to.one_value x y z (reads_kept c old new k is to once y x reads) (reads_kept c old new k is to once z x reads') n (sym (Grows-kept old.nodes new.nodes once.keeps.nodes n low) ∙ leaf)
    | inr past ↦ All-contains (λ n. y n ≡ z n) new_inputs n all_same (following-have new.nodes once.keeps.nodes.sound (length old.nodes) n leaf past)
  ]
    where
      all_same : All (λ n. y n ≡ z n) new_inputs
      all_same j d h =
          let there : j < length others = omega (arith, once.count) in
          let same = sym (reads_added c old new k is to once y x reads j there) ∙ reads_added c old new k is to once z x reads' j there in
          subst (λ n. y n ≡ z n) (get_or_default new_inputs j 0 d h) same

  -- ---- properties and the state

  -- old edges keep their values
  edges_kept : (y : ℕ → Bool) (e : AigEdge) → IsInRange old.nodes e → edge_value new.nodes y e ≡ edge_value old.nodes y e
  edges_kept y = edge_value-Grows old.nodes new.nodes is_old.nodes once.keeps.nodes y

  -- the lists show step k + 1 after the others, and the next edges the state after it
  pub same_more : (y : ℕ → Bool) (x : ℕ → ℕ → Bool) → IsRun c (k + 1) x → Reads c new (k + 1) y x → HasStepValues c new (k + 1) (edge_value new.nodes y) x
  same_more y x run reads =
      let early = to.same y x (run_kept c old new k is to once x run) (reads_kept c old new k is to once y x reads) in
      let last = once.values y (x (k + 1)) (reads_next c old new k is to once y x run reads) in
      let P = IsInRange old.nodes in
      let first = edge_value old.nodes y in
      let then = edge_value new.nodes y in
      record {
        properties = subst (λ p. PropertiesStandAtSteps (k + 1) value c.properties then p) (sym once.with_added) (properties_stand_more k value first then P (edges_kept y) c.properties old.properties once.added is_old.properties early.properties last.0);
        state =
            zip_turned (λ (m l : AigLatch). edge_value new.nodes y m.next ≡ edge_value c.nodes (x (k + 1)) l.next) new.latchs c.latchs
            (zip_unmapped (λ (l : AigLatch). l.next) (λ (l : AigLatch). l.next) (λ e f. edge_value new.nodes y e ≡ edge_value c.nodes (x (k + 1)) f) new.latchs c.latchs last.1);
      }
    where
      value : ℕ → AigEdge → Bool
      value t = edge_value c.nodes (x t)

  -- ---- initial states

  -- the values y are an initial state of the new circuit exactly if they are one of the old
  start_kept : (y : ℕ → Bool) → IsInitial new y ↔ IsInitial old y
  start_kept y = (
    λ start j d h.
        let latch = get_or old.latchs j d in
        moves old.nodes new.nodes latch.input latch.init (edges_kept y) (is_old.latchs j d h).init (latches_same (At new) new.latchs old.latchs (sym once.keeps.leaves) (sym once.keeps.starts) start j d h),
    λ start. latches_same (At new) old.latchs new.latchs once.keeps.leaves once.keeps.starts (λ j d h.
        let latch = get_or old.latchs j d in
        moves new.nodes old.nodes latch.input latch.init (λ e there. sym (edges_kept y e there)) (is_old.latchs j d h).init (start j d h)),
  )
    where
      At : Circuit → ℕ → Option AigEdge → Type 0
      At circuit n init = IfSome init (λ e. edge_value circuit.nodes y e ≡ y n)

      moves : (xs ys : List AigNode) (n : ℕ) (init : Option AigEdge) → ((e : AigEdge) → IsInRange old.nodes e → edge_value ys y e ≡ edge_value xs y e) → IfSome init (IsInRange old.nodes) → IfSome init (λ e. edge_value ys y e ≡ y n) → IfSome init (λ e. edge_value xs y e ≡ y n)
      moves xs ys n None same there h = tt
      moves xs ys n (Some e) same there h = sym (same e there) ∙ h

  -- initial states are those of the first step
  pub starts_more : (y : ℕ → Bool) (x : ℕ → ℕ → Bool) → IsRun c (k + 1) x → Reads c new (k + 1) y x → IsInitial new y ↔ IsInitial c (x 0)
  starts_more y x run reads =
      let early = to.starts y x (run_kept c old new k is to once x run) (reads_kept c old new k is to once y x reads) in
      let kept = start_kept y in
      (λ start. early.0 (kept.0 start), λ start. kept.1 (early.1 start))

  -- ---- size

  -- one more step takes no more nodes than its share
  pub size_more : length new.nodes ≤ unrolled_size c (k + 1)
  size_more = longer k (length c.nodes - 1 - length c.latchs) (length c.nodes) to.size once.size
    where
      longer : (k s n : ℕ) → length old.nodes ≤ n + k * s → length new.nodes ≤ length old.nodes + s → length new.nodes ≤ n + (k + 1) * s
      longer k s n h l = omega arith

  -- ---- all of it

  -- one step more unrolls by one more
  pub unrolls_more : UnrollsTo c (k + 1) new
  unrolls_more = record {
    keeps = KeepsCircuit-then c old new to.keeps once.keeps;
    inputs = inputs_more;
    run_of = run_of_more;
    values_of = values_of_more;
    one_run = one_run_more;
    one_value = one_value_more;
    same = same_more;
    starts = starts_more;
    size = size_more;
    exact = once.exact ∙ ap (with_step c) to.exact ∙ sym (ap (with_steps c) (add-one k));
  }
