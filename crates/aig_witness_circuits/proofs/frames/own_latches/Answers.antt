use Rattle.aig_witness_circuits.proofs.Words.{AigLatch, All, All-filter, Bool, Global, IsLatch, Leaf, List, Sharing, Vec, [], ap, append-nil, arith, cond, false, filter_more, get_or, get_or-replicate, get_or_default, is_in, kind_at-within, length, length-replicate, map, no_latch, not, own_among, replicate, subst, sym, take_all, take_at, true, ℕ, ◌++◌, ◌+◌, ◌<◌, ◌||◌, ◌∙◌, ◌∷◌, ◌≡◌}
use Rattle.aig_base.proofs.Words.{take}
use Rattle.aig_witness_circuits.proofs.Owned.{is_own}
use Rattle.aig_witness_circuits.proofs.frames.own_latches.Goals as goal
use Rattle.aig_witness_circuits.proofs.frames.own_latches.Goals.{Joined-not-index, then-not-index+in_ok-push, else-not-index}

-- the leaf of the latch is marked exactly where it is shared
marked : (c : Joined-not-index)
    → c.index.result.now
    ≡ is_in (map (λ (p : ℕ × ℕ). p.1) c.args.shared.now)
    (get_or c.latchs-latch-items.result.now c.loop-latch.latch-index no_latch).input
marked c =
    let witness = c.args.witness.now in
    let i = c.loop-latch.latch-index in
    let leaf = (get_or c.latchs-latch-items.result.now i no_latch).input in
    let zeros = c.deref_mut.result.now in
    let marks = c.mark_shared.new.marks in
    let count = length c.nodes.result.now in
    let none : zeros ≡ replicate count false =
    c.deref_mut.ensures.value ∙ c.in_ok-marks.ensures.items_if_clones_equal (λ y e. e) in
    let long : length marks ≡ c.in_ok-marks.marks.len = omega (
      arith,
      c.mark_shared.auto.marks,
      c.in_ok-marks.marks.ok.0,
      ap length c.deref_mut.ensures.value,
    ) in
    let same = c.latchs-latch-items.ensures.value in
    let is = c.nodes.ensures.circuit in
    let test : i < length witness.latchs = subst (λ l. i < length l) same c.loop-latch-test.true in
    let low : (get_or witness.latchs i no_latch).input < length witness.nodes =
    kind_at-within witness.nodes (get_or witness.latchs i no_latch).input Leaf
    (is.latchs i no_latch test).leaf in
    let leaf_is : leaf ≡ (get_or witness.latchs i no_latch).input =
    ap (λ (l : List AigLatch). (get_or l i no_latch).input) same in
    let as_many : count ≡ length witness.nodes = ap length c.nodes.ensures.value in
    let within : leaf < count = omega (arith, low, leaf_is, as_many) in
    let zero_length : length zeros ≡ count = ap length none ∙ length-replicate count false in
    let inside : leaf < length zeros = omega arith in
    let inside_marks : leaf < length marks = omega (arith, c.mark_shared.auto.marks) in
    let read : c.index.result.now ≡ get_or marks leaf c.index.result.now =
    subst (λ n. c.index.result.now ≡ get_or marks n c.index.result.now) c.input.ensures
    (subst (λ l. c.index.result.now ≡ get_or l c.input.result c.index.result.now)
    (take_at marks _ c.in_ok-marks.marks.len long) c.index.ensures) in
    read
    ∙ get_or_default marks leaf c.index.result.now false inside_marks
    ∙ c.mark_shared.ensures leaf inside
    ∙ ap (λ b. b || is_in (map (λ (p : ℕ × ℕ). p.1) c.args.shared.now) leaf)
    (ap (λ l. get_or l leaf false) none ∙ get_or-replicate count leaf false false within)

-- one latch more
one_more : (shared : Sharing) (latchs : List AigLatch) (i : ℕ) (d : AigLatch)
    (own new : List AigLatch) (b : Bool) → i < length latchs → own ≡ own_among shared (take i
    latchs)
    → is_own shared (get_or latchs i d) ≡ b → new ≡ own ++ cond b (get_or latchs i d ∷ []) []
    → new ≡ own_among shared (take (i + 1) latchs)
one_more shared latchs i d own new b within so_far is pushed =
    pushed
    ∙ ap (λ l. l ++ cond b (get_or latchs i d ∷ []) []) so_far
    ∙ ap (λ v. own_among shared (take i latchs) ++ cond v (get_or latchs i d ∷ []) []) (sym is)
    ∙ sym (filter_more (is_own shared) latchs i d within)

pub loop-latch-preserved : goal.loop-latch-preserved
loop-latch-preserved c =
    let shared = c.args.shared.now in
    let latchs = c.latchs-latch-items.result.now in
    let i = c.loop-latch.latch-index in
    let own = c.loop-latch.own.items in
    let new = c.if-not-index.own.items in
    let is = ap not (sym (marked c)) in
    elim c.if-not-index.branch [
      | then-not-index+in_ok-push w ↦
          one_more shared latchs i no_latch own new true c.loop-latch-test.true
          c.loop-latch.invariant
          (is ∙ ap not w.if-not-index.true)
          (ap (λ (v : Vec AigLatch Global). v.items) w.own-is ∙ w.in_ok-push.ensures.items)
      | else-not-index w ↦
          one_more shared latchs i no_latch own new false c.loop-latch-test.true
          c.loop-latch.invariant
          (is ∙ ap not w.if-not-index.false)
          (ap (λ (v : Vec AigLatch Global). v.items) w.own-is ∙ sym (append-nil own))
    ]

pub returns-clause-latchs : goal.returns-clause-latchs
returns-clause-latchs c =
    let witness = c.args.witness.now in
    let same = c.latchs-latch-items.ensures.value in
    subst (All (IsLatch witness.nodes))
    (sym (c.loop-latch.invariant
    ∙ ap (own_among c.args.shared.now)
    (take_all c.loop-latch.latch-index c.latchs-latch-items.result.now c.loop-latch-test.false
    ∙ same)))
    (All-filter (is_own c.args.shared.now) (IsLatch witness.nodes) witness.latchs
    c.nodes.ensures.circuit.latchs)
