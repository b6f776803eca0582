use Rattle.aig_answers.proofs.Words.{◌<◌, true, length, get_or, set, sym, ap, subst, ◌∙◌, arith, length-map, length-set, AigLatch, latch_leaves, Named, HasName}
use borrow.Author.Count.{below_more}
use Rattle.aig_answers.proofs.Names.{AreNamed, HasName-kept, HasName-written, latch_leaf, latch_named, latch_within}
use Rattle.aig_answers.proofs.bounded_checks.naming.name_latchs.Goals as goal

pub loop-number-preserved : goal.loop-number-preserved
loop-number-preserved c =
    let circuit = c.args.circuit.now in
    let is = c.latchs-latch-items.ensures.circuit in
    let same = c.latchs-latch-items.ensures.value in
    let i = c.loop-number.number in
    let n = c.input.result in
    let names = c.loop-number.names in
    let leaf = latch_leaf circuit is _ same i n _ c.loop-number-test.true c.input.ensures in
    let named = latch_named circuit is _ same i n _ c.loop-number-test.true c.input.ensures in
    let within = latch_within circuit is _ same i n _ c.loop-number-test.true c.input.ensures in
    let count = c.loop-number.invariant.0 in
    let name : Named = record { step = 0; is_latch = true; number = i } in
    let low : n < length names = omega (arith, within, count) in (
      length-set names n name ∙ count,
      λ m has. HasName-kept circuit names n name low named m (c.loop-number.invariant.1 m has),
      below_more (λ k. HasName circuit (set names n name) (get_or (latch_leaves circuit.latchs) k
          0)) i
          (λ k lt. HasName-kept circuit names n name low named (get_or (latch_leaves
          circuit.latchs) k 0) (c.loop-number.invariant.2 k lt))
          (subst (HasName circuit (set names n name)) (sym leaf) (HasName-written circuit names n
          name low named)),
    )

pub returns-clause-named : goal.returns-clause-named
returns-clause-named c =
    let circuit = c.args.circuit.now in
    let long = length-map circuit.latchs (λ (latch : AigLatch). latch.input) in
    let count = ap length c.latchs-latch-items.ensures.value in
    AreNamed circuit c.loop-number.names (latch_leaves circuit.latchs) c.loop-number.number (omega
    (arith, long, count, c.loop-number-test.false)) c.loop-number.invariant.2

pub bounds-names-input : goal.bounds-names-input
bounds-names-input c =
    omega (
      arith,
      latch_within c.args.circuit.now c.latchs-latch-items.ensures.circuit _
          c.latchs-latch-items.ensures.value c.loop-number.number c.input.result _ c.loop-number-test.true
          c.input.ensures,
      c.loop-number.invariant.0,
    )
