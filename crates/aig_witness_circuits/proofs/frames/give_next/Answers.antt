use Rattle.aig_witness_circuits.proofs.Words.{AigEdge, AigLatch, Some, ap, ap₂, arith, get_or, given_at, image_in, length, next_leaves, next_of, no_latch, option_or, set, take_all, ℕ, ◌<◌, ◌∙◌}
use Rattle.aig_witness_circuits.proofs.First.{next_of-first, written_more}
use Rattle.aig_witness_circuits.proofs.frames.give_next.Goals as goal

pub loop-latch-preserved : goal.loop-latch-preserved
loop-latch-preserved c = λ n.
    let latchs = c.args.latchs.now in
    let images = c.args.images.now in
    let i = c.loop-latch.latch-index in
    let given = c.loop-latch.given in
    let next = c.image_of.ensures ∙ ap (image_in images) c.next.ensures in
    let inside : (get_or latchs i no_latch).input < length given = omega (
      arith,
      c.requires.leaves i no_latch c.loop-latch-test.true,
      c.loop-latch.auto.given,
    ) in
    ap (λ l. given_at l n)
    (ap₂ (λ (k : ℕ) (e : AigEdge). set given k (Some e)) c.input.ensures next)
    ∙ written_more (λ (l : AigLatch). l.input) (λ l. l.next) next_of next_of-first (image_in images)
    latchs i no_latch c.args.given.now given c.loop-latch-test.true c.requires.distinct inside
    c.loop-latch.invariant n

pub returns : goal.returns
returns c = λ n.
    c.loop-latch.invariant n
    ∙ ap (λ l. option_or (next_leaves l c.args.images.now n) (given_at c.args.given.now n))
    (take_all c.loop-latch.latch-index c.args.latchs.now c.loop-latch-test.false)
