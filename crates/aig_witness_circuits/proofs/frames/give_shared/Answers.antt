use Rattle.aig_witness_circuits.proofs.Words.{ap, arith, get_or, given_at, image_at, length, model_leaf, shared_leaves, take_all, ℕ, ◌<◌, ◌∙◌}
use Rattle.aig_witness_circuits.proofs.First.{model_leaf-first, written_more}
use Rattle.aig_witness_circuits.proofs.frames.give_shared.Goals as goal

pub loop-pair-preserved : goal.loop-pair-preserved
loop-pair-preserved c = λ n.
    let shared = c.args.shared.now in
    let i = c.loop-pair.pair-index in
    let given = c.loop-pair.given in
    let inside : (get_or shared i (0, 0)).1 < length given = omega (
      arith,
      c.requires.leaves i (0, 0) c.loop-pair-test.true,
      c.loop-pair.auto.given,
    ) in
    written_more (λ (p : ℕ × ℕ). p.1) (λ p. p.0) model_leaf model_leaf-first
    (image_at c.args.images.now) shared i (0, 0) c.args.given.now given c.loop-pair-test.true
    c.requires.distinct inside c.loop-pair.invariant n

pub returns : goal.returns
returns c = λ n.
    c.loop-pair.invariant n
    ∙ ap (λ l. shared_leaves (model_leaf l) c.args.images.now (given_at c.args.given.now) n)
    (take_all c.loop-pair.pair-index c.args.shared.now c.loop-pair-test.false)
