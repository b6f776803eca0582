use Rattle.aig_answers.proofs.Words.{ℕ, false, [], ◌∷◌, ◌++◌, ◌∙◌, ap, ap₂, arith, map, map_more, map_push, sym, take, take_all, latch_leaves, AigLatch}
use Rattle.aig_circuit.specs.Edge.{edge_to}
use Rattle.aig_answers.proofs.windows.leaf_edges.Goals as goal

pub loop-latch-preserved : goal.loop-latch-preserved
loop-latch-preserved c =
    let latchs = c.args.latchs.now in
    let i = c.loop-latch.latch-index in
    let edge = λ (n : ℕ). edge_to n false in
    let more = ap (map edge) (map_more (λ (latch : AigLatch). latch.input) latchs i _ c.loop-latch-test.true)
    ∙ map_push edge (latch_leaves (take i latchs)) _ in (
      c.push_reserved.ensures.items
          ∙ ap₂ (λ xs x. xs ++ x ∷ []) c.loop-latch.invariant.0 (c.from.ensures ∙ ap edge c.input.ensures)
          ∙ sym more,
      omega arith,
    )

pub returns : goal.returns
returns c =
    c.loop-latch.invariant.0
    ∙ ap (λ latchs. map (λ n. edge_to n false) (latch_leaves latchs))
    (take_all c.loop-latch.latch-index c.args.latchs.now c.loop-latch-test.false)
