use Rattle.aig_base.proofs.Words.{◌∙◌, ◌++◌, ◌∷◌, [], true, false, ap, sym, append-nil, map, take_all}
use Rattle.std.specs.Option.{is_none}
use Rattle.aig_join.specs.Starts.{open_places}
use Rattle.aig_join.proofs.Partners.{none-is, open-more, register}
use Rattle.aig_join.proofs.alike.open_leaves.Goals as goal
use Rattle.aig_join.proofs.alike.open_leaves.Goals.{then-is_none+in_ok-push, else-is_none}

pub loop-latch-init : goal.loop-latch-init
loop-latch-init c = c.new-leaves.ensures.items

pub loop-latch-preserved : goal.loop-latch-preserved
loop-latch-preserved c =
    let items = c.latchs-latch-items.result.now in
    let before = c.loop-latch.leaves.items in
    let free = sym (ap is_none c.init.ensures)
    ∙ none-is c.init.result c.is_none.result c.is_none.ensures in
    elim c.if-is_none.branch [
      | then-is_none+in_ok-push w ↦ open-more c.args.circuit.now.names items
          c.loop-latch.latch-index _ before c.if-is_none.leaves.items true c.loop-latch-test.true
          c.loop-latch.invariant (free ∙ w.if-is_none.true)
          (ap (λ leaves. leaves.items) w.leaves-is ∙ w.in_ok-push.ensures.items
          ∙ ap (λ n. before ++ n ∷ []) w.input.ensures)
      | else-is_none w ↦ open-more c.args.circuit.now.names items
          c.loop-latch.latch-index _ before c.if-is_none.leaves.items false
          c.loop-latch-test.true c.loop-latch.invariant (free ∙ w.if-is_none.false)
          (ap (λ leaves. leaves.items) w.leaves-is ∙ sym (append-nil before))
    ]

pub returns : goal.returns
returns c = c.loop-latch.invariant
    ∙ ap (λ latchs. open_places (map (register c.args.circuit.now.names) latchs))
    (take_all c.loop-latch.latch-index c.latchs-latch-items.result.now c.loop-latch-test.false
    ∙ c.latchs-latch-items.ensures.value)
