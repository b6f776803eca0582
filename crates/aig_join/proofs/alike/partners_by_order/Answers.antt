use Rattle.aig_base.proofs.Words.{◌+◌, ◌∙◌, ◌++◌, ◌∷◌, [], true, false, ap, sym, arith, append-nil, drop, drop_all, map, slice_get}
use Rattle.std.specs.Option.{is_none}
use Rattle.aig_join.specs.Starts.{in_turn}
use Rattle.aig_join.proofs.Partners.{get-copied, in_turn-more, none-is, register}
use Rattle.aig_join.proofs.alike.partners_by_order.Goals as goal
use Rattle.aig_join.proofs.alike.partners_by_order.Goals.{then-is_none+in_ok-push, else-is_none+in_ok-push-2}

pub loop-latch-init : goal.loop-latch-init
loop-latch-init c = record {
  used = omega arith;
  items = ap (λ os. os ++ in_turn c.in_ok-leaves.leaves.items
      (map (register c.args.b.now.names) c.latchs-latch-items.result.now))
      c.in_ok-made.ensures.items;
}

pub loop-latch-preserved : goal.loop-latch-preserved
loop-latch-preserved c =
    let items = c.latchs-latch-items.result.now in
    let names = c.args.b.now.names in
    let i = c.loop-latch.latch-index in
    let leaves = c.in_ok-leaves.leaves.items in
    let before = c.loop-latch.made.items in
    let after = c.if-is_none.made.items in
    let free = sym (ap is_none c.init.ensures)
    ∙ none-is c.init.result c.is_none.result c.is_none.ensures in
    elim c.if-is_none.branch [
      | then-is_none+in_ok-push w ↦ record {
        used = omega (arith, w.used-is, c.loop-latch.invariant.used);
        items = ap (λ n. after ++ in_turn (drop n leaves) (map (register names)
            (drop (i + 1) items))) w.used-is
            ∙ in_turn-more names items i _ leaves c.loop-latch.used before after
            (in_turn leaves (map (register names) items)) true c.loop-latch-test.true
            c.loop-latch.invariant.items (free ∙ w.if-is_none.true)
            (ap (λ made. made.items) w.made-is ∙ w.in_ok-push.ensures.items
            ∙ ap (λ o. before ++ o ∷ []) (w.copied.ensures
            ∙ get-copied w.deref.result.now c.loop-latch.used w.get.result
            w.get.ensures.lookup.0 w.get.ensures.lookup.1
            ∙ ap (λ ns. slice_get ns c.loop-latch.used) w.deref.ensures.value));
      }
      | else-is_none+in_ok-push-2 w ↦ record {
        used = omega (arith, w.used-is, c.loop-latch.invariant.used);
        items = ap (λ n. after ++ in_turn (drop n leaves) (map (register names)
            (drop (i + 1) items))) w.used-is
            ∙ in_turn-more names items i _ leaves c.loop-latch.used before after
            (in_turn leaves (map (register names) items)) false c.loop-latch-test.true
            c.loop-latch.invariant.items (free ∙ w.if-is_none.false)
            (ap (λ made. made.items) w.made-is ∙ w.in_ok-push-2.ensures.items);
      }
    ]

pub returns : goal.returns
returns c =
    let items = c.latchs-latch-items.result.now in
    let names = c.args.b.now.names in
    let leaves = c.in_ok-leaves.leaves.items in
    sym (append-nil c.loop-latch.made.items)
    ∙ ap (λ ls. c.loop-latch.made.items ++ in_turn (drop c.loop-latch.used leaves)
    (map (register names) ls)) (sym (drop_all c.loop-latch.latch-index items
    c.loop-latch-test.false))
    ∙ c.loop-latch.invariant.items
    ∙ (λ i. in_turn (c.in_ok-leaves.ensures i) (map (register names)
    (c.latchs-latch-items.ensures.value i)))
