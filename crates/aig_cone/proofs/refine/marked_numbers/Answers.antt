use Rattle.aig_base.proofs.Words.{ℕ, Vec, Global, ap, subst, ◌∙◌, take_all}
use Rattle.aig_cone.specs.Marks.{AreMarked}
use Rattle.aig_cone.proofs.Numbers.{AreMarked-none, AreMarked-push, AreMarked-skip}
use Rattle.aig_cone.proofs.refine.marked_numbers.Goals as goal
use Rattle.aig_cone.proofs.refine.marked_numbers.Goals.{then-marked+in_ok-push, else-marked}

pub loop-id-preserved : goal.loop-id-preserved
loop-id-preserved c =
    let marks = c.args.marks.now in
    let before = c.loop-id.numbers.items in
    let after = c.if-marked.numbers.items in
    elim c.if-marked.branch [
      | then-marked+in_ok-push w ↦ AreMarked-push marks c.loop-id.id before after c.loop-id-test.true w.if-marked.true (ap (λ (v : Vec ℕ Global). v.items) w.numbers-is ∙ w.in_ok-push.ensures.items) c.loop-id.invariant
      | else-marked w ↦ AreMarked-skip marks c.loop-id.id before after c.loop-id-test.true w.if-marked.false (ap (λ (v : Vec ℕ Global). v.items) w.numbers-is) c.loop-id.invariant
    ]

pub loop-id-init : goal.loop-id-init
loop-id-init c = rw c.new-numbers.ensures.items AreMarked-none

pub returns : goal.returns
returns c = subst (λ marks. AreMarked marks c.loop-id.numbers.items) (take_all c.loop-id.id c.args.marks.now c.loop-id-test.false) c.loop-id.invariant
