use Rattle.std.proofs.Common.{ap, arith, get_or, ◌∙◌}
use Rattle.aig_strash.proofs.Numbered.{image-at, kept-more, kept-same}
use Rattle.aig_strash.proofs.hashing.kept_among.Goals as goal
use Rattle.aig_strash.proofs.hashing.kept_among.Goals.{then-number-len+in_ok-push, else-number-len}

pub loop-n-preserved : goal.loop-n-preserved
loop-n-preserved c nodes are made =
    let n = c.loop-n.n in
    let number = get_or c.args.numbers.now n 0 in
    let old = c.loop-n.kept.items in
    let at = image-at nodes are c.args.numbers.now made n 0 c.loop-n-test.true in
    let so_far = c.loop-n.invariant nodes are made in
    elim c.if-number-len.branch [
      | then-number-len+in_ok-push w ↦ ap (λ v. v.items) w.kept-is ∙ kept-more nodes are n at.0 old _ number so_far at.1 (omega arith) w.in_ok-push.ensures.items
      | else-number-len w ↦ ap (λ v. v.items) w.kept-is ∙ kept-same nodes are n at.0 old number so_far at.1 (λ e. w.if-number-len.false (omega arith))
    ]
