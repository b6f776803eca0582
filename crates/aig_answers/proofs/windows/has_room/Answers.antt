use Rattle.std.proofs.Common.{◌∙◌, arith}
use Rattle.aig_answers.proofs.Pairs.{no_room}
use Rattle.aig_answers.proofs.windows.has_room.Goals as goal
use Rattle.aig_answers.proofs.windows.has_room.Goals.{in-Plain, in-Distinct}

pub returns-then-pairs-limit : goal.returns-then-pairs-limit
returns-then-pairs-limit c = elim c.match-form.branch [
  | in-Plain w ↦ absurd (omega arith)
  | in-Distinct w ↦ (
    λ is. cc,
    λ low. absurd (no_room c.args.form c.args.circuit.now c.args.k c.args.limit c.match-form.pairs c.latchs-latchs.result.now w.in-Distinct.is c.latchs-latchs.ensures.value (w.pairs-is ∙ w.pairs_of-pairs.ensures) c.if-latchs-ne0.true c.if-pairs-limit.true low),
  )
]
