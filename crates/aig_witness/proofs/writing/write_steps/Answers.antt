use Rattle.std.proofs.Common.{rules}
use Rattle.aig_output.proofs.Putting.{Buffers-turn, all_done, failed_turn}
use Rattle.aig_witness.proofs.Pieces.{list_text, steps_pieces}
use Rattle.aig_witness.proofs.writing.write_steps.Goals as goal

pub returns-in_err-write_row : goal.returns-in_err-write_row
returns-in_err-write_row g c =
    rw (steps_pieces c.args.steps.now)
    (failed_turn list_text c.args.steps.now c.loop-step.step-index c.step-item.result c.loop-step-test.true c.loop-step.invariant (rw (c.deref.ensures.value, c.step-item.is) at c.in_err-write_row.ensures) (search rules))

pub loop-step-preserved : goal.loop-step-preserved
loop-step-preserved g c =
    Buffers-turn list_text c.args.steps.now c.loop-step.step-index c.step-item.result c.loop-step-test.true c.loop-step.invariant (rw (c.deref.ensures.value, c.step-item.is) at c.in_ok-write_row.ensures.ok)

pub returns : goal.returns
returns g c = rw (steps_pieces c.args.steps.now) (all_done list_text c.args.steps.now c.loop-step.step-index c.loop-step-test.false c.loop-step.invariant)
