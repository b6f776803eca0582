use Rattle.std.proofs.Common.{rules}
use Rattle.aig_output.proofs.Writing.{all_done, calls_laws, failed_turn, then_turn}
use Rattle.aig_writer.specs.Numbering.{written_number}
use Rattle.aig_circuit.specs.Renumber.{renumbered_latch}
use Rattle.aig_writer.proofs.Items.{text_of_latch, numbered_latches}
use Rattle.aig_writer.proofs.Small.{latch_small}
use Rattle.aig_writer.proofs.sections.write_latches.Goals as goal

pub write_latch-requires : goal.write_latch-requires
write_latch-requires g c =
    latch_small c.args.circuit.now c.latchs-latch-items.ensures.circuit c.args.numbers.now c.requires c.latchs-latch-items.result.now c.loop-latch.latch-index _ c.latchs-latch-items.ensures.value c.loop-latch-test.true

pub returns-in_err-write_latch : goal.returns-in_err-write_latch
returns-in_err-write_latch g c =
    rw (← c.latchs-latch-items.ensures.value, numbered_latches (written_number c.args.numbers.now) c.args.kind c.latchs-latch-items.result.now)
    (failed_turn calls_laws {c = c.write_latch.new.out} (λ l. text_of_latch c.args.kind (renumbered_latch (written_number c.args.numbers.now) l)) c.latchs-latch-items.result.now c.loop-latch.latch-index _ c.loop-latch-test.true c.loop-latch.invariant c.in_err-write_latch.ensures (search rules))

pub loop-latch-preserved : goal.loop-latch-preserved
loop-latch-preserved g c =
    then_turn (λ l. text_of_latch c.args.kind (renumbered_latch (written_number c.args.numbers.now) l)) c.latchs-latch-items.result.now c.loop-latch.latch-index _ c.loop-latch-test.true c.loop-latch.invariant c.in_ok-write_latch.ensures.ok

pub returns : goal.returns
returns g c =
    rw (← c.latchs-latch-items.ensures.value, numbered_latches (written_number c.args.numbers.now) c.args.kind c.latchs-latch-items.result.now)
    (all_done (λ l. text_of_latch c.args.kind (renumbered_latch (written_number c.args.numbers.now) l)) c.latchs-latch-items.result.now c.loop-latch.latch-index c.loop-latch-test.false c.loop-latch.invariant)
