use Rattle.std.proofs.Common.{[], ◌∷◌, rules}
use Rattle.aig_output.proofs.Putting.{Buffers-end, Buffers-turn, failed_within, then_call}
use Rattle.aig_witness.proofs.Pieces.{row_pieces, value_text}
use Rattle.aig_witness.proofs.writing.write_row.Goals as goal

pub returns-in_err-write_value : goal.returns-in_err-write_value
returns-in_err-write_value g c =
    rw (row_pieces c.args.values.now)
    (failed_within ((10 ∷ []) ∷ []) value_text c.args.values.now c.loop-value.value-index _ c.loop-value-test.true c.loop-value.invariant c.in_err-write_value.ensures (search rules))

pub loop-value-preserved : goal.loop-value-preserved
loop-value-preserved g c = Buffers-turn value_text c.args.values.now c.loop-value.value-index _ c.loop-value-test.true c.loop-value.invariant c.in_ok-write_value.ensures.ok

pub returns : goal.returns
returns g c =
    rw (row_pieces c.args.values.now) (then_call (Buffers-end value_text c.args.values.now c.loop-value.value-index c.loop-value-test.false c.loop-value.invariant) c.write_bytes.ensures)
