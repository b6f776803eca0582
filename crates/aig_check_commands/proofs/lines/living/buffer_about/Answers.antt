use Rattle.std.proofs.Common.{[], ◌∷◌, ◌++◌, decimal, rules}
use Rattle.aig_output.proofs.Putting.{Buffers-trans, failed_among, failed_first, then_call}
use Rattle.aig_check_commands.proofs.lines.living.buffer_about.Goals as goal

pub returns-in_err-write_bytes : goal.returns-in_err-write_bytes
returns-in_err-write_bytes g c =
    failed_first ((decimal c.args.number ++ c.args.end ∷ []) ∷ c.args.more.now ∷ [])
    c.in_err-write_bytes.ensures (search rules)

pub returns-in_err-write_number : goal.returns-in_err-write_number
returns-in_err-write_number g c =
    failed_among (c.args.more.now ∷ []) c.in_ok-write_bytes.ensures.ok c.in_err-write_number.ensures
    (search rules)

pub returns : goal.returns
returns g c =
    then_call (Buffers-trans c.in_ok-write_bytes.ensures.ok c.in_ok-write_number.ensures.ok)
    c.write_bytes-2.ensures
