use Rattle.aig_check_commands.proofs.Words.{decimal, rules, codes, Buffers-trans, failed_among, failed_first, then_call}
use Rattle.std.proofs.Common.{[], ◌∷◌, ◌++◌}
use Rattle.aig_check_commands.proofs.lines.line.buffer_named.Goals as goal

pub returns-in_err-write_bytes : goal.returns-in_err-write_bytes
returns-in_err-write_bytes g c =
    failed_first ((decimal c.args.number ++ 32 ∷ []) ∷ codes "at step " ∷ (decimal c.args.step ++ c.args.end ∷ []) ∷ []) c.in_err-write_bytes.ensures (search rules)

pub returns-in_err-write_number : goal.returns-in_err-write_number
returns-in_err-write_number g c =
    failed_among (codes "at step " ∷ (decimal c.args.step ++ c.args.end ∷ []) ∷ [])
    c.in_ok-write_bytes.ensures.ok c.in_err-write_number.ensures (search rules)

pub returns-in_err-write_bytes-2 : goal.returns-in_err-write_bytes-2
returns-in_err-write_bytes-2 g c =
    failed_among ((decimal c.args.step ++ c.args.end ∷ []) ∷ []) (Buffers-trans c.in_ok-write_bytes.ensures.ok c.in_ok-write_number.ensures.ok) c.in_err-write_bytes-2.ensures (search rules)

pub returns : goal.returns
returns g c = then_call (Buffers-trans (Buffers-trans c.in_ok-write_bytes.ensures.ok c.in_ok-write_number.ensures.ok) c.in_ok-write_bytes-2.ensures.ok) c.write_number-2.ensures
