use Rattle.aig_check_commands.proofs.Words.{rules, Buffers-trans, failed_among, failed_first, then_call, condition_name}
use Rattle.std.proofs.Common.{[], ◌∷◌}
use Rattle.aig_check_commands.proofs.lines.titles.title.buffer_condition.Goals as goal

pub returns-in_err-write_bytes : goal.returns-in_err-write_bytes
returns-in_err-write_bytes g c =
    failed_first (condition_name c.args.condition ∷ (32 ∷ []) ∷ [])
    c.in_err-write_bytes.ensures (search rules)

pub returns-in_err-write_bytes-2 : goal.returns-in_err-write_bytes-2
returns-in_err-write_bytes-2 g c =
    failed_among ((32 ∷ []) ∷ []) c.in_ok-write_bytes.ensures.ok
    (rw (c.as_bytes.ensures.value, c.name.ensures) at c.in_err-write_bytes-2.ensures) (search rules)

pub returns : goal.returns
returns g c =
    then_call (Buffers-trans c.in_ok-write_bytes.ensures.ok
    (rw (c.as_bytes.ensures.value, c.name.ensures) at c.in_ok-write_bytes-2.ensures.ok))
    c.write_bytes-3.ensures
