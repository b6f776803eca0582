use Rattle.aig_check_commands.proofs.Words.{decimal, rules, Buffers-trans, failed_among, failed_first, then_call, form_text}
use Rattle.std.proofs.Common.{[], ◌∷◌, ◌++◌}
use Rattle.aig_check_commands.proofs.lines.titles.title.buffer_numbered.Goals as goal

pub returns-in_err-write_bytes : goal.returns-in_err-write_bytes
returns-in_err-write_bytes g c =
    failed_first ((decimal c.args.k ++ 32 ∷ []) ∷ form_text c.args.form ∷ [])
    c.in_err-write_bytes.ensures (search rules)

pub returns-in_err-write_number : goal.returns-in_err-write_number
returns-in_err-write_number g c =
    failed_among (form_text c.args.form ∷ []) c.in_ok-write_bytes.ensures.ok
    c.in_err-write_number.ensures (search rules)

pub returns : goal.returns
returns g c =
    then_call (Buffers-trans c.in_ok-write_bytes.ensures.ok c.in_ok-write_number.ensures.ok)
    (rw c.form_word.ensures at c.write_bytes-2.ensures)
