use Rattle.aig_check_commands.proofs.Words.{rules, comparison_text, failed_first, then_call}
use Rattle.std.proofs.Common.{[], ◌∷◌, ◌++◌}
use Rattle.aig_check_commands.proofs.lines.equal_lines.buffer_always.Goals as goal

pub returns-in_err-write_bytes : goal.returns-in_err-write_bytes
returns-in_err-write_bytes g c =
    failed_first ((comparison_text c.args.comparison ++ 10 ∷ []) ∷ []) c.in_err-write_bytes.ensures
    (search rules)

pub returns : goal.returns
returns g c =
    then_call c.in_ok-write_bytes.ensures.ok
    (rw (c.as_bytes.ensures.value, c.as_bytes-2.ensures.value, c.comparison_end.ensures.text)
    at c.buffer_both.ensures)
