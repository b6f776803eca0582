use Rattle.aig_check_commands.proofs.Words.{rules, encode_lower, failed_first, then_call}
use Rattle.std.proofs.Common.{[], ◌∷◌}
use Rattle.aig_check_commands.proofs.lines.titles.title.buffer_beside.Goals as goal

pub returns-in_err-write_bytes-in-Some : goal.returns-in_err-write_bytes-in-Some
returns-in_err-write_bytes-in-Some g c =
    rw c.in-Some.is
    (failed_first (encode_lower c.in-Some.sum ∷ []) c.in_err-write_bytes-in-Some.ensures (search rules))

pub returns-in_ok-write_bytes-in-Some : goal.returns-in_ok-write_bytes-in-Some
returns-in_ok-write_bytes-in-Some g c =
    rw c.in-Some.is
    (then_call c.in_ok-write_bytes-in-Some.ensures.ok (rw c.hex_of.ensures at c.write_bytes-in-Some.ensures))
