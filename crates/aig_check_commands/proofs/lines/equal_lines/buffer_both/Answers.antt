use Rattle.std.proofs.Common.{[], ◌∷◌, rules}
use Rattle.aig_output.proofs.Putting.{failed_first, then_call}
use Rattle.aig_check_commands.proofs.lines.equal_lines.buffer_both.Goals as goal

pub returns-in_err-write_bytes : goal.returns-in_err-write_bytes
returns-in_err-write_bytes g c =
    failed_first (c.args.second.now ∷ []) c.in_err-write_bytes.ensures (search rules)

pub returns : goal.returns
returns g c = then_call c.in_ok-write_bytes.ensures.ok c.write_bytes-2.ensures
