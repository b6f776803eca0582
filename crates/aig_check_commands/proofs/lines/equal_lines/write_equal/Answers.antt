use Rattle.aig_check_commands.proofs.Words.{rules, failed_put, written_through}
use Rattle.aig_check_commands.proofs.lines.equal_lines.write_equal.Goals as goal

pub returns-in_err-buffer_equal : goal.returns-in_err-buffer_equal
returns-in_err-buffer_equal g c =
    failed_put (rw c.new-buffer.ensures at c.in_err-buffer_equal.ensures.err) (search rules)

pub returns : goal.returns
returns g c =
    written_through c.new-buffer.ensures c.in_ok-buffer_equal.ensures.ok c.flush.ensures.writes
