use Rattle.std.proofs.Common.{rules}
use Rattle.aig_output.proofs.Putting.{failed_put, written_through}
use Rattle.aig_edits.proofs.info.write_counts.Goals as goal

pub returns-in_err-write_lines : goal.returns-in_err-write_lines
returns-in_err-write_lines g c = failed_put (rw c.new-buffer.ensures at
    c.in_err-write_lines.ensures.err) (search rules)

pub returns : goal.returns
returns g c = written_through c.new-buffer.ensures c.in_ok-write_lines.ensures.ok
    c.flush.ensures.writes
