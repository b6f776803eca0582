use Rattle.std.proofs.Common.{rules}
use Rattle.aig_output.proofs.Putting.{failed_put, written_through}
use Rattle.aig_command_line.proofs.line.write_text.Goals as goal

pub returns-in_err-buffer_text : goal.returns-in_err-buffer_text
returns-in_err-buffer_text g c =
    failed_put (rw c.new-buffer.ensures at c.in_err-buffer_text.ensures.err) (search rules)

pub returns : goal.returns
returns g c =
    written_through c.new-buffer.ensures c.in_ok-buffer_text.ensures.ok c.flush.ensures.writes
