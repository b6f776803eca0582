use Rattle.aig_check_commands.proofs.Words.{rules, failed_put, written_through}
use Rattle.aig_check_commands.proofs.lines.comments.write_comments.Goals as goal

pub returns-in_err-buffer_comments : goal.returns-in_err-buffer_comments
returns-in_err-buffer_comments g c = failed_put (rw c.new-buffer.ensures at c.in_err-buffer_comments.ensures.err) (search rules)

pub returns : goal.returns
returns g c = written_through c.new-buffer.ensures c.in_ok-buffer_comments.ensures.ok c.flush.ensures.writes
