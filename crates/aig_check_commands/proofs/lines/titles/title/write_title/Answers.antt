use Rattle.aig_check_commands.proofs.Words.{rules, failed_put, written_through}
use Rattle.aig_check_commands.proofs.lines.titles.title.write_title.Goals as goal

pub returns-in_err-buffer_title : goal.returns-in_err-buffer_title
returns-in_err-buffer_title g c =
    failed_put (rw c.new-buffer.ensures at c.in_err-buffer_title.ensures.err) (search rules)

pub returns : goal.returns
returns g c =
    written_through c.new-buffer.ensures c.in_ok-buffer_title.ensures.ok c.flush.ensures.writes
