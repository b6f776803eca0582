use Rattle.aig_check_commands.proofs.Words.{rules, failed_put, written_through}
use Rattle.aig_check_commands.proofs.file_subjects.write_file.Goals as goal

pub returns-in_err-buffer_file : goal.returns-in_err-buffer_file
returns-in_err-buffer_file g c =
    failed_put (rw c.new-buffer.ensures at c.in_err-buffer_file.ensures.err) (search rules)

pub returns : goal.returns
returns g c =
    written_through c.new-buffer.ensures c.in_ok-buffer_file.ensures.ok c.flush.ensures.writes
