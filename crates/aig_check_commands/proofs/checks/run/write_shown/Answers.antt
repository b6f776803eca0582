use Rattle.aig_check_commands.proofs.Words.{rules, failed_put, written_through}
use Rattle.aig_check_commands.proofs.checks.run.write_shown.Goals as goal

pub returns-in_err-buffer_shown : goal.returns-in_err-buffer_shown
returns-in_err-buffer_shown g c = failed_put (rw c.new-buffer.ensures at
    c.in_err-buffer_shown.ensures.err) (search rules)

pub returns : goal.returns
returns g c = written_through c.new-buffer.ensures c.in_ok-buffer_shown.ensures.ok
    c.flush.ensures.writes
