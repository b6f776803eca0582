use Rattle.aig_check_commands.proofs.Words.{rules, failed_put, written_through}
use Rattle.aig_check_commands.specs.Bounded.{bounded_comments}
use Rattle.aig_check_commands.proofs.checks.bounded.write_places.Goals as goal

pub returns-in_err-buffer_places : goal.returns-in_err-buffer_places
unfolding bounded_comments
returns-in_err-buffer_places g c =
    failed_put (rw (c.new-buffer.ensures, c.as_slice-inputs.ensures.value, c.as_slice.ensures.value) at c.in_err-buffer_places.ensures.err) (search rules)

pub returns : goal.returns
unfolding bounded_comments
returns g c =
    written_through c.new-buffer.ensures (rw (c.as_slice-inputs.ensures.value, c.as_slice.ensures.value) at c.in_ok-buffer_places.ensures.ok) c.flush.ensures.writes
