use Rattle.std.proofs.Common.{rules}
use Rattle.aig_output.proofs.Putting.{failed_put, written_through}
use Rattle.aig_dimacs.specs.Text.{dimacs_of}
use Rattle.aig_dimacs.proofs.writing.write_dimacs.Goals as goal

pub returns-in_err-write_lines-clause-writes : goal.returns-in_err-write_lines-clause-writes
unfolding dimacs_of
returns-in_err-write_lines-clause-writes g c =
    let h = c.counts-counts.ensures in
    failed_put (rw (c.new-buffer.ensures, h.variables, h.clauses) at c.in_err-write_lines.ensures.err) (search rules)

pub returns-clause-writes : goal.returns-clause-writes
unfolding dimacs_of
returns-clause-writes g c =
    let h = c.counts-counts.ensures in
    written_through c.new-buffer.ensures (rw (h.variables, h.clauses) at c.in_ok-write_lines.ensures.ok) c.flush.ensures.writes
