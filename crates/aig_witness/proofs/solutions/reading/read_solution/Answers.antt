use Rattle.aig_base.proofs.Words.{◌∙◌, err_from_is_err_and}
use Rattle.aig_lexer.specs.Takes.{feed}
use Rattle.aig_witness.proofs.Solved.{none_held, said_error}
use Rattle.aig_witness.proofs.solutions.reading.read_solution.Goals as goal

pub returns-in_err-read_lines : goal.returns-in_err-read_lines
returns-in_err-read_lines g c =
    let p = err_from_is_err_and c.from_residual-in_err-read_lines.result
    c.from_residual-in_err-read_lines.ensures.1 in
    rw (p.1, p.2)
    (said_error (g.R.Source.left c.args.r.now) c.args.variables
    (feed g.R.Source.left g.R.Source.failed g.R.Source.pulls c.new-buffer.result c.args.r.now)
    (feed g.R.Source.left g.R.Source.failed g.R.Source.pulls c.read_lines.new.buffer
    c.read_lines.new.r) c.deref_mut.result.now c.read_lines.new.values
    (none_held c.new-buffer.result (g.R.Source.left c.args.r.now) c.new-buffer.ensures)
    (c.deref_mut.ensures.value ∙ c.in_ok-values.ensures) c.in_err-read_lines.field-0.0
    c.in_err-read_lines.ensures)
