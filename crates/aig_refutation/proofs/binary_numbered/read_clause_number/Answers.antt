use Rattle.aig_base.proofs.Words.{err_from_is_err_and}
use Rattle.aig_lexer.specs.Takes.{feed}
use Rattle.aig_refutation.proofs.NumberedSteps.{number_read, number_unread, number_zero}
use Rattle.aig_refutation.proofs.binary_numbered.read_clause_number.Goals as goal

pub returns-in_err-number-clause-number : goal.returns-in_err-number-clause-number
returns-in_err-number-clause-number g c variables =
    let at = feed g.R.Source.left g.R.Source.failed g.R.Source.pulls in
    let before = at c.args.buffer.now c.args.r.now in
    let after = at c.read_code.new.buffer c.read_code.new.r in
    let e = c.in_err-number.field-0.0 in
    let p = err_from_is_err_and c.from_residual.result c.from_residual.ensures.1 in
    rw (p.1, p.2) (number_unread variables before after e c.in_err-number.ensures.code)

pub returns-then-number-eq0-clause-number : goal.returns-then-number-eq0-clause-number
returns-then-number-eq0-clause-number g c variables =
    let at = feed g.R.Source.left g.R.Source.failed g.R.Source.pulls in
    let before = at c.args.buffer.now c.args.r.now in
    let after = at c.read_code.new.buffer c.read_code.new.r in
    number_zero variables before after c.in_ok-number.number c.in_ok-number.ensures.code
    c.if-number-eq0.true

pub returns-clause-number : goal.returns-clause-number
returns-clause-number g c variables =
    let at = feed g.R.Source.left g.R.Source.failed g.R.Source.pulls in
    let before = at c.args.buffer.now c.args.r.now in
    let after = at c.read_code.new.buffer c.read_code.new.r in
    number_read variables before after c.in_ok-number.number c.in_ok-number.ensures.code
    c.if-number-eq0.false
