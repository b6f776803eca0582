use Rattle.std.proofs.lemmas.Result.{err_from_is_err_and}
use Rattle.aig_lexer.specs.Takes.{feed}
use Rattle.aig_witness.proofs.ValueLines.{values_begin, values_end, values_error, values_on}
use Rattle.aig_witness.proofs.solutions.values.read_literals.Goals as goal

pub loop-b-init : goal.loop-b-init
loop-b-init g c = values_begin (feed g.R.Source.left g.R.Source.failed g.R.Source.pulls
    c.args.buffer.now c.args.r.now) c.args.values.now

pub loop-b-preserved : goal.loop-b-preserved
loop-b-preserved g c =
    values_on (feed g.R.Source.left g.R.Source.failed g.R.Source.pulls c.args.buffer.now
    c.args.r.now) (feed g.R.Source.left g.R.Source.failed g.R.Source.pulls c.loop-b.buffer
    c.loop-b.r) c.args.values.now c.loop-b.values c.loop-b.invariant
    (feed g.R.Source.left g.R.Source.failed g.R.Source.pulls c.next.new.self c.next.new.r)
    (feed g.R.Source.left g.R.Source.failed g.R.Source.pulls c.read_from.new.buffer
    c.read_from.new.r) c.in_ok-b.field-0 c.in-Some.b c.in_ok-b.ensures.steps c.in-Some.is
    c.read_from.new.values (rw c.in-Word.is at c.in_ok-reached.ensures)

pub returns-in_err-reached-clause-values : goal.returns-in_err-reached-clause-values
returns-in_err-reached-clause-values g c =
    let p = err_from_is_err_and c.from_residual-in_err-reached.result
    c.from_residual-in_err-reached.ensures.1 in
    rw (p.1, p.2) (values_error (feed g.R.Source.left g.R.Source.failed g.R.Source.pulls
    c.args.buffer.now c.args.r.now) (feed g.R.Source.left g.R.Source.failed g.R.Source.pulls
    c.loop-b.buffer c.loop-b.r) c.args.values.now c.loop-b.values c.loop-b.invariant
    (feed g.R.Source.left g.R.Source.failed g.R.Source.pulls c.next.new.self c.next.new.r)
    (feed g.R.Source.left g.R.Source.failed g.R.Source.pulls c.read_from.new.buffer
    c.read_from.new.r) c.in_ok-b.field-0 c.in-Some.b c.in_ok-b.ensures.steps c.in-Some.is
    c.read_from.new.values c.in_err-reached.field-0.0 c.in_err-reached.ensures)

pub returns-clause-values : goal.returns-clause-values
returns-clause-values g c = values_end (feed g.R.Source.left g.R.Source.failed g.R.Source.pulls
    c.args.buffer.now c.args.r.now) (feed g.R.Source.left g.R.Source.failed g.R.Source.pulls
    c.loop-b.buffer c.loop-b.r) c.args.values.now c.loop-b.values c.loop-b.invariant
    (feed g.R.Source.left g.R.Source.failed g.R.Source.pulls c.next.new.self c.next.new.r)
    c.in_ok-b.field-0 c.in_ok-b.ensures.steps c.in_default.is
