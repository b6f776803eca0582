use Rattle.std.proofs.Common.{arith}
use Rattle.aig_answers.proofs.Saying.{rows_more}
use Rattle.aig_answers.proofs.bounded_checks.values.false_inputs.Goals as goal

pub loop-preserved : goal.loop-preserved
loop-preserved c =
    let more = rows_more c.args.count c.loop.rows.items c.push.new.self.items
    c.in_ok-false_row.field-0 c.loop.invariant.1 c.in_ok-push.ensures.items
    c.in_ok-false_row.ensures in
    (omega (arith, more.0, c.loop.invariant.0), more.1)

pub returns-clause-count : goal.returns-clause-count
returns-clause-count c =
    let more = rows_more c.args.count c.loop.rows.items c.push-2.new.self.items
    c.in_ok-false_row-2.field-0 c.loop.invariant.1 c.in_ok-push-2.ensures.items
    c.in_ok-false_row-2.ensures in
    omega (arith, more.0, c.loop.invariant.0, c.loop-test.false)

pub returns-clause-rows : goal.returns-clause-rows
returns-clause-rows c =
    (rows_more c.args.count c.loop.rows.items c.push-2.new.self.items c.in_ok-false_row-2.field-0
    c.loop.invariant.1 c.in_ok-push-2.ensures.items c.in_ok-false_row-2.ensures).1
