use Rattle.aig_base.proofs.Words.{rules, arith, ◌<◌, ◌≤◌, length, get_or_from_slice_get}
use Rattle.aig_output.proofs.Putting.{Buffers-turn, all_done, failed_turn}
use Rattle.aig_dimacs.specs.Text.{clause_line}
use Rattle.aig_dimacs.proofs.writing.write_list.Goals as goal

pub returns-in_err-write_clause : goal.returns-in_err-write_clause
returns-in_err-write_clause g c =
    let lt : c.loop-i.i < length c.args.clauses.now = omega (arith, c.loop-i-test.true, c.len-i-end.ensures.count) in
    let here = get_or_from_slice_get c.args.clauses.now c.loop-i.i c.clause.result.now c.clause.result.now c.clause.ensures in
    failed_turn clause_line c.args.clauses.now c.loop-i.i c.clause.result.now lt c.loop-i.invariant (rw (← here) at c.in_err-write_clause.ensures) (search rules)

pub loop-i-preserved : goal.loop-i-preserved
loop-i-preserved g c =
    let lt : c.loop-i.i < length c.args.clauses.now = omega (arith, c.loop-i-test.true, c.len-i-end.ensures.count) in
    let here = get_or_from_slice_get c.args.clauses.now c.loop-i.i c.clause.result.now c.clause.result.now c.clause.ensures in
    Buffers-turn clause_line c.args.clauses.now c.loop-i.i c.clause.result.now lt c.loop-i.invariant (rw (← here) at c.in_ok-write_clause.ensures.ok)

pub returns : goal.returns
returns g c =
    let past : length c.args.clauses.now ≤ c.loop-i.i = omega (arith, c.loop-i-test.false, c.len-i-end.ensures.count) in
    all_done clause_line c.args.clauses.now c.loop-i.i past c.loop-i.invariant
