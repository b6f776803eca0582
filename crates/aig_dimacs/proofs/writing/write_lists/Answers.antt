use Rattle.aig_base.proofs.Words.{rules, arith, ◌<◌, ◌≤◌, length, get_or_from_slice_get, flat_map}
use Rattle.aig_output.proofs.Putting.{Buffers-turn, all_done, failed_turn}
use Rattle.aig_dimacs.specs.Text.{clause_line}
use Rattle.aig_dimacs.proofs.writing.write_lists.Goals as goal

pub returns-in_err-write_list : goal.returns-in_err-write_list
returns-in_err-write_list g c =
    let lt : c.loop-v.v < length c.args.clauses.now = omega (arith, c.loop-v-test.true, c.num_vars-v-end.ensures.count) in
    let here = get_or_from_slice_get c.args.clauses.now c.loop-v.v c.clauses_of.result.now c.clauses_of.result.now (rw c.new.ensures at c.clauses_of.ensures) in
    failed_turn (flat_map clause_line) c.args.clauses.now c.loop-v.v c.clauses_of.result.now lt c.loop-v.invariant (rw (← here) at c.in_err-write_list.ensures) (search rules)

pub loop-v-preserved : goal.loop-v-preserved
loop-v-preserved g c =
    let lt : c.loop-v.v < length c.args.clauses.now = omega (arith, c.loop-v-test.true, c.num_vars-v-end.ensures.count) in
    let here = get_or_from_slice_get c.args.clauses.now c.loop-v.v c.clauses_of.result.now c.clauses_of.result.now (rw c.new.ensures at c.clauses_of.ensures) in
    Buffers-turn (flat_map clause_line) c.args.clauses.now c.loop-v.v c.clauses_of.result.now lt c.loop-v.invariant (rw (← here) at c.in_ok-write_list.ensures.ok)

pub returns : goal.returns
returns g c =
    let past : length c.args.clauses.now ≤ c.loop-v.v = omega (arith, c.loop-v-test.false, c.num_vars-v-end.ensures.count) in
    all_done (flat_map clause_line) c.args.clauses.now c.loop-v.v past c.loop-v.invariant
