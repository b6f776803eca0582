use Rattle.aig_giving.proofs.Words.{◌<◌, ◌-◌, ◌^◌, length, arith, All, get_or_from_slice_get, variable_of, clause_numbers}
use Rattle.aig_giving.proofs.Listing.{at_place, turn}
use Rattle.aig_giving.proofs.numbers.push_list.Goals as goal

pub push_clause-requires : goal.push_clause-requires
push_clause-requires c =
    let lt : c.loop-i.i < length c.args.clauses.now = omega (
      arith,
      c.loop-i-test.true,
      c.len-i-end.ensures.count,
    ) in
    at_place (All (λ lit. variable_of lit < 2 ^ 31 - 1)) c.args.clauses.now c.loop-i.i
    c.clause.result.now lt c.clause.ensures c.requires

pub loop-i-preserved : goal.loop-i-preserved
loop-i-preserved c =
    let lt : c.loop-i.i < length c.args.clauses.now = omega (
      arith,
      c.loop-i-test.true,
      c.len-i-end.ensures.count,
    ) in
    let here = get_or_from_slice_get c.args.clauses.now c.loop-i.i c.clause.result.now
    c.clause.result.now c.clause.ensures in
    turn clause_numbers c.args.clauses.now c.loop-i.i c.clause.result.now lt here _ _ _
    c.loop-i.invariant c.in_ok-push_clause.ensures
