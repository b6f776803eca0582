use Rattle.aig_giving.proofs.Words.{◌<◌, ◌-◌, ◌^◌, length, arith, flat_map, get_or_from_slice_get, AreBelow, clause_numbers}
use Rattle.aig_giving.proofs.Listing.{at_place, below_more, turn}
use Rattle.aig_giving.proofs.numbers.push_lists.Goals as goal

pub push_list-requires : goal.push_list-requires
push_list-requires c =
    let here = rw c.new.ensures at c.clauses_of.ensures in
    let lt : c.loop-v.v < length c.args.clauses.now = omega (
      arith,
      c.loop-v-test.true,
      c.num_vars-v-end.ensures.count,
    ) in
    let below = at_place (AreBelow (length c.args.clauses.now)) c.args.clauses.now c.loop-v.v
    c.clauses_of.result.now lt here c.num_vars-v-end.ensures.relations.below in
    below_more (length c.args.clauses.now) (2 ^ 31 - 1) (omega (arith, c.requires))
    c.clauses_of.result.now below

pub loop-v-preserved : goal.loop-v-preserved
loop-v-preserved c =
    let lt : c.loop-v.v < length c.args.clauses.now = omega (
      arith,
      c.loop-v-test.true,
      c.num_vars-v-end.ensures.count,
    ) in
    let here = get_or_from_slice_get c.args.clauses.now c.loop-v.v c.clauses_of.result.now
    c.clauses_of.result.now (rw c.new.ensures at c.clauses_of.ensures) in
    turn (flat_map clause_numbers) c.args.clauses.now c.loop-v.v c.clauses_of.result.now lt here _ _
    _ c.loop-v.invariant c.in_ok-push_list.ensures
