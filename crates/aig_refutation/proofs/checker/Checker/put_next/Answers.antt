use Rattle.std.proofs.Common.{◌<◌, ◌^◌, Ok, sym, subst, arith}
use Rattle.aig_refutation.specs.Checking.{Live}
use Rattle.aig_refutation.specs.Tables.{Holds}
use Rattle.aig_refutation.proofs.Keeping.{put_ahead}
use Rattle.aig_refutation.proofs.Kept.{numbered_is}
use Rattle.aig_refutation.proofs.checker.Checker.put_next.Goals as goal

pub returns-clause-adds : goal.returns-clause-adds
returns-clause-adds c live h =
    let moved = c.in_ok-put.ensures.moves live h in
    subst (λ (next : Live). Holds c.put.new.self.table next)
    (sym (numbered_is live c.args.clause.now c.in_ok-number.number moved.0 moved.1)) moved.2

pub returns-clause-ahead : goal.returns-clause-ahead
returns-clause-ahead c clauses ahead =
    let number = c.in_ok-number.number in
    let fits : number < 2 ^ 32 = omega arith in
    put_ahead c.args.self.now.table c.put.new.self.table clauses ahead number
    c.in_ok-number.ensures fits c.args.clause.now
    {X = Unit {0}} (Ok tt) c.in_ok-put.ensures.moves
