use Rattle.std.proofs.Common.{sym, ◌∙◌}
use Rattle.aig_refutation.proofs.Keeping.{adds_stays}
use Rattle.aig_refutation.proofs.Kept.{none_kept}
use Rattle.aig_refutation.proofs.check.add_hinted.Goals as goal

pub returns-clause-ahead : goal.returns-clause-ahead
returns-clause-ahead c clauses ahead =
    c.add_rat.ensures.ahead clauses
    (adds_stays clauses c.args.clause.now c.add_next.new.self.table c.in_ok-number.number
    (c.in_ok-number.ensures.ahead clauses ahead))

pub returns-clause-keeps : goal.returns-clause-keeps
returns-clause-keeps c live h =
    c.add_rat.ensures.keeps live
    (none_kept live c.args.clause.now c.add_next.new.self.table c.in_ok-number.number
    (sym c.is_some.ensures ∙ c.if-is_some.false) (c.in_ok-number.ensures.keeps live h))
