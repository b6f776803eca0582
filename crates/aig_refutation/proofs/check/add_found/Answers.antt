use Rattle.std.proofs.Common.{List, sym, ◌∙◌}
use Rattle.aig_base.specs.declared.logic.literal.Lit.{Lit}
use Rattle.aig_refutation.specs.Ahead.{IsAhead}
use Rattle.aig_refutation.proofs.Keeping.{adds_stays}
use Rattle.aig_refutation.proofs.Kept.{none_kept}
use Rattle.aig_refutation.proofs.check.add_found.Goals as goal

still : (c : goal.After-add_by_all) (clauses : List (List Lit))
    → IsAhead clauses c.args.checker.now.table → IsAhead clauses c.add_hinted.new.checker.table
still c clauses ahead =
    adds_stays clauses c.args.clause.now c.add_hinted.new.checker.table c.in_ok-number.number
    (c.in_ok-number.ensures.ahead clauses ahead)

pub returns-clause-ahead : goal.returns-clause-ahead
returns-clause-ahead c clauses ahead = c.add_by_all.ensures.ahead clauses (still c clauses ahead)

pub returns-clause-refused : goal.returns-clause-refused
returns-clause-refused c clauses ahead none =
    c.add_by_all.ensures.refused clauses (still c clauses ahead) none

pub returns-clause-keeps : goal.returns-clause-keeps
returns-clause-keeps c live h =
    c.add_by_all.ensures.keeps live
    (none_kept live c.args.clause.now c.add_hinted.new.checker.table c.in_ok-number.number
    (sym c.is_some.ensures ∙ c.if-is_some.false) (c.in_ok-number.ensures.keeps live h))
