use Rattle.aig_base.proofs.Words.{◌≡◌, false, true, Err, Ok, ap, sym, ◌∙◌, err_from_is_err_and}
use Rattle.aig_refutation.specs.Steps.{is_unit}
use Rattle.aig_refutation.proofs.Keeping.{drop_ahead, takes_dropped, takes_learned, takes_unit}
use Rattle.aig_refutation.proofs.Kept.{kept_itself}
use Rattle.aig_refutation.proofs.check.take_searched.Goals as goal

pub returns-then-not-step-clause-ahead : goal.returns-then-not-step-clause-ahead
returns-then-not-step-clause-ahead c clauses ahead =
    takes_learned clauses c.args.step.now
    c.add_searched.new.checker.table c.add_searched.result c.if-not-step.true
    (c.add_searched.ensures.ahead clauses ahead)

pub returns-then-is_unit-clause-ahead : goal.returns-then-is_unit-clause-ahead
returns-then-is_unit-clause-ahead c clauses ahead =
    let unit : is_unit c.args.step.now.clause.items ≡ true =
    ap is_unit (sym c.deref.ensures.value) ∙ sym c.is_unit.ensures ∙ c.if-is_unit.true in
    takes_unit clauses c.args.step.now
    c.args.checker.now.table (Ok false) c.if-not-step.false unit ahead

pub returns-in_err-delete_same-clause-ahead : goal.returns-in_err-delete_same-clause-ahead
returns-in_err-delete_same-clause-ahead c clauses ahead =
    let long : is_unit c.args.step.now.clause.items ≡ false =
    ap is_unit (sym c.deref.ensures.value) ∙ sym c.is_unit.ensures ∙ c.if-is_unit.false in
    let e = c.in_err-delete_same.field-0.0 in
    let p = err_from_is_err_and c.from_residual-in_err-delete_same.result
    c.from_residual-in_err-delete_same.ensures.1 in
    rw (p.1, p.2)
    (takes_dropped clauses c.args.step.now
    c.delete_same.new.self.table (Err e) c.if-not-step.false long
    (c.in_err-delete_same.ensures.ahead clauses ahead))

pub returns-in_default-clause-ahead : goal.returns-in_default-clause-ahead
returns-in_default-clause-ahead c clauses ahead =
    let long : is_unit c.args.step.now.clause.items ≡ false =
    ap is_unit (sym c.deref.ensures.value) ∙ sym c.is_unit.ensures ∙ c.if-is_unit.false in
    takes_dropped clauses c.args.step.now
    c.args.checker.now.table (Ok false) c.if-not-step.false long
    (drop_ahead c.args.checker.now.table clauses c.args.step.now.clause.items ahead)

pub returns-in_default-clause-keeps : goal.returns-in_default-clause-keeps
returns-in_default-clause-keeps c live h = kept_itself live c.args.checker.now.table h
