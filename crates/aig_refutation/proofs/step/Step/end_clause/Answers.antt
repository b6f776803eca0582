use Rattle.aig_base.proofs.Words.{◌≡◌, [], Some, Err, sym, ap, ◌∙◌, err_from_is_err_and}
use Rattle.aig_refutation.specs.Proofs.{after_clause}
use Rattle.aig_refutation.specs.Tokens.{is_last, said_number}
use Rattle.aig_refutation.proofs.Known.{tells}
use Rattle.aig_refutation.proofs.LineForms.{end_added, end_numbered, end_refused}
use Rattle.aig_refutation.proofs.step.Step.end_clause.Goals as goal

pub returns-then-self-clause-step : goal.returns-then-self-clause-step
returns-then-self-clause-step c adds =
    let n = said_number c.args.first in
    tells c.fault.result (after_clause c.args.self.now.is_numbered c.args.variables (is_last (Some
    c.args.end)) n c.args.self.now.clause.items [] ≡ Err c.fault.result)
    (end_numbered c.args.self.now.is_numbered c.args.variables c.args.end n
    c.args.self.now.clause.items c.if-self.true ∙ ap (λ
    e. Err e) (sym c.fault.ensures))

pub returns-in_err-literal-clause-step : goal.returns-in_err-literal-clause-step
returns-in_err-literal-clause-step c adds =
    let n = said_number c.args.first in
    let e = c.in_err-literal.field-0.0 in
    let p = err_from_is_err_and c.from_residual.result c.from_residual.ensures.1 in
    rw (p.1, p.2)
    (tells e (after_clause c.args.self.now.is_numbered c.args.variables (is_last (Some c.args.end))
    n c.args.self.now.clause.items [] ≡ Err e)
    (end_refused c.args.self.now.is_numbered c.args.variables c.args.end n c.args.self.now.clause.items e c.if-self.false
    c.in_err-literal.ensures.literal))

pub returns-clause-step : goal.returns-clause-step
returns-clause-step c adds =
    end_added c.args.self.now.is_numbered c.args.variables c.args.end (said_number c.args.first)
    c.args.self.now.clause.items c.in_ok-literal.field-0 c.args.self.now.deletes _ _
    c.if-self.false adds c.in_ok-push.ensures.items c.in_ok-literal.ensures.literal
