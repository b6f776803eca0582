use Rattle.aig_base.proofs.Words.{ℕ, List, [], Ok, Err, subst, err_from_is_err_and}
use Rattle.aig_base.specs.declared.logic.literal.Lit.{Lit}
use Rattle.aig_lexer.specs.Takes.{feed}
use Rattle.aig_refutation.specs.Binary.{literal_by}
use Rattle.aig_refutation.specs.BinaryNumbered.{deleted_by}
use Rattle.aig_refutation.specs.ReadingBinary.{GivesItems}
use Rattle.aig_refutation.specs.Steps.{Deletes}
use Rattle.aig_refutation.specs.Tokens.{said_numbers}
use Rattle.aig_refutation.proofs.NumberedSteps.{deletion_ends, hints_end, literals_fail}
use Rattle.aig_refutation.proofs.binary_numbered.read_lists.Goals as goal

pub returns-then-step-clause-step : goal.returns-then-step-clause-step
returns-then-step-clause-step g c no_clause no_numbers no_groups =
    let at = feed g.R.Source.left g.R.Source.failed g.R.Source.pulls in
    let before = at c.args.buffer.now c.args.r.now in
    let after = at c.read_deleted.new.buffer c.read_deleted.new.r in
    let numbers = c.read_deleted.new.numbers.items in
    rw c.if-step.true (deletion_ends c.args.variables numbers before after c.read_deleted.result
    (subst (λ (old : List ℕ). GivesItems deleted_by old numbers before after c.read_deleted.result)
    no_numbers c.read_deleted.ensures.numbers))

pub returns-in_err-step-clause-step : goal.returns-in_err-step-clause-step
returns-in_err-step-clause-step g c no_clause no_numbers no_groups =
    let e = c.in_err-step.field-0.0 in
    let p = err_from_is_err_and c.from_residual.result c.from_residual.ensures.1 in
    rw (p.1, p.2, c.if-step.false) (c.in_err-step.ensures.number c.args.variables)

pub returns-in_err-read_literals-clause-step : goal.returns-in_err-read_literals-clause-step
returns-in_err-read_literals-clause-step g c no_clause no_numbers no_groups =
    let at = feed g.R.Source.left g.R.Source.failed g.R.Source.pulls in
    let before = at c.args.buffer.now c.args.r.now in
    let mid = at c.read_clause_number.new.buffer c.read_clause_number.new.r in
    let after = at c.read_literals.new.buffer c.read_literals.new.r in
    let variables = c.args.variables in
    let number = c.in_ok-step.field-0 in
    let clause = c.read_literals.new.clause.items in
    let e = c.in_err-read_literals.field-0.0 in
    let p = err_from_is_err_and c.from_residual-in_err-read_literals.result
    c.from_residual-in_err-read_literals.ensures.1 in
    rw (p.1, p.2, c.if-step.false) (literals_fail variables number before mid
    (c.in_ok-step.ensures.number variables) clause (Deletes []) after e
    (subst (λ (old : List Lit). GivesItems (literal_by variables) old clause mid after (Err e))
    no_clause c.in_err-read_literals.ensures.clause))

pub returns-clause-step : goal.returns-clause-step
returns-clause-step g c no_clause no_numbers no_groups =
    let at = feed g.R.Source.left g.R.Source.failed g.R.Source.pulls in
    let before = at c.args.buffer.now c.args.r.now in
    let mid = at c.read_clause_number.new.buffer c.read_clause_number.new.r in
    let now = at c.read_literals.new.buffer c.read_literals.new.r in
    let after = at c.read_hints.new.buffer c.read_hints.new.r in
    let variables = c.args.variables in
    let number = c.in_ok-step.field-0 in
    let clause = c.read_literals.new.clause.items in
    let literals : GivesItems (literal_by variables) [] clause mid now (Ok tt) = subst
    (λ (old : List Lit). GivesItems (literal_by variables) old clause mid now (Ok tt))
    no_clause c.in_ok-read_literals.ensures.clause in
    rw c.if-step.false (hints_end variables number before mid
    (c.in_ok-step.ensures.number variables) clause now literals
    c.read_hints.new.hints.items (said_numbers c.read_hints.new.groups.items) after
    c.read_hints.result (c.read_hints.ensures.hints no_numbers no_groups))
