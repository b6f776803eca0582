use Rattle.aig_base.proofs.Words.{Bool, true, false, List, [], Ok, Err, subst, err_from_is_err_and}
use Rattle.aig_base.specs.declared.logic.literal.Lit.{Lit}
use Rattle.aig_lexer.specs.Takes.{feed}
use Rattle.aig_refutation.specs.Binary.{literal_by}
use Rattle.aig_refutation.specs.Reading.{plain_by}
use Rattle.aig_refutation.specs.ReadingBinary.{GivesItems, GivesLetter}
use Rattle.aig_refutation.specs.Steps.{Learns}
use Rattle.aig_refutation.proofs.BinarySteps.{step_none, step_read, step_unbegun, step_unread}
use Rattle.aig_refutation.proofs.binary.read_step.Goals as goal

pub returns-in_err-read_letter-clause-step : goal.returns-in_err-read_letter-clause-step
returns-in_err-read_letter-clause-step g c =
    let at = feed g.R.Source.left g.R.Source.failed g.R.Source.pulls in
    let before = at c.args.buffer.now c.args.r.now in
    let mid = at c.read_letter.new.buffer c.read_letter.new.r in
    let step = c.read_letter.new.step in
    let e = c.in_err-read_letter.field-0.0 in
    let p = err_from_is_err_and c.from_residual.result c.from_residual.ensures.1 in
    rw (p.1, p.2) (step_unbegun c.args.variables step.deletes before mid (plain_by step) e
    c.in_err-read_letter.ensures.letter)

pub returns-then-not-branch-clause-step : goal.returns-then-not-branch-clause-step
returns-then-not-branch-clause-step g c =
    let at = feed g.R.Source.left g.R.Source.failed g.R.Source.pulls in
    let before = at c.args.buffer.now c.args.r.now in
    let mid = at c.read_letter.new.buffer c.read_letter.new.r in
    let step = c.read_letter.new.step in
    let none : GivesLetter step.deletes before mid (Ok false) = subst (λ (b : Bool).
    GivesLetter step.deletes before mid (Ok b)) c.if-not-branch.true
    c.in_ok-read_letter.ensures.letter in
    step_none c.args.variables step.deletes before mid (Learns step.clause.items) none

pub returns-in_err-read_literals-clause-step : goal.returns-in_err-read_literals-clause-step
returns-in_err-read_literals-clause-step g c =
    let at = feed g.R.Source.left g.R.Source.failed g.R.Source.pulls in
    let before = at c.args.buffer.now c.args.r.now in
    let mid = at c.read_letter.new.buffer c.read_letter.new.r in
    let after = at c.read_literals.new.buffer c.read_literals.new.r in
    let variables = c.args.variables in
    let step = c.read_letter.new.step in
    let letter : GivesLetter step.deletes before mid (Ok true) = subst (λ (b : Bool).
    GivesLetter step.deletes before mid (Ok b)) c.if-not-branch.false
    c.in_ok-read_letter.ensures.letter in
    let e = c.in_err-read_literals.field-0.0 in
    let p = err_from_is_err_and c.from_residual-in_err-read_literals.result
    c.from_residual-in_err-read_literals.ensures.1 in
    let clause = c.read_literals.new.clause.items in
    let items : GivesItems (literal_by variables) [] clause mid after (Err e) = subst
    (λ (old : List Lit). GivesItems (literal_by variables) old clause mid after (Err e))
    c.in_ok-read_letter.ensures.empty c.in_err-read_literals.ensures.clause in
    rw (p.1, p.2) (step_unread variables step.deletes before mid letter clause after (Learns clause) e items)

pub returns-clause-step : goal.returns-clause-step
returns-clause-step g c =
    let at = feed g.R.Source.left g.R.Source.failed g.R.Source.pulls in
    let before = at c.args.buffer.now c.args.r.now in
    let mid = at c.read_letter.new.buffer c.read_letter.new.r in
    let after = at c.read_literals.new.buffer c.read_literals.new.r in
    let variables = c.args.variables in
    let step = c.read_letter.new.step in
    let letter : GivesLetter step.deletes before mid (Ok true) = subst (λ (b : Bool).
    GivesLetter step.deletes before mid (Ok b)) c.if-not-branch.false
    c.in_ok-read_letter.ensures.letter in
    let clause = c.read_literals.new.clause.items in
    let items : GivesItems (literal_by variables) [] clause mid after (Ok tt) = subst
    (λ (old : List Lit). GivesItems (literal_by variables) old clause mid after (Ok tt))
    c.in_ok-read_letter.ensures.empty c.in_ok-read_literals.ensures.clause in
    step_read variables step.deletes before mid letter clause after items
