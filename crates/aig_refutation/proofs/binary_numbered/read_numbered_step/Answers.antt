use Rattle.aig_base.proofs.Words.{Bool, true, false, Ok, ap, subst, ◌∙◌, err_from_is_err_and}
use Rattle.aig_lexer.specs.Takes.{feed}
use Rattle.aig_refutation.specs.Reading.{step_by}
use Rattle.aig_refutation.specs.ReadingBinary.{GivesLetter}
use Rattle.aig_refutation.proofs.NumberedSteps.{numbered_none, numbered_read, numbered_unbegun, numbered_unread}
use Rattle.aig_refutation.proofs.binary_numbered.read_numbered_step.Goals as goal

pub returns-in_err-read_letter-clause-step : goal.returns-in_err-read_letter-clause-step
returns-in_err-read_letter-clause-step g c =
    let at = feed g.R.Source.left g.R.Source.failed g.R.Source.pulls in
    let before = at c.args.buffer.now c.args.r.now in
    let mid = at c.read_letter.new.buffer c.read_letter.new.r in
    let step = c.read_letter.new.step in
    let e = c.in_err-read_letter.field-0.0 in
    let p = err_from_is_err_and c.from_residual.result c.from_residual.ensures.1 in
    rw (p.1, p.2) (numbered_unbegun c.args.variables step.deletes before mid (step_by step) e
    c.in_err-read_letter.ensures.letter)

pub returns-then-not-branch-clause-step : goal.returns-then-not-branch-clause-step
returns-then-not-branch-clause-step g c =
    let at = feed g.R.Source.left g.R.Source.failed g.R.Source.pulls in
    let before = at c.args.buffer.now c.args.r.now in
    let mid = at c.read_letter.new.buffer c.read_letter.new.r in
    let step = c.read_letter.new.step in
    let none : GivesLetter step.deletes before mid (Ok false) = subst (λ (b : Bool).
    GivesLetter step.deletes before mid (Ok b)) c.if-not-branch.true
    c.in_ok-read_letter.ensures.letter in
    numbered_none c.args.variables step.deletes before mid (step_by step) none

pub returns-in_err-read_lists-clause-step : goal.returns-in_err-read_lists-clause-step
returns-in_err-read_lists-clause-step g c =
    let at = feed g.R.Source.left g.R.Source.failed g.R.Source.pulls in
    let before = at c.args.buffer.now c.args.r.now in
    let mid = at c.read_letter.new.buffer c.read_letter.new.r in
    let after = at c.read_lists.new.buffer c.read_lists.new.r in
    let step = c.read_letter.new.step in
    let same = c.in_ok-read_letter.ensures.same in
    let letter : GivesLetter step.deletes before mid (Ok true) = subst (λ (b : Bool).
    GivesLetter step.deletes before mid (Ok b)) c.if-not-branch.false
    c.in_ok-read_letter.ensures.letter in
    let e = c.in_err-read_lists.field-0.0 in
    let p = err_from_is_err_and c.from_residual-in_err-read_lists.result
    c.from_residual-in_err-read_lists.ensures.1 in
    rw (p.1, p.2) (numbered_unread c.args.variables step.deletes before mid
    (step_by c.read_lists.new.step) letter after e
    (c.in_err-read_lists.ensures.step c.in_ok-read_letter.ensures.empty
    (ap (λ v. v.items) same.1 ∙ c.clear.ensures.items)
    (ap (λ v. v.items) same.2 ∙ c.clear-2.ensures.items)))

pub returns-clause-step : goal.returns-clause-step
returns-clause-step g c =
    let at = feed g.R.Source.left g.R.Source.failed g.R.Source.pulls in
    let before = at c.args.buffer.now c.args.r.now in
    let mid = at c.read_letter.new.buffer c.read_letter.new.r in
    let after = at c.read_lists.new.buffer c.read_lists.new.r in
    let step = c.read_letter.new.step in
    let same = c.in_ok-read_letter.ensures.same in
    let letter : GivesLetter step.deletes before mid (Ok true) = subst (λ (b : Bool).
    GivesLetter step.deletes before mid (Ok b)) c.if-not-branch.false
    c.in_ok-read_letter.ensures.letter in
    numbered_read c.args.variables step.deletes before mid (step_by c.read_lists.new.step) letter
    after (c.in_ok-read_lists.ensures.step c.in_ok-read_letter.ensures.empty
    (ap (λ v. v.items) same.1 ∙ c.clear.ensures.items)
    (ap (λ v. v.items) same.2 ∙ c.clear-2.ensures.items))
